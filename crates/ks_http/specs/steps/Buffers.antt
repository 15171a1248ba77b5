-- The steps of a reader over the bytes in hand and those that are still to come.
use Rattle.std.specs.Prelude.{◌≡◌, ◌≤◌, ◌<◌, ℕ, List, [], ◌++◌, length, take, drop, Option, Some, None, Result, Ok, Err, ⊤}
use Rattle.httparse.specs.Grammar.{RequestHead}
use Rattle.httparse.specs.Spans.{IsRequestAt, IsRequestWithin}
use Rattle.httparse.specs.declared.spans.HeaderSpan.{HeaderSpan}
use Rattle.httparse.specs.declared.spans.RequestSpans.{RequestSpans}
use Rattle.ks_base.specs.declared.limits.TheConstants.{HEAD_BYTES}
use Rattle.ks_http.specs.declared.buffer.TheConstants.{PIECE_BYTES}
use Rattle.ks_http.specs.declared.cause.HttpCause.TheVariants.{Malformed}
use Rattle.ks_http.specs.declared.ending.Ending.{Ending}
use Rattle.ks_http.specs.declared.ending.Ending.TheVariants.{End, Bad, ReadFault, Memory}
use Rattle.ks_http.specs.declared.look.Look.{Look}
use Rattle.ks_http.specs.declared.look.Look.TheVariants.{Whole, Refused, More}
use Rattle.ks_http.specs.declared.parts.RequestParts.{RequestParts}
use Rattle.ks_http.specs.Lines.{settled_cause}
use Rattle.ks_http.specs.Next.{BeginsWith, HasNoHead, Opens, Ends, IsRefused}

-- so many bytes came from the front of `left` behind those that were held; none only at the end
pub record Filled (held left new : List ℕ) (after : Option (List ℕ)) (count : ℕ) : Type 0 where
  pub rest : List ℕ
  pub left_is : after ≡ Some rest
  pub same : held ++ left ≡ new ++ rest
  pub ended : count ≡ 0 → rest ≡ []

abbrev pub Fills : List ℕ → List ℕ → List ℕ → Option (List ℕ) → Result ℕ Ending → Type 0
Fills held left new after (Ok count) = Filled held left new after count
Fills held left new after (Err End) = ⊥
Fills held left new after (Err (Bad cause)) = ⊥
Fills held left new after (Err ReadFault) = (new ≡ held) × (after ≡ Some left)
Fills held left new after (Err Memory) = ⊤

-- one piece was read, or nothing
pub record ReadsPiece (left : List ℕ) (after : Option (List ℕ)) : Type 0 where
  pub piece : List ℕ
  pub rest : List ℕ
  pub left_is : left ≡ piece ++ rest
  pub short : length piece ≤ PIECE_BYTES
  pub after_is : after ≡ Some rest

-- a body of so many bytes wants more
abbrev pub IsShorter : ℕ → List ℕ → Type 0
IsShorter size bytes = length bytes < size

-- the spans are those of a head at the front of the bytes
pub record IsHeadAt (bytes : List ℕ) (headers : List HeaderSpan) (spans : RequestSpans) : Type 0 where
  pub head : RequestHead
  pub begins : BeginsWith bytes head (drop spans.len bytes)
  pub at : IsRequestAt bytes headers spans head

-- no head stands at the front of the bytes, and no cause is settled yet
pub record IsUndecided (bytes : List ℕ) : Type 0 where
  pub headless : HasNoHead bytes
  pub unsettled : settled_cause bytes ≡ None

-- what a look finds holds of the bytes however they go on, but that more are awaited
abbrev pub Finds : List ℕ → List HeaderSpan → Look → Type 0
Finds bytes headers (Whole spans) = IsHeadAt bytes headers spans
Finds bytes headers (Refused cause) =
    (more : List ℕ) → HasNoHead (bytes ++ more) × (settled_cause (bytes ++ more) ≡ Some cause)
Finds bytes headers More = IsUndecided bytes × (length bytes < HEAD_BYTES)

-- the cause that is settled, or that none is yet
abbrev pub Judged : List ℕ → Look → Type 0
Judged bytes (Whole spans) = ⊥
Judged bytes (Refused cause) = settled_cause bytes ≡ Some cause
Judged bytes More = settled_cause bytes ≡ None

-- the spans that a look finds lie in the bytes
abbrev pub FindsWithin : List ℕ → List HeaderSpan → Look → Type 0
FindsWithin bytes headers (Whole spans) = IsRequestWithin bytes headers spans
FindsWithin bytes headers (Refused cause) = ⊤
FindsWithin bytes headers More = ⊤

-- the same of the bytes in hand, of which a head stands in the first 16,384
abbrev pub Looks : List ℕ → List HeaderSpan → Look → Type 0
Looks held headers (Whole spans) = IsHeadAt (take HEAD_BYTES held) headers spans
Looks held headers (Refused cause) = (rest : List ℕ) → IsRefused (held ++ rest) cause
Looks held headers More = IsUndecided held × (length held < HEAD_BYTES)

-- the same, where the first `before` bytes were looked at
abbrev pub Glances : List ℕ → ℕ → List HeaderSpan → Look → Type 0
Glances held before headers (Whole spans) = IsHeadAt (take HEAD_BYTES held) headers spans
Glances held before headers (Refused cause) = (rest : List ℕ) → IsRefused (held ++ rest) cause
Glances held before headers More = (IsUndecided (take before held) → IsUndecided held) × (length held < HEAD_BYTES)

-- the search for a head in these bytes ended so
abbrev pub FindsHead : List ℕ → List ℕ → Option (List ℕ) → List HeaderSpan → Result RequestSpans Ending → Type 0
FindsHead bytes held left headers (Ok spans) =
    (rest : List ℕ) × (left ≡ Some rest) × (held ++ rest ≡ bytes) × IsHeadAt (take HEAD_BYTES held) headers spans
FindsHead bytes held left headers (Err ending) = Ends bytes left ending

abbrev pub OpensAt : List ℕ → List ℕ → Option (List ℕ) → Result RequestParts Ending → Type 0
OpensAt bytes held left (Ok parts) = (rest : List ℕ) × (left ≡ Some rest) × Opens bytes (Ok parts) (held ++ rest)
OpensAt bytes held left (Err ending) = Ends bytes left ending

-- the bytes in hand and those that are left are the whole
pub record Stands (whole held : List ℕ) (left : Option (List ℕ)) : Type 0 where
  pub rest : List ℕ
  pub left_is : left ≡ Some rest
  pub whole_is : held ++ rest ≡ whole

-- so many bytes are in hand, or the input ended before them
abbrev pub FillsTo : List ℕ → ℕ → List ℕ → Option (List ℕ) → Result (Unit {0}) Ending → Type 0
FillsTo bytes size held left (Ok done) = Stands bytes held left
FillsTo bytes size held left (Err End) = ⊥
FillsTo bytes size held left (Err (Bad cause)) = (cause ≡ Malformed) × (length bytes < size) × (left ≡ Some [])
FillsTo bytes size held left (Err ReadFault) = Stands bytes held left × (length held < size)
FillsTo bytes size held left (Err Memory) = ⊤

-- a body of so many bytes was taken from the front
pub record Taken (bytes : List ℕ) (count : ℕ) (held : List ℕ) (left : Option (List ℕ)) (body : List ℕ) : Type 0 where
  pub rest : List ℕ
  pub left_is : left ≡ Some rest
  pub enough : count ≤ length bytes
  pub body_is : body ≡ take count bytes
  pub rest_is : held ++ rest ≡ drop count bytes

abbrev pub TakesBody : List ℕ → ℕ → List ℕ → Option (List ℕ) → Result (List ℕ) Ending → Type 0
TakesBody bytes count held left (Ok body) = Taken bytes count held left body
TakesBody bytes count held left (Err End) = ⊥
TakesBody bytes count held left (Err (Bad cause)) = (cause ≡ Malformed) × (length bytes < count) × (left ≡ Some [])
TakesBody bytes count held left (Err ReadFault) = Stands bytes held left × (length held < count)
TakesBody bytes count held left (Err Memory) = ⊤
