-- The requests of a stream of bytes.
-- Source: RFC 9112, 2 to 6, by the grammar of `httparse`, and 9.3; own limit.
use Rattle.std.specs.Prelude.{◌≡◌, ◌≢◌, ◌≤◌, ◌<◌, ◌⊎◌, ◌+◌, ℕ, true, false, List, [], ◌∷◌, ◌++◌, length, take, drop, Option, Some, None, Result, Ok, Err, ⊤}
use Rattle.httparse.specs.Grammar.{RequestHead, ReadsRequest, print_request}
use Rattle.ks_base.specs.declared.limits.TheConstants.{CONNECTION_REQUESTS, HEAD_BYTES, HEAD_FIELDS}
use Rattle.ks_http.specs.declared.buffer.TheConstants.{PIECE_BYTES}
use Rattle.ks_http.specs.declared.cause.HttpCause.{HttpCause}
use Rattle.ks_http.specs.declared.cause.HttpCause.TheVariants.{Malformed}
use Rattle.ks_http.specs.declared.ending.Ending.{Ending}
use Rattle.ks_http.specs.declared.ending.Ending.TheVariants as ending
use Rattle.ks_http.specs.declared.next.Next.{Next}
use Rattle.ks_http.specs.declared.next.Next.TheVariants as next
use Rattle.ks_http.specs.declared.parts.RequestParts.{RequestParts}
use Rattle.ks_http.specs.declared.request.Request.{Request}
use Rattle.ks_http.specs.Heads.{parts_of}
use Rattle.ks_http.specs.Lines.{settled_cause}

-- | the bytes are a head of at most 16,384 bytes and 64 fields, and then `after`
pub record BeginsWith (bytes : List ℕ) (head : RequestHead) (after : List ℕ) : Type 0 where
  pub reads : ReadsRequest bytes head after
  pub short : length (print_request head) ≤ HEAD_BYTES
  pub few : length head.fields ≤ HEAD_FIELDS

abbrev pub HasNoHead : List ℕ → Type 0
HasNoHead bytes = (head : RequestHead) (after : List ℕ) → BeginsWith bytes head after → ⊥

-- the bytes begin with a head that says this, and go on with `after`
pub record Opens (bytes : List ℕ) (parts : Result RequestParts HttpCause) (after : List ℕ) : Type 0 where
  pub head : RequestHead
  pub begins : BeginsWith bytes head after
  pub says : parts_of head ≡ parts

-- the request of the parts of a head and a body
abbrev pub request_of : RequestParts → List ℕ → Request
request_of o body = record {
  method = o.method;
  path = o.path;
  query = o.query;
  auth = o.auth;
  subject = o.subject;
  body = body;
  close = o.close;
}

-- | the bytes are a request, and then `rest`
pub record IsFirst (bytes : List ℕ) (request : Request) (rest : List ℕ) : Type 0 where
  pub parts : RequestParts
  pub after : List ℕ
  pub opens : Opens bytes (Ok parts) after
  pub enough : parts.length ≤ length after
  pub request_is : request ≡ request_of parts (take parts.length after)
  pub rest_is : rest ≡ drop parts.length after

-- | the bytes are refused, whatever follows them
pub data IsRefused (bytes : List ℕ) (cause : HttpCause) : Type 0 where
  headless : HasNoHead bytes → settled_cause bytes ≡ Some cause → IsRefused bytes cause
  by_head : (after : List ℕ) → Opens bytes (Err cause) after → IsRefused bytes cause

-- | the bytes are the beginning of a request, at which the input ended
pub data IsCut (bytes : List ℕ) : Type 0 where
  in_head : HasNoHead bytes → settled_cause bytes ≡ None → bytes ≢ [] → IsCut bytes
  in_body : (parts : RequestParts) (after : List ℕ) → Opens bytes (Ok parts) after → length after < parts.length → IsCut bytes

-- nothing, or the beginning of a request: only from more bytes can an answer come
abbrev pub IsUnfinished : List ℕ → Type 0
IsUnfinished bytes = (bytes ≡ []) ⊎ IsCut bytes

-- | a read failed: what was read of these bytes is nothing or the beginning of a request, and `left` is what follows it
pub record IsBegun (bytes : List ℕ) (left : Option (List ℕ)) : Type 0 where
  pub read : List ℕ
  pub rest : List ℕ
  pub left_is : left ≡ Some rest
  pub bytes_is : bytes ≡ read ++ rest
  pub begun : IsUnfinished read

-- | why no request comes from these bytes, of which `left` is still unread
abbrev pub Ends : List ℕ → Option (List ℕ) → Ending → Type 0
Ends bytes left ending.End = (bytes ≡ []) × (left ≡ Some [])
Ends bytes left (ending.Bad cause) = IsRefused bytes cause ⊎ (IsCut bytes × (cause ≡ Malformed) × (left ≡ Some []))
Ends bytes left ending.ReadFault = IsBegun bytes left
Ends bytes left ending.Memory = ⊤

-- what comes first from these bytes, of which `held` and `left` are what then remains
abbrev pub Comes : List ℕ → List ℕ → Option (List ℕ) → Result Request Ending → Type 0
Comes bytes held left (Ok request) = (rest : List ℕ) × (left ≡ Some rest) × IsFirst bytes request (held ++ rest)
Comes bytes held left (Err ending) = Ends bytes left ending

-- | these bytes were read but for `left`, and before the last piece of them, of 4,096 bytes at most, what had come wanted more
pub record ReadsWhile (wants : List ℕ → Type 0) (bytes : List ℕ) (left : Option (List ℕ)) : Type 0 where
  pub front : List ℕ
  pub piece : List ℕ
  pub rest : List ℕ
  pub bytes_are : bytes ≡ front ++ (piece ++ rest)
  pub wanting : wants front
  pub short : length piece ≤ PIECE_BYTES
  pub left_is : left ≡ Some rest

-- of these bytes, of which `before` was unread, a reader read no more than it had to: nothing, or at most a piece behind what wanted
-- more
abbrev pub ReadsNeeded : (List ℕ → Type 0) → List ℕ → List ℕ → Option (List ℕ) → Type 0
ReadsNeeded wants bytes before left = (left ≡ Some before) ⊎ ReadsWhile wants bytes left

-- an answer is a request or an ending
abbrev pub answer_of : Next → Result Request Ending
answer_of (next.Request request) = Ok request
answer_of next.End = Err ending.End
answer_of (next.Bad cause) = Err (ending.Bad cause)
answer_of next.ReadFault = Err ending.ReadFault
answer_of next.Memory = Err ending.Memory

abbrev pub next_of : Ending → Next
next_of ending.End = next.End
next_of (ending.Bad cause) = next.Bad cause
next_of ending.ReadFault = next.ReadFault
next_of ending.Memory = next.Memory

abbrev pub ending_of : Next → Option Ending
ending_of (next.Request request) = None
ending_of next.End = Some ending.End
ending_of (next.Bad cause) = Some (ending.Bad cause)
ending_of next.ReadFault = Some ending.ReadFault
ending_of next.Memory = Some ending.Memory

-- how the requests of a connection end
pub data Close : Type 0 where
  asked last ended : Close
  bad : HttpCause → Close

-- | the requests of these bytes behind `count` others: up to and with the first that closes or the
-- 1,000,000th, and how they end
pub data Requests : ℕ → List ℕ → List Request → Close → Type 0 where
  none : (count : ℕ) → Requests count [] [] ended
  refused : (count : ℕ) (bytes : List ℕ) (cause : HttpCause) → IsRefused bytes cause → Requests count bytes [] (bad cause)
  cut : (count : ℕ) (bytes : List ℕ) → IsCut bytes → Requests count bytes [] (bad Malformed)
  closes : (count : ℕ) (bytes rest : List ℕ) (request : Request) → IsFirst bytes request rest
      → request.close ≡ true → Requests count bytes (request ∷ []) asked
  fills : (count : ℕ) (bytes rest : List ℕ) (request : Request) → IsFirst bytes request rest
      → request.close ≡ false → count + 1 ≡ CONNECTION_REQUESTS → Requests count bytes (request ∷ []) last
  goes_on : (count : ℕ) (bytes rest : List ℕ) (request : Request) (requests : List Request) (close : Close)
      → IsFirst bytes request rest → request.close ≡ false → count + 1 < CONNECTION_REQUESTS
      → Requests (count + 1) rest requests close → Requests count bytes (request ∷ requests) close
