-- The lines of a request's head (RFC 9112, sections 2.2, 3 and 5), and what refuses bytes that begin
-- with no whole head.
-- Source: RFC 9112, 2.2, 3 and 5.
use Rattle.std.specs.Prelude.{ℕ, ◌+◌, ◌-◌, ◌==◌, nat_lt, Bool, true, false, ◌&&◌, ◌||◌, if◌then◌else◌, List, [], ◌∷◌, ◌++◌, length, take, drop, slice_index, fold, Option, Some, None, codes}
use Rattle.std.specs.List.{list_all, position, starts_with}
use Rattle.std.specs.Str.{is_utf8, bytes_eq}
use Rattle.std.specs.Prelude.{nat_eq}
use Rattle.std.specs.Char.{is_ascii_digit}
use Rattle.std.specs.Option.{option_map}
use Rattle.httparse.specs.Grammar.{is_token, is_uri_byte, is_value_byte}
use Rattle.ks_base.specs.declared.limits.TheConstants.{HEAD_BYTES, HEAD_FIELDS}
use Rattle.ks_http.specs.declared.cause.HttpCause.{HttpCause}
use Rattle.ks_http.specs.declared.cause.HttpCause.TheVariants.{Malformed, HeadTooLarge, Version}
use Rattle.ks_http.specs.declared.lines.HeadPlace.{HeadPlace}
use Rattle.ks_http.specs.declared.lines.HeadPlace.TheVariants.{Start, Fields, Refused}

-- what stands before a place and behind it
abbrev pub sides : List ℕ → ℕ → List ℕ × List ℕ
sides text k = (take k text, drop (k + 1) text)

-- the text before the first such byte, and the text behind it
abbrev pub cut_at : ℕ → List ℕ → Option (List ℕ × List ℕ)
cut_at byte text = option_map (sides text) (position (λ b. b == byte) text)

-- a carriage return before the line feed belongs to the line's end
unfoldable pub without_return : List ℕ → List ℕ
without_return line = if slice_index line (length line - 1) == 13 then take (length line - 1) line else line

-- one or more bytes other than space and control characters
unfoldable pub is_word : List ℕ → Bool
is_word [] = false
is_word (b ∷ text) = list_all is_uri_byte (b ∷ text)

-- "HTTP/" digit "." digit
unfoldable pub is_version : List ℕ → Bool
is_version text =
    (length text == 8) && (bytes_eq (take 5 text) (codes "HTTP/") && (is_ascii_digit (slice_index text 5)
    && ((slice_index text 6 == 46) && is_ascii_digit (slice_index text 7))))

-- HTTP/1.0 or HTTP/1.1
unfoldable pub is_known_version : List ℕ → Bool
is_known_version text = bytes_eq text (codes "HTTP/1.0") || bytes_eq text (codes "HTTP/1.1")

-- behind a first line of these three parts
unfoldable pub behind_parts : List ℕ → List ℕ → List ℕ → HeadPlace
behind_parts method target version =
    if is_word method && (is_word target && is_version version)
    then (if is_known_version version
    then (if is_token method && is_utf8 target then Fields 0 else Refused Malformed)
    else Refused Version)
    else Refused Malformed

unfoldable pub behind_method : List ℕ → Option (List ℕ × List ℕ) → HeadPlace
behind_method method None = Refused Malformed
behind_method method (Some cut) = behind_parts method cut.0 cut.1

-- behind a first line of one part
unfoldable pub behind_one : List ℕ → HeadPlace
behind_one [] = Start
behind_one (b ∷ line) = Refused Malformed

-- request-line = method SP target SP version; empty lines may stand before it
unfoldable pub behind_first : List ℕ → Option (List ℕ × List ℕ) → HeadPlace
behind_first line None = behind_one line
behind_first line (Some cut) = behind_method cut.0 (cut_at 32 cut.1)

-- field-line = token ":" value
unfoldable pub is_name_and_value : Option (List ℕ × List ℕ) → Bool
is_name_and_value None = false
is_name_and_value (Some cut) = is_token cut.0 && list_all is_value_byte cut.1

unfoldable pub is_field_line : List ℕ → Bool
is_field_line line = is_name_and_value (cut_at 58 line)

-- behind one more field line; a head has 64 at most
unfoldable pub behind_field : ℕ → List ℕ → HeadPlace
behind_field count line =
    if is_field_line line
    then (if nat_lt count HEAD_FIELDS then Fields (count + 1) else Refused HeadTooLarge)
    else Refused Malformed

-- behind one more line, which is given without its line feed
unfoldable pub behind_line : HeadPlace → List ℕ → HeadPlace
behind_line Start line = behind_first (without_return line) (cut_at 32 (without_return line))
behind_line (Fields count) line = behind_field count (without_return line)
behind_line (Refused cause) line = Refused cause

-- the place behind the last line feed, and the line that has begun there
pub record Reached : Type 0 where
  pub place : HeadPlace
  pub line : List ℕ

abbrev pub start : Reached
start = record { place = Start; line = [] }

unfoldable pub behind_byte : Reached → ℕ → Reached
behind_byte r b = if b == 10
    then record { place = behind_line r.place r.line; line = [] }
    else record { place = r.place; line = r.line ++ b ∷ [] }

abbrev pub reached : List ℕ → Reached
reached bytes = fold behind_byte start bytes

-- a line that has begun may become a request-line or an empty line
unfoldable pub is_begun_version : List ℕ → Bool
is_begun_version text = starts_with nat_eq (codes "HTTP/1.0\r") text || starts_with nat_eq (codes "HTTP/1.1\r") text

unfoldable pub is_blank : List ℕ → Bool
is_blank [] = true
is_blank (b ∷ line) = false

unfoldable pub is_begun_target : List ℕ → Option (List ℕ × List ℕ) → Bool
is_begun_target text None = list_all is_uri_byte text
is_begun_target text (Some cut) = is_word cut.0 && (is_utf8 cut.0 && is_begun_version cut.1)

unfoldable pub is_begun_first : List ℕ → Option (List ℕ × List ℕ) → Bool
is_begun_first line None = is_blank (without_return line) || is_token line
is_begun_first line (Some cut) = is_token cut.0 && is_begun_target cut.1 (cut_at 32 cut.1)

-- or a field line or the empty line that ends a head
unfoldable pub is_begun_field : List ℕ → Bool
is_begun_field line = is_blank (without_return line) || (is_token line || is_field_line (without_return line))

-- a line may still become one of a head
unfoldable pub may_go_on : HeadPlace → List ℕ → Bool
may_go_on Start line = is_begun_first line (cut_at 32 line)
may_go_on (Fields count) line = is_begun_field line
may_go_on (Refused cause) line = false

-- so many bytes that end no head: as many as a head may have, or more are awaited
unfoldable pub full_cause : ℕ → HeadPlace → List ℕ → Option HttpCause
full_cause count place line =
    if nat_lt count HEAD_BYTES then None
    else if may_go_on place line then Some HeadTooLarge
    else Some Malformed

unfoldable pub cause_behind : ℕ → HeadPlace → List ℕ → Option HttpCause
cause_behind count (Refused cause) line = Some cause
cause_behind count Start line = full_cause count Start line
cause_behind count (Fields fields) line = full_cause count (Fields fields) line

-- the cause that these bytes have however they go on, where they begin with no whole head
unfoldable pub settled_cause : List ℕ → Option HttpCause
settled_cause bytes = cause_behind (length (take HEAD_BYTES bytes)) (reached (take HEAD_BYTES bytes)).place (reached (take HEAD_BYTES bytes)).line
