-- The fields of a head that say how a request is framed and who asks (RFC 9110, sections 5 and 7.6.1;
-- RFC 9112, section 6). A field is given as its name and its value.
-- Source: RFC 9110, 5 and 7.6.1; RFC 9112, 6 and 9.3.
use Rattle.std.specs.Prelude.{ℕ, ◌+◌, ◌-◌, ◌*◌, ◌==◌, nat_le, Bool, false, not, ◌&&◌, ◌||◌, if◌then◌else◌, List, [], ◌∷◌, length, take, drop, codes}
use Rattle.std.specs.List.{list_all, list_any, slice_split, fold}
use Rattle.std.specs.Str.{str_eq_ignore_ascii_case}
use Rattle.std.specs.Char.{is_ascii_digit}
use Rattle.httparse.specs.Grammar.{is_ows, skip_ows}

abbrev pub Named : Type 0
Named = List ℕ × List ℕ

abbrev pub has_name : List ℕ → Named → Bool
has_name name field = str_eq_ignore_ascii_case field.0 name

-- the values of the fields of a name, whose case does not count
unfoldable pub values_of : List ℕ → List Named → List (List ℕ)
values_of name [] = []
values_of name (field ∷ fields) = if has_name name field then field.1 ∷ values_of name fields else values_of name fields

-- decimal digits: Content-Length = 1*DIGIT
unfoldable pub is_number : List ℕ → Bool
is_number [] = false
is_number (b ∷ value) = list_all is_ascii_digit (b ∷ value)

-- the number that decimal digits write, whose digit 0 is 48
abbrev pub with_digit : ℕ → ℕ → ℕ
with_digit n b = n * 10 + (b - 48)

abbrev pub number_of : List ℕ → ℕ
number_of digits = fold with_digit 0 digits

-- the word without regard to case, and white space
unfoldable pub is_word_and_space : List ℕ → List ℕ → Bool
is_word_and_space word text =
    nat_le (length word) (length text) && (str_eq_ignore_ascii_case (take (length word) text) word
    && list_all is_ows (drop (length word) text))

-- white space may stand on both sides of an option
unfoldable pub is_option : List ℕ → List ℕ → Bool
is_option word text = is_word_and_space word (skip_ows text)

-- an option of a list whose parts stand between commas
abbrev pub lists_option : List ℕ → List ℕ → Bool
lists_option word value = list_any (is_option word) (slice_split (λ b. b == 44) value)

-- a `Connection` field lists the option
abbrev pub connection_has : List ℕ → List Named → Bool
connection_has word fields = list_any (λ field. has_name (codes "Connection") field && lists_option word field.1) fields

-- the connection ends with the request: `close` wins, and HTTP/1.0 closes unless it is kept alive
unfoldable pub closes : ℕ → List Named → Bool
closes minor fields =
    connection_has (codes "close") fields || ((minor == 0) && not (connection_has (codes "keep-alive") fields))

abbrev pub has_field : List ℕ → List Named → Bool
has_field name fields = list_any (has_name name) fields

-- the body comes in chunks, or in another coding, wherever the field is there
abbrev pub is_chunked : List Named → Bool
is_chunked fields = has_field (codes "Transfer-Encoding") fields
