-- Base64 with the alphabet that is safe in URLs (RFC 4648, section 5).
-- Source: RFC 4648, 5.
use Rattle.std.specs.Prelude.{◌≡◌, ℕ, ◌%◌, ◌⊎◌, ◌==◌, nat_lt, true, false, if◌then◌else◌, List, length, codes, Option, None}
use Rattle.std.specs.List.{list_all}
use Rattle.base64.specs.Engines.{url_safe, url_safe_no_pad}
use Rattle.base64.specs.GeneralPurpose.{decoded_of}
use Rattle.base64.specs.Rfc4648.{encode}

abbrev pub symbols : List ℕ
symbols = codes "ABCDEFGHIJKLMNOPQRSTUVWXYZabcdefghijklmnopqrstuvwxyz0123456789-_"

-- the bytes with their full padding of `=`
unfoldable pub padded_text : List ℕ → List ℕ
padded_text bytes = encode symbols 61 true bytes

-- the bytes with no padding
unfoldable pub bare_text : List ℕ → List ℕ
bare_text bytes = encode symbols 61 false bytes

-- the text spells these bytes: with full padding or with none, and unused bits are zero
abbrev pub Spells : List ℕ → List ℕ → Type 0
Spells text bytes = (text ≡ padded_text bytes) ⊎ (text ≡ bare_text bytes)

-- the bytes that a text spells, if it spells any: a text with full padding has a length divisible by four,
-- and one with none that has such a length needs none
unfoldable pub bytes_of : List ℕ → Option (List ℕ)
bytes_of text =
    if list_all (λ c. nat_lt c 256) text
    then (if length text % 4 == 0 then decoded_of url_safe text else decoded_of url_safe_no_pad text)
    else None
