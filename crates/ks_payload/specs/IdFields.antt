-- An id in a payload: 16 bytes where the id is their 32 lower hex digits, else its length and its bytes.
use Rattle.std.specs.Prelude.{ℕ, ◌+◌, ◌-◌, ◌*◌, Bool, ◌&&◌, ◌||◌, ◌==◌, nat_le, if◌then◌else◌, List, [], ◌∷◌, length}
use Rattle.std.specs.List.{list_all}
use Rattle.ks_base.specs.Ids.{is_between}

-- 0-9 and a-f
abbrev pub is_lower_digit : ℕ → Bool
is_lower_digit b = is_between 48 57 b || is_between 97 102 b

-- whether an id is 32 lower hex digits
unfoldable pub is_hex_id : List ℕ → Bool
is_hex_id id = (length id == 32) && list_all is_lower_digit id

-- the value of a lower hex digit
abbrev pub digit_value : ℕ → ℕ
digit_value b = if nat_le b 57 then b - 48 else b - 87

-- the bytes whose hex digits these are: two digits a byte, the one of the high half first
unfoldable pub bytes_of_digits : List ℕ → List ℕ
bytes_of_digits (high ∷ low ∷ digits) = (16 * digit_value high + digit_value low) ∷ bytes_of_digits digits
bytes_of_digits (digit ∷ []) = []
bytes_of_digits [] = []

-- 00 and the bytes whose digits the id is, or the id's length and the id
unfoldable pub id_field : List ℕ → List ℕ
id_field id = if is_hex_id id then 0 ∷ bytes_of_digits id else length id ∷ id
