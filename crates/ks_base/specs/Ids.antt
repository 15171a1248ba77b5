-- Ids: 1 to 64 bytes of digits, ASCII letters, '_' and '-'.
use Rattle.std.specs.Prelude.{◌≡◌, ℕ, ◌<◌, ◌≤◌, Bool, true, not, ◌&&◌, ◌||◌, ◌==◌, nat_le, nat_lt, List, length, Some}
use Rattle.std.specs.List.{list_all, position}
use Rattle.ks_base.specs.declared.limits.TheConstants.{ID_BYTES}

abbrev pub is_between : ℕ → ℕ → ℕ → Bool
is_between low high b = nat_le low b && nat_le b high

-- | one of the bytes of an id: 0-9, A-Z, a-z, _ and -
abbrev pub is_id_byte : ℕ → Bool
is_id_byte b = is_between 48 57 b || (is_between 65 90 b || (is_between 97 122 b || ((b == 95) || (b == 45))))

-- 1 to 64 of these bytes
abbrev pub IsId : List ℕ → Type 0
IsId text = (0 < length text) × (length text ≤ ID_BYTES) × (list_all is_id_byte text ≡ true)

-- the same, computed
abbrev pub is_id : List ℕ → Bool
is_id text = nat_lt 0 (length text) && (nat_le (length text) ID_BYTES && list_all is_id_byte text)

-- the first byte that no id may hold is the one at this place
abbrev pub IsFirstBadByte : List ℕ → ℕ → Type 0
IsFirstBadByte text place = position (λ b. not (is_id_byte b)) text ≡ Some place
