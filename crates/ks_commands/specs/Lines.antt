-- The lines that `check` reads.
use Rattle.std.specs.Prelude.{◌≡◌, ◌⊎◌, ℕ, ◌+◌, ◌-◌, ◌*◌, ◌^◌, ◌==◌, nat_lt, nat_le, Bool, true, not, ◌&&◌, if◌then◌else◌, List, [], ◌∷◌, ◌++◌, length, filter, take, drop, Option, Some, None}
use Rattle.std.specs.List.{list_all, onto_first, position}
use Rattle.std.specs.Option.{option_and_then, option_map}

-- | a line feed ends a line, and the last line may lack it
unfoldable pub lines_of : List ℕ → List (List ℕ)
lines_of [] = []
lines_of (b ∷ bytes) = if b == 10 then [] ∷ lines_of bytes else onto_first b (lines_of bytes)

-- no line feed
abbrev pub IsInLine : List ℕ → Type 0
IsInLine line = list_all (λ b. not (b == 10)) line ≡ true

-- | how many lines end in a text
abbrev pub line_feeds : List ℕ → ℕ
line_feeds text = length (filter (λ b. b == 10) text)

-- | whole lines alone: there are none, or the last one has its line feed
abbrev pub AreWhole : List ℕ → Type 0
AreWhole text = (text ≡ []) ⊎ ((before : List ℕ) × (text ≡ before ++ 10 ∷ []))

abbrev pub is_digit : ℕ → Bool
is_digit b = nat_le 48 b && nat_le b 57

-- a digit put behind a number, where the number stays below 2^64
abbrev pub with_digit : ℕ → ℕ → Option ℕ
with_digit n b = if is_digit b && nat_lt (n * 10 + (b - 48)) (2 ^ 64) then Some (n * 10 + (b - 48)) else None

unfoldable pub with_digits : ℕ → List ℕ → Option ℕ
with_digits n [] = Some n
with_digits n (b ∷ bytes) = option_and_then (λ m. with_digits m bytes) (with_digit n b)

-- | a decimal below 2^64, with no sign and no leading zero
abbrev pub number_of : List ℕ → Option ℕ
number_of [] = None
number_of (b ∷ []) = with_digits 0 (b ∷ [])
number_of (b ∷ c ∷ bytes) = if b == 48 then None else with_digits 0 (b ∷ c ∷ bytes)

-- a reading of the clock in whole seconds, and a token text
pub record TokenLine : Type 0 where
  pub reading : ℕ
  pub token : List ℕ

abbrev pub cut_at : List ℕ → ℕ → Option TokenLine
cut_at line place = option_map (λ n. record { reading = n; token = drop (place + 1) line }) (number_of (take place line))

-- a decimal, one space, and the token's text, which is all that follows
abbrev pub token_line_of : List ℕ → Option TokenLine
token_line_of line = option_and_then (cut_at line) (position (λ b. b == 32) line)

abbrev pub IsTokenLine : List ℕ → ℕ → List ℕ → Type 0
IsTokenLine line reading token = token_line_of line ≡ Some (record { reading = reading; token = token })
