-- A check goes on line by line.
use Rattle.std.proofs.Common.{◌≡◌, ℕ, ◌+◌, ◌<◌, ◌==◌, Bool, true, false, not, ◌&&◌, List, [], ◌∷◌, ◌++◌, length, None, refl, arith, length-append}
use Rattle.std.specs.List.{onto_first}
use Rattle.std.proofs.lemmas.Bool.Decides.{nat_tests}
use Rattle.ks_commands.specs.declared.checker.CheckPlace.{CheckPlace}
use Rattle.ks_commands.specs.Lines.{IsInLine, lines_of}
use Rattle.ks_commands.specs.Check.{step_of, steps_of, go_on, check_from, bad_line}

pub no_line_feed : (b t : Bool) → (not b && t) ≡ true → (b ≡ false) × (t ≡ true)
no_line_feed true t h = cc
no_line_feed false t h = (refl, h)

lines_of-more : (b : ℕ) (bytes first : List ℕ) (others : List (List ℕ)) → (b == 10) ≡ false → lines_of bytes ≡ first ∷ others → lines_of (b ∷ bytes) ≡ (b ∷ first) ∷ others
unfolding lines_of
lines_of-more b bytes first others apart e = rw (apart, e) refl

pub lines_of-line : (line rest : List ℕ) → IsInLine line → lines_of (line ++ 10 ∷ rest) ≡ line ∷ lines_of rest
unfolding lines_of
lines_of-line [] rest h = refl
lines_of-line (b ∷ line) rest h =
    let parts = no_line_feed (b == 10) _ h in
    lines_of-more b (line ++ 10 ∷ rest) line (lines_of rest) parts.0 (lines_of-line line rest parts.1)

first_of_more : (b : ℕ) (lines : List (List ℕ)) → (tail : List ℕ) × (others : List (List ℕ)) × (onto_first b lines ≡ (b ∷ tail) ∷ others)
first_of_more b [] = ([], [], refl)
first_of_more b (line ∷ lines) = (line, lines, refl)

lines_of-first : (b : ℕ) (more : List ℕ) → (b == 10) ≡ false → (tail : List ℕ) × (others : List (List ℕ)) × (lines_of (b ∷ more) ≡ (b ∷ tail) ∷ others)
unfolding lines_of
lines_of-first b more apart = rw apart (first_of_more b (lines_of more))

lines_of-begun : (b : ℕ) (line more : List ℕ) → IsInLine (b ∷ line) → (tail : List ℕ) × (others : List (List ℕ)) × (lines_of (b ∷ (line ++ more)) ≡ (b ∷ (line ++ tail)) ∷ others)
lines_of-begun b [] more h = lines_of-first b more (no_line_feed (b == 10) _ h).0
lines_of-begun b (c ∷ line) more h =
    let parts = no_line_feed (b == 10) _ h in
    let next = lines_of-begun c line more parts.1 in
    (next.0, next.1, lines_of-more b (c ∷ (line ++ more)) (c ∷ (line ++ next.0)) next.1 parts.0 next.2)

lines_of-last : (b : ℕ) (line : List ℕ) → IsInLine (b ∷ line) → lines_of (b ∷ line) ≡ (b ∷ line) ∷ []
unfolding lines_of
lines_of-last b [] h = rw (no_line_feed (b == 10) _ h).0 refl
lines_of-last b (c ∷ line) h =
    let parts = no_line_feed (b == 10) _ h in
    lines_of-more b (c ∷ line) (c ∷ line) [] parts.0 (lines_of-last c line parts.1)

-- behind a whole line
pub check_line : (place : CheckPlace) (line rest : List ℕ) → IsInLine line →
    check_from place (line ++ 10 ∷ rest) ≡ go_on (step_of place line) place.lines (λ next. check_from next rest)
unfolding steps_of
check_line place line rest h = rw (lines_of-line line rest h) refl

-- behind a last line that lacks its line feed
pub check_last : (place : CheckPlace) (line : List ℕ) → IsInLine line → 0 < length line →
    check_from place line ≡ go_on (step_of place line) place.lines (λ next. check_from next [])
unfolding steps_of lines_of
check_last place [] h long = absurd (omega arith)
check_last place (b ∷ line) h long = rw (lines_of-last b line h) refl

pub step_of-long : (place : CheckPlace) (line : List ℕ) → 1100 < length line → step_of place line ≡ None
unfolding step_of
step_of-long place line long = grind (arith, nat_tests)

-- a line that has begun and is too long is bad, whatever follows
pub check_long : (place : CheckPlace) (line more : List ℕ) → IsInLine line → 1100 < length line →
    check_from place (line ++ more) ≡ bad_line (place.lines + 1)
unfolding steps_of
check_long place [] more h long = absurd (omega arith)
check_long place (b ∷ line) more h long =
    let first = lines_of-begun b line more h in
    let longer : 1100 < length (b ∷ (line ++ first.0)) = omega (arith, length-append line first.0) in
    rw (first.2, step_of-long place (b ∷ (line ++ first.0)) longer) refl
