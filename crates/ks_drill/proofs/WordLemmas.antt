-- A letter with a number behind it is a name and an id.
use Rattle.std.proofs.Common.{◌≡◌, ℕ, ◌+◌, ◌%◌, ◌^◌, ◌<◌, ◌≤◌, Bool, true, List, [], ◌∷◌, ◌++◌, length, refl, ap, ◌∙◌, arith, rules, length-append, lit<, lit≤}
use Rattle.std.specs.Prelude.{codes, decimal}
use Rattle.std.specs.List.{list_all}
use Rattle.std.proofs.lemmas.Bool.{and_parts}
use Rattle.std.proofs.lemmas.Bool.Decides.{nat_tests}
use Rattle.std.proofs.lemmas.Fmt.{decimal_by_steps, length-decimal-le}
use Rattle.ks_base.specs.Ids.{IsId, is_id_byte}
use Rattle.ks_machine.specs.Ranges.{IsName}
use Rattle.ks_drill.specs.Openings.{numbered}

short_decimal : (number : ℕ) → number < 2 ^ 64 → length (decimal number) ≤ 20
short_decimal number small = search (rules, length-decimal-le 20)

pub name_numbered : (letter made : List ℕ) (number : ℕ) → length letter ≡ 1 → number < 2 ^ 64 → made ≡ numbered letter number → IsName made
name_numbered letter made number one small e =
    let long : length made ≡ length letter + length (decimal number) = ap length e ∙ length-append letter (decimal number) in
    let short = short_decimal number small in
    (omega (arith, long), omega (arith, long, short))

digit_is : (d : ℕ) → d < 10 → is_id_byte (48 + d) ≡ true
digit_is d below = grind (arith, nat_tests)

all_snoc : (p : ℕ → Bool) (xs : List ℕ) (x : ℕ) → list_all p xs ≡ true → p x ≡ true → list_all p (xs ++ x ∷ []) ≡ true
all_snoc p [] x all last = rw last refl
all_snoc p (y ∷ xs) x all last =
    let both = and_parts (p y) (list_all p xs) all in
    rw both.0 (all_snoc p xs x both.1 last)

digits_are : (number : ℕ) → number < 2 ^ 64 → list_all is_id_byte (decimal number) ≡ true
digits_are number small =
    decimal_by_steps (λ n digits. list_all is_id_byte digits ≡ true)
    (λ n below. all_snoc is_id_byte [] (48 + n) refl (digit_is n below))
    (λ n digits least all. all_snoc is_id_byte digits (48 + n % 10) all (digit_is (n % 10) (omega arith)))
    number small

pub id_numbered : (made : List ℕ) (number : ℕ) → number < 2 ^ 64 → made ≡ numbered (codes "r") number → IsId made
id_numbered made number small e =
    let long : length made ≡ 1 + length (decimal number) = ap length e ∙ length-append (codes "r") (decimal number) in
    let short = short_decimal number small in
    let all : list_all is_id_byte made ≡ true = ap (λ bytes. list_all is_id_byte bytes) e ∙ digits_are number small in
    (omega (arith, long), omega (arith, long, short), all)
