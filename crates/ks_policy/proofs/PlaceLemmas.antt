-- Where rules stand.
use Rattle.std.proofs.Common.{◌≡◌, ℕ, zero, suc, ◌<◌, Bool, true, false, List, [], ◌∷◌, length, if◌then◌else◌, Option, Some, None, refl, sym, ap, ◌∙◌, arith}
use Rattle.std.specs.Prelude.{option_map, codes}
use Rattle.std.specs.Option.{option_or}
use Rattle.std.specs.Str.{bytes_eq}
use Rattle.std.specs.Ordering.{is_eq}
use Rattle.ks_base.specs.Tables.{id_cmp}
use Rattle.ks_base.specs.Places.{IsFoundAt, IsGapAt}
use Rattle.ks_base.proofs.RowLemmas.{id_same}
use Rattle.ks_machine.specs.Openings.{NamedRule}
use Rattle.ks_machine.specs.Rules.{place_of, place_named}

pub place_found : (rules : List NamedRule) (name : List ℕ) (i : ℕ) → IsFoundAt id_cmp (λ rule. rule.name) name rules i → place_of rules name ≡ Some i
place_found [] name i is = absurd is
place_found (rule ∷ rules) name zero is =
    let same : bytes_eq rule.name name ≡ true = sym (id_same rule.name name) ∙ ap is_eq is in
    rw same refl
place_found (rule ∷ rules) name (suc i) is =
    let other : bytes_eq rule.name name ≡ false = sym (id_same rule.name name) ∙ ap is_eq is.0 in
    rw other (ap (option_map (λ i. suc i)) (place_found rules name i is.1))

pub place_gap : (rules : List NamedRule) (name : List ℕ) (i : ℕ) → IsGapAt id_cmp (λ rule. rule.name) name rules i → place_of rules name ≡ None
place_gap [] name zero is = refl
place_gap (rule ∷ rules) name zero is =
    let other : bytes_eq rule.name name ≡ false = sym (id_same rule.name name) ∙ ap is_eq is.0 in
    rw other (ap (option_map (λ i. suc i)) (place_gap rules name zero is.1))
place_gap [] name (suc i) is = absurd is
place_gap (rule ∷ rules) name (suc i) is =
    let other : bytes_eq rule.name name ≡ false = sym (id_same rule.name name) ∙ ap is_eq is.0 in
    rw other (ap (option_map (λ i. suc i)) (place_gap rules name i is.1))

-- a place is one of the list
within_by : (rules : List NamedRule) (found : Option ℕ) (b : Bool) (i : ℕ) → ((j : ℕ) → found ≡ Some j → j < length rules) →
    (if b then Some 0 else option_map (λ i. suc i) found) ≡ Some i → i < suc (length rules)
within_by rules found true i later e = let zero_is : 0 ≡ i = cc in omega arith
within_by rules None false i later e = cc
within_by rules (Some j) false i later e = let next : suc j ≡ i = cc in omega (arith, later j refl)

pub of_within : (rules : List NamedRule) (name : List ℕ) (i : ℕ) → place_of rules name ≡ Some i → i < length rules
of_within [] name i e = cc
of_within (rule ∷ rules) name i e = within_by rules (place_of rules name) (bytes_eq rule.name name) i (of_within rules name) e

or_within : (n : ℕ) (a b : Option ℕ) (i : ℕ) → ((j : ℕ) → a ≡ Some j → j < n) → ((j : ℕ) → b ≡ Some j → j < n) → option_or a b ≡ Some i → i < n
or_within n None b i p q e = q i e
or_within n (Some j) b i p q e = p i e

pub named_within : (rules : List NamedRule) (name : List ℕ) (i : ℕ) → place_named rules name ≡ Some i → i < length rules
unfolding place_named
named_within rules name i e =
    or_within (length rules) (place_of rules name) (place_of rules (codes "default")) i (of_within rules name) (of_within rules (codes "default")) e
