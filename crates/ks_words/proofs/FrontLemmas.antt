-- Fronts of texts.
use Rattle.std.proofs.Common.{◌≡◌, ℕ, Bool, true, false, ◌&&◌, if◌then◌else◌, List, [], ◌∷◌, ◌++◌, length, take, drop, Option, Some, None, nat_eq, refl, ap, sym, ◌∙◌}
use Rattle.std.specs.Borrow.{Bor}
use Rattle.std.specs.List.{list_any}
use Rattle.std.specs.Prelude.{◌+◌, MatchOption, map, option_and_then, option_map}
use Rattle.clap.specs.Words.{rule_of}
use Rattle.clap.specs.declared.builder.arg.Arg.{Arg}
use Rattle.clap.proofs.WalkLemmas.{list_any-map}
use lib.Pointwise.{pointwise}
use Rattle.ks_words.specs.Words.{behind, names_option}

some_step : (t u : Bool) (rest more : Option (List ℕ)) → (u ≡ true → rest ≡ more) → (t && u) ≡ true → rest ≡ (if t then more else None)
some_step true u rest more h same = h same
some_step false u rest more h same = cc

none_step : (t u : Bool) (more : Option (List ℕ)) → (u ≡ false → more ≡ None) → (t && u) ≡ false → (if t then more else None) ≡ None
none_step true u more h same = h same
none_step false u more h same = refl

more_step : (t : Bool) (f : List ℕ → Option (List ℕ)) (both first : Option (List ℕ)) → both ≡ option_and_then f first
    → (if t then both else None) ≡ option_and_then f (if t then first else None)
more_step true f both first h = h
more_step false f both first h = refl

pub behind_some : (front text : List ℕ) → pointwise nat_eq (take (length front) text) front ≡ true → Some (drop (length front) text) ≡ behind front text
unfolding behind
behind_some [] text same = refl
behind_some (b ∷ front) [] same = cc
behind_some (b ∷ front) (c ∷ text) same =
    some_step (nat_eq c b) (pointwise nat_eq (take (length front) text) front) (Some (drop (length front) text)) (behind front text) (behind_some front text) same

pub behind_none : (front text : List ℕ) → pointwise nat_eq (take (length front) text) front ≡ false → behind front text ≡ None
unfolding behind
behind_none [] [] same = cc
behind_none [] (c ∷ text) same = cc
behind_none (b ∷ front) [] same = refl
behind_none (b ∷ front) (c ∷ text) same =
    none_step (nat_eq c b) (pointwise nat_eq (take (length front) text) front) (behind front text) (behind_none front text) same

-- behind two fronts, one after the other
pub behind_more : (a b text : List ℕ) → behind (a ++ b) text ≡ option_and_then (behind b) (behind a text)
unfolding behind
behind_more [] b text = refl
behind_more (x ∷ a) b [] = refl
behind_more (x ∷ a) b (c ∷ text) = more_step (nat_eq c x) (behind b) (behind (a ++ b) text) (behind a text) (behind_more a b text)

pub behind_dashes : (name word : List ℕ) → behind (45 ∷ 45 ∷ name) word ≡ option_and_then (behind name) (behind (45 ∷ 45 ∷ []) word)
behind_dashes name word = behind_more (45 ∷ 45 ∷ []) name word

-- what strip_prefix says
pub stripped : (front text : List ℕ) (found : Option (Bor (List ℕ))) → MatchOption found (pointwise nat_eq (take (length front) text) front ≡ false)
    (λ rest. (pointwise nat_eq (take (length front) text) front ≡ true) × (rest.now ≡ drop (length front) text) × (length rest.now + length front ≡ length text))
    → option_map (λ rest. rest.now) found ≡ behind front text
stripped front text None h = sym (behind_none front text h)
stripped front text (Some rest) h = ap Some h.1 ∙ behind_some front text h.0

pub rules_name_option : (word : List ℕ) (arguments : List Arg) → list_any (names_option word) (map rule_of arguments) ≡ list_any (λ argument. names_option word (rule_of argument)) arguments
rules_name_option word arguments = sym (list_any-map (names_option word) rule_of arguments)
