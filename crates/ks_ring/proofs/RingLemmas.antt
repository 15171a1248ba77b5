-- What a ring keeps to, where keys are loaded.
use Rattle.std.proofs.Common.{◌≡◌, ℕ, suc, ◌<◌, ◌≤◌, Bool, cond, not, ◌==◌, List, [], ◌∷◌, ◌++◌, length, reverse, filter, Option, Some, None, is_some, unwrap_or, inl, inr, refl, sym, subst, ◌∙◌, arith, eq-eqb, ne_eqb, lt-ltb, le-ltb, IfOk}
use Rattle.std.specs.List.{AllByRecursion}
use Rattle.std.proofs.lemmas.Bool.{cases_Bool, cases_eq, cases_lt}
use Rattle.std.proofs.lemmas.List.{length-reverse}
use Rattle.ks_base.specs.declared.key.Key.{Key}
use Rattle.ks_base.specs.declared.faults.LoadFault.{LoadFault}
use Rattle.ks_base.specs.declared.faults.LoadFault.TheVariants.{Empty, Repeated, TooMany}
use Rattle.ks_ring.specs.declared.held_key.HeldKey.{HeldKey}
use Rattle.ks_ring.specs.Rings.{RingState, no_ring, rising, refusal_of, refused_as, first_repeated, lowest_number, left_of, held_as, numbered, next_behind, load_of, new_of, loaded_unless, AreFalling, LacksNumber, AreNumbered, IsRing}
use Rattle.ks_ring.proofs.SortLemmas.{AllOver, AreRising, AreDistinct, IsApart, apart_from, rising_rises, length-rising}
use Rattle.ks_ring.proofs.NumberLemmas.{Finds, found_lowest, free_after, next_after, next_rises, next_within, length-numbered, reverse_cons}

-- falling indices

-- all indices are above this one, and below
abbrev pub HeldOver : ℕ → List HeldKey → Type 0
HeldOver low [] = Unit {0}
HeldOver low (held ∷ more) = (low < held.index) × HeldOver low more

abbrev pub HeldUnder : ℕ → List HeldKey → Type 0
HeldUnder high [] = Unit {0}
HeldUnder high (held ∷ more) = (held.index < high) × HeldUnder high more

abbrev pub HeldRising : List HeldKey → Type 0
HeldRising [] = Unit {0}
HeldRising (held ∷ more) = HeldOver held.index more × HeldRising more

numbered_over : (low : ℕ) (free : List HeldKey) (next : ℕ) (keys : List (ℕ × Key)) → AllOver low keys → HeldOver low (numbered free next keys)
unfolding numbered
numbered_over low free next [] over = tt
numbered_over low free next (entry ∷ keys) over = (over.0, numbered_over low (free_after free entry) (next_after free next entry) keys over.1)

numbered_rises : (free : List HeldKey) (next : ℕ) (keys : List (ℕ × Key)) → AreRising keys → HeldRising (numbered free next keys)
unfolding numbered
numbered_rises free next [] rises = tt
numbered_rises free next (entry ∷ keys) rises = (
  numbered_over entry.0 (free_after free entry) (next_after free next entry) keys rises.0,
  numbered_rises (free_after free entry) (next_after free next entry) keys rises.1,
)

over_append : (low : ℕ) (xs ys : List HeldKey) → HeldOver low xs → HeldOver low ys → HeldOver low (xs ++ ys)
over_append low [] ys a b = b
over_append low (x ∷ xs) ys a b = (a.0, over_append low xs ys a.1 b)

over_reverse : (low : ℕ) (xs : List HeldKey) → HeldOver low xs → HeldOver low (reverse xs)
over_reverse low [] a = tt
over_reverse low (x ∷ xs) a =
    subst (HeldOver low) (sym (reverse_cons x xs)) (over_append low (reverse xs) (x ∷ []) (over_reverse low xs a.1) (a.0, tt))

pub falling_push : (xs : List HeldKey) (x : HeldKey) → HeldOver x.index xs → AreFalling xs → AreFalling (xs ++ x ∷ [])
falling_push [] x over falls = tt
falling_push (a ∷ []) x over falls = (over.0, tt)
falling_push (a ∷ b ∷ more) x over falls = (falls.0, falling_push (b ∷ more) x over.1 falls.1)

falling_reverse : (xs : List HeldKey) → HeldRising xs → AreFalling (reverse xs)
falling_reverse [] rises = tt
falling_reverse (x ∷ xs) rises =
    subst AreFalling (sym (reverse_cons x xs)) (falling_push (reverse xs) x (over_reverse x.index xs rises.0) (falling_reverse xs rises.1))

-- numbers that stand once

pub lacks_append : (number : ℕ) (xs ys : List HeldKey) → LacksNumber number xs → LacksNumber number ys → LacksNumber number (xs ++ ys)
lacks_append number [] ys a b = b
lacks_append number (x ∷ xs) ys a b = (a.0, lacks_append number xs ys a.1 b)

lacks_reverse : (number : ℕ) (xs : List HeldKey) → LacksNumber number xs → LacksNumber number (reverse xs)
lacks_reverse number [] a = tt
lacks_reverse number (x ∷ xs) a =
    subst (LacksNumber number) (sym (reverse_cons x xs)) (lacks_append number (reverse xs) (x ∷ []) (lacks_reverse number xs a.1) (a.0, tt))

pub numbered_push : (next : ℕ) (xs : List HeldKey) (x : HeldKey) → x.number < next → LacksNumber x.number xs → AreNumbered next xs →
    AreNumbered next (xs ++ x ∷ [])
numbered_push next [] x lt lacks are = (lt, tt, tt)
numbered_push next (y ∷ xs) x lt lacks are =
    (are.0, lacks_append y.number xs (x ∷ []) are.1 ((λ same. lacks.0 (sym same)), tt), numbered_push next xs x lt lacks.1 are.2)

numbered_reverse : (next : ℕ) (xs : List HeldKey) → AreNumbered next xs → AreNumbered next (reverse xs)
numbered_reverse next [] are = tt
numbered_reverse next (x ∷ xs) are =
    subst (AreNumbered next) (sym (reverse_cons x xs)) (numbered_push next (reverse xs) x are.0 (lacks_reverse x.number xs are.1) (numbered_reverse next xs are.2))

pub numbered_higher : (low high : ℕ) (xs : List HeldKey) → low ≤ high → AreNumbered low xs → AreNumbered high xs
numbered_higher low high [] le are = tt
numbered_higher low high (x ∷ xs) le are = (omega (arith, are.0), are.1, numbered_higher low high xs le are.2)

pub lacks_high : (number next : ℕ) (xs : List HeldKey) → next ≤ number → AreNumbered next xs → LacksNumber number xs
lacks_high number next [] le are = tt
lacks_high number next (x ∷ xs) le are = ((λ same. omega (arith, are.0, same)), lacks_high number next xs le are.2)

pub lacks_filter : (number : ℕ) (p : HeldKey → Bool) (xs : List HeldKey) → LacksNumber number xs → LacksNumber number (filter p xs)
lacks_filter number p [] lacks = tt
lacks_filter number p (x ∷ xs) lacks = elim (cases_Bool (p x)) [
  | inl passes ↦ rw passes (lacks.0, lacks_filter number p xs lacks.1)
  | inr fails ↦ rw fails (lacks_filter number p xs lacks.1)
]

pub numbered_filter : (next : ℕ) (p : HeldKey → Bool) (xs : List HeldKey) → AreNumbered next xs → AreNumbered next (filter p xs)
numbered_filter next p [] are = tt
numbered_filter next p (x ∷ xs) are = elim (cases_Bool (p x)) [
  | inl passes ↦ rw passes (are.0, lacks_filter x.number p xs are.1, numbered_filter next p xs are.2)
  | inr fails ↦ rw fails (numbered_filter next p xs are.2)
]

filtered_out : (number : ℕ) (xs : List HeldKey) → LacksNumber number (filter (λ held. not (held.number == number)) xs)
filtered_out number [] = tt
filtered_out number (x ∷ xs) = elim (cases_eq x.number number) [
  | inl same ↦ rw (eq-eqb x.number number same) (filtered_out number xs)
  | inr other ↦ rw (ne_eqb x.number number other) (other, filtered_out number xs)
]

all_below : (next : ℕ) (xs : List HeldKey) → AreNumbered next xs → AllByRecursion (λ held. held.number < next) xs
all_below next [] are = tt
all_below next (x ∷ xs) are = (are.0, all_below next xs are.2)

all_other : (number : ℕ) (xs : List HeldKey) → LacksNumber number xs → AllByRecursion (λ held. (held.number ≡ number) → ⊥) xs
all_other number [] lacks = tt
all_other number (x ∷ xs) lacks = (lacks.0, all_other number xs lacks.1)

-- keys that were numbered are numbered once, and lack the numbers that no free key had
record Numbers (next : ℕ) (free held : List HeldKey) (behind : ℕ) : Type 0 where
  are : AreNumbered behind held
  lack : (number : ℕ) → number < next → LacksNumber number free → LacksNumber number held

one_new : (next behind : ℕ) (free held : List HeldKey) (index : ℕ) (key : Key) → suc next ≤ behind → AreNumbered next free →
    Numbers (suc next) free held behind → Numbers next free (held_as (index, key) next ∷ held) behind
one_new next behind free held index key le are rest = record {
  are = (omega arith, rest.lack next (omega arith) (lacks_high next next free (omega arith) are), rest.are);
  lack = λ number lt lacks. ((λ same. omega (arith, same)), rest.lack number (omega arith) lacks);
}

one_kept : (next behind number : ℕ) (free held : List HeldKey) (entry : ℕ × Key) → next ≤ behind → lowest_number entry.1 free ≡ Some number →
    AreNumbered next free → Numbers next (left_of (Some number) free) held behind → Numbers next free (held_as entry number ∷ held) behind
one_kept next behind number free held entry le found are rest =
    let below : Finds (λ held. held.number < next) entry.1 number = found_lowest (λ held. held.number < next) entry.1 free number found (all_below next free are) in
    let low : number < next = omega (arith, below.holds, below.number_is) in
    record {
      are = (omega arith, rest.lack number low (filtered_out number free), rest.are);
      lack = λ other lt lacks. (
        (let at : Finds (λ held. (held.number ≡ other) → ⊥) entry.1 number =
            found_lowest (λ held. (held.number ≡ other) → ⊥) entry.1 free number found (all_other other free lacks) in
            λ same. at.holds (at.number_is ∙ same)),
        rest.lack other lt (lacks_filter other (λ held. not (held.number == number)) free lacks),
      );
    }

one_more : (found : Option ℕ) (next behind : ℕ) (free held : List HeldKey) (entry : ℕ × Key) → lowest_number entry.1 free ≡ found →
    cond (is_some found) next (suc next) ≤ behind → AreNumbered next free →
    (AreNumbered (cond (is_some found) next (suc next)) (left_of found free) → Numbers (cond (is_some found) next (suc next)) (left_of found free) held behind) →
    Numbers next free (held_as entry (unwrap_or found next) ∷ held) behind
one_more None next behind free held entry is le are rest =
    one_new next behind free held entry.0 entry.1 le are (rest (numbered_higher next (suc next) free (omega arith) are))
one_more (Some number) next behind free held entry is le are rest =
    one_kept next behind number free held entry le is are (rest (numbered_filter next (λ held. not (held.number == number)) free are))

numbers_from : (free : List HeldKey) (next : ℕ) (keys : List (ℕ × Key)) → AreNumbered next free →
    Numbers next free (numbered free next keys) (next_behind free next keys)
unfolding numbered next_behind
numbers_from free next [] are = record { are = tt; lack = λ number lt lacks. tt }
numbers_from free next (entry ∷ keys) are =
    one_more (lowest_number entry.1 free) next (next_behind (free_after free entry) (next_after free next entry) keys) free
    (numbered (free_after free entry) (next_after free next entry) keys) entry refl
    (next_rises (free_after free entry) (next_after free next entry) keys) are
    (λ left. numbers_from (free_after free entry) (next_after free next entry) keys left)

-- what is not refused

pub record IsFit (keys : List (ℕ × Key)) : Type 0 where
  pub some : 1 ≤ length keys
  pub most : length keys ≤ 32
  pub distinct : AreDistinct keys

not_repeated : (repeated : Option ℕ) → refused_as repeated ≡ None → repeated ≡ None
not_repeated None none = refl
not_repeated (Some index) none = absurd (some_none (Repeated index) none) where
  some_none : (fault : LoadFault) → Some fault ≡ None → ⊥
  some_none fault none = cc

some_not_none : (fault : LoadFault) → Some fault ≡ None → ⊥
some_not_none fault none = cc

pub fit_from : (keys : List (ℕ × Key)) → refusal_of keys ≡ None → IsFit keys
unfolding refusal_of
fit_from keys none = elim (cases_eq (length keys) 0) [
  | inl empty ↦ absurd (some_not_none Empty (rw (eq-eqb (length keys) 0 empty) at none))
  | inr some ↦
      let rest = rw (ne_eqb (length keys) 0 some) at none in
      elim (cases_lt 32 (length keys)) [
        | inl many ↦ absurd (some_not_none TooMany (rw (lt-ltb 32 (length keys) many) at rest))
        | inr few ↦
            let last : refused_as (first_repeated [] keys) ≡ None = rw (le-ltb 32 (length keys) few) at rest in
            let apart : IsApart [] keys = apart_from [] keys (not_repeated _ last) in
            record { some = omega (arith, some); most = few; distinct = apart.distinct }
      ]
]

-- the loaded keys are a ring
pub load_is_ring : (ring : RingState) (keys : List (ℕ × Key)) → AreNumbered ring.next ring.held → refusal_of keys ≡ None → IsRing (load_of ring keys)
unfolding load_of
load_is_ring ring keys are none =
    let fit : IsFit keys = fit_from keys none in
    let long : length (reverse (numbered ring.held ring.next (rising keys))) ≡ length keys =
    length-reverse (numbered ring.held ring.next (rising keys)) ∙ length-numbered ring.held ring.next (rising keys) ∙ length-rising keys in
    let numbers : Numbers ring.next ring.held (numbered ring.held ring.next (rising keys)) (next_behind ring.held ring.next (rising keys)) =
    numbers_from ring.held ring.next (rising keys) are in
    record {
      some = omega (arith, fit.some, long);
      most = omega (arith, fit.most, long);
      falling = falling_reverse _ (numbered_rises ring.held ring.next (rising keys) (rising_rises keys fit.distinct));
      numbers = numbered_reverse _ _ numbers.are;
    }

pub new_is_ring : (keys : List (ℕ × Key)) → refusal_of keys ≡ None → IsRing (load_of no_ring keys)
new_is_ring keys none = load_is_ring no_ring keys tt none

-- the code's way to the loaded keys

pub loaded_from : (ring : RingState) (keys : List (ℕ × Key)) (held : List HeldKey) (next : ℕ) → held ≡ reverse (numbered ring.held ring.next (rising keys)) →
    next ≡ next_behind ring.held ring.next (rising keys) → record { held = held; next = next } ≡ load_of ring keys
unfolding load_of
loaded_from ring keys held next held_is next_is = (λ i. record { held = held_is i; next = next_is i })

-- the next number behind a first ring

small_unless : (keys : List (ℕ × Key)) (refused : Option LoadFault) → refusal_of keys ≡ refused →
    IfOk (loaded_unless refused (new_of keys)) (λ ring. ring.next ≤ 32)
unfolding load_of
small_unless keys None none =
    let fit : IsFit keys = fit_from keys none in
    omega (arith, fit.most, length-rising keys, next_within [] 0 (rising keys))
small_unless keys (Some fault) is = tt

pub new_is_small : (keys : List (ℕ × Key)) → IfOk (loaded_unless (refusal_of keys) (new_of keys)) (λ ring. ring.next ≤ 32)
new_is_small keys = small_unless keys (refusal_of keys) refl
