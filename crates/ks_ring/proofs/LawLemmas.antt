-- The laws of the numbers.
use Rattle.std.proofs.Common.{◌≡◌, ℕ, zero, suc, ◌-◌, ◌≤◌, Bool, not, ◌==◌, List, [], ◌∷◌, ◌++◌, length, take, get_or, reverse, filter, find, Option, Some, None, unwrap_or, All, Contains, inl, inr, refl, sym, subst, arith, eq-eqb, ne_eqb}
use Rattle.std.specs.List.{AllByRecursion}
use Rattle.std.proofs.lemmas.Bool.{cases_Bool, cases_eq}
use Rattle.std.proofs.lemmas.List.{get_or_default, get_or_push, reverse-reverse, length_push}
use Rattle.std.proofs.lemmas.List.Elements.{All-from_recursion, recursion_from_All}
use Rattle.ks_base.specs.declared.key.Key.{Key}
use Rattle.ks_ring.specs.declared.held_key.HeldKey.{HeldKey}
use Rattle.ks_ring.specs.Rings.{RingState, rising, lowest_number, left_of, held_as, numbered, load_of, highest, is_staged, active, promoted_to, promoted, rotate_of}
use Rattle.ks_ring.specs.Laws.{AreCounted, CountsFromZero, Held, KeepsItsKey, LoadingKeepsNumbers, RotationKeepsNumbers, StagesTheNewKey, StagesNoOther, LoadingNeverFalls, LoadingAddsFew, RotationRises}
use Rattle.ks_ring.proofs.NumberLemmas.{Finds, found_lowest, free_after, next_after, next_rises, next_within, next_step, reverse_cons}
use Rattle.ks_ring.proofs.RingLemmas.{HeldOver}
use Rattle.ks_ring.proofs.SortLemmas.{length-rising}
use Rattle.ks_ring.proofs.RotationLemmas.{over_promoted, over_take}

-- what holds of all

all_filter : (P : HeldKey → Type 0) (p : HeldKey → Bool) (xs : List HeldKey) → AllByRecursion P xs → AllByRecursion P (filter p xs)
all_filter P p [] all = tt
all_filter P p (x ∷ xs) all = elim (cases_Bool (p x)) [
  | inl passes ↦ rw passes (all.0, all_filter P p xs all.1)
  | inr fails ↦ rw fails (all_filter P p xs all.1)
]

all_append : (P : HeldKey → Type 0) (xs ys : List HeldKey) → AllByRecursion P xs → AllByRecursion P ys → AllByRecursion P (xs ++ ys)
all_append P [] ys a b = b
all_append P (x ∷ xs) ys a b = (a.0, all_append P xs ys a.1 b)

all_reverse : (P : HeldKey → Type 0) (xs : List HeldKey) → AllByRecursion P xs → AllByRecursion P (reverse xs)
all_reverse P [] all = tt
all_reverse P (x ∷ xs) all =
    subst (AllByRecursion P) (sym (reverse_cons x xs)) (all_append P (reverse xs) (x ∷ []) (all_reverse P xs all.1) (all.0, tt))

all_take : (P : HeldKey → Type 0) (n : ℕ) (xs : List HeldKey) → AllByRecursion P xs → AllByRecursion P (take n xs)
all_take P zero xs all = tt
all_take P (suc n) [] all = tt
all_take P (suc n) (x ∷ xs) all = (all.0, all_take P n xs all.1)

all_weaker : (P Q : HeldKey → Type 0) (xs : List HeldKey) → ((x : HeldKey) → P x → Q x) → AllByRecursion P xs → AllByRecursion Q xs
all_weaker P Q [] then all = tt
all_weaker P Q (x ∷ xs) then all = (then x all.0, all_weaker P Q xs then all.1)

each_stands : (xs : List HeldKey) → AllByRecursion (Contains xs) xs
each_stands xs = recursion_from_All (Contains xs) xs (λ k d lt. (k, lt, get_or_default xs k (get_or xs k d) d lt))

-- numbers from 0 on

counted : (next : ℕ) (keys : List (ℕ × Key)) → AreCounted next (numbered [] next keys)
unfolding numbered lowest_number
counted next [] = tt
counted next (entry ∷ keys) = (refl, counted (suc next) keys)

pub counts : CountsFromZero
unfolding load_of
counts keys = subst (AreCounted 0) (sym (reverse-reverse (numbered [] 0 (rising keys)))) (counted 0 (rising keys))

-- loading

stands_held : (held : List HeldKey) (x : HeldKey) → Contains held x → Held x.number x.key held
stands_held held x stands = (x.index, stands)

kept_more : (ring : RingState) (found : Option ℕ) (free : List HeldKey) (next : ℕ) (entry : ℕ × Key) → lowest_number entry.1 free ≡ found → ring.next ≤ next →
    AllByRecursion (Contains ring.held) free → KeepsItsKey ring (held_as entry (unwrap_or found next))
kept_more ring None free next entry is le all = inr le
kept_more ring (Some number) free next entry is le all =
    let at : Finds (Contains ring.held) entry.1 number = found_lowest (Contains ring.held) entry.1 free number is all in
    let stands : Held at.held.number at.held.key ring.held = stands_held ring.held at.held at.holds in
    inl (subst (λ n. Held n entry.1 ring.held) at.number_is (subst (λ k. Held at.held.number k ring.held) at.key_is stands))

all_left : (P : HeldKey → Type 0) (found : Option ℕ) (free : List HeldKey) → AllByRecursion P free → AllByRecursion P (left_of found free)
all_left P None free all = all
all_left P (Some number) free all = all_filter P (λ held. not (held.number == number)) free all

kept_numbered : (ring : RingState) (free : List HeldKey) (next : ℕ) (keys : List (ℕ × Key)) → ring.next ≤ next → AllByRecursion (Contains ring.held) free →
    AllByRecursion (KeepsItsKey ring) (numbered free next keys)
unfolding numbered
kept_numbered ring free next [] le all = tt
kept_numbered ring free next (entry ∷ keys) le all = (
  kept_more ring (lowest_number entry.1 free) free next entry refl le all,
  kept_numbered ring (free_after free entry) (next_after free next entry) keys (omega (arith, next_step (lowest_number entry.1 free) next))
      (all_left (Contains ring.held) (lowest_number entry.1 free) free all),
)

pub loading_keeps : LoadingKeepsNumbers
unfolding load_of
loading_keeps ring keys = All-from_recursion (KeepsItsKey ring) _
    (all_reverse (KeepsItsKey ring) (numbered ring.held ring.next (rising keys))
    (kept_numbered ring ring.held ring.next (rising keys) (omega arith) (each_stands ring.held)))

-- rotation

found_holds : (P : HeldKey → Type 0) (xs : List HeldKey) (staged : HeldKey) → find is_staged xs ≡ Some staged → AllByRecursion P xs → P staged
found_holds P [] staged found all = absurd (none_some staged found) where
  none_some : (a : HeldKey) → None ≡ Some a → ⊥
  none_some a is = cc
found_holds P (x ∷ xs) staged found all = elim (cases_eq x.index 0) [
  | inl first ↦ subst P (some_same x staged (rw (eq-eqb x.index 0 first) at found)) all.0
  | inr other ↦ found_holds P xs staged (rw (ne_eqb x.index 0 other) at found) all.1
] where
  some_same : (a b : HeldKey) → Some a ≡ Some b → a ≡ b
  some_same a b is = cc

kept_promoted : (ring : RingState) (found : Option HeldKey) → find is_staged ring.held ≡ found →
    AllByRecursion (KeepsItsKey ring) (promoted_to (suc (highest ring.held)) found ++ active ring.held)
kept_promoted ring None found =
    all_filter (KeepsItsKey ring) (λ h. not (is_staged h)) ring.held
    (all_weaker (Contains ring.held) (KeepsItsKey ring) ring.held (λ x stands. inl (stands_held ring.held x stands)) (each_stands ring.held))
kept_promoted ring (Some staged) found = (
  inl (stands_held ring.held staged (found_holds (Contains ring.held) ring.held staged found (each_stands ring.held))),
  all_filter (KeepsItsKey ring) (λ h. not (is_staged h)) ring.held
      (all_weaker (Contains ring.held) (KeepsItsKey ring) ring.held (λ x stands. inl (stands_held ring.held x stands)) (each_stands ring.held)),
)

pub rotation_keeps : RotationKeepsNumbers
unfolding rotate_of
rotation_keeps ring new most = All-from_recursion (KeepsItsKey ring) _
    (all_append (KeepsItsKey ring) (take (most - 1) (promoted ring.held)) (held_as (0, new) ring.next ∷ [])
    (all_take (KeepsItsKey ring) (most - 1) (promoted ring.held) (kept_promoted ring (find is_staged ring.held) refl)) (inr (omega arith), tt))

pub stages_new : StagesTheNewKey
unfolding rotate_of
stages_new ring new most =
    let kept : List HeldKey = take (most - 1) (promoted ring.held) in
    let x : HeldKey = held_as (0, new) ring.next in
    (length kept, omega (arith, length_push kept x), get_or_push kept x x (length kept) refl)

staged_is : (x : HeldKey) (xs : List HeldKey) → HeldOver 0 xs → AllByRecursion (λ h. h.index ≡ 0 → h ≡ x) xs
staged_is x [] over = tt
staged_is x (y ∷ xs) over = ((λ zero_is. absurd (omega (arith, over.0, zero_is))), staged_is x xs over.1)

pub stages_alone : StagesNoOther
unfolding rotate_of
stages_alone ring new most held stands zero_is =
    let kept : List HeldKey = take (most - 1) (promoted ring.held) in
    let x : HeldKey = held_as (0, new) ring.next in
    let P : HeldKey → Type 0 = λ h. h.index ≡ 0 → h ≡ x in
    let all : All P (kept ++ x ∷ []) = All-from_recursion P (kept ++ x ∷ [])
    (all_append P kept (x ∷ []) (staged_is x kept (over_take 0 (most - 1) (promoted ring.held) (over_promoted ring.held))) ((λ same. refl), tt)) in
    subst P stands.2 (all stands.0 held stands.1) zero_is

-- the next number

pub loading_rises : LoadingNeverFalls
unfolding load_of
loading_rises ring keys = next_rises ring.held ring.next (rising keys)

pub loading_adds_few : LoadingAddsFew
unfolding load_of
loading_adds_few ring keys = rw (← length-rising keys) (next_within ring.held ring.next (rising keys))

pub rotation_rises : RotationRises
unfolding rotate_of
rotation_rises ring new most = refl
