-- What holds of each row still does where rows are put, dropped or left out; and faults that do not apply.
use Rattle.std.proofs.Common.{◌≡◌, ◌<◌, ◌≤◌, Bool, true, false, ◌⊎◌, inl, inr, List, [], ◌∷◌, cond, map, Option, Some, None, is_some, length, refl, sym, ap, subst, ◌∙◌, arith}
use Rattle.std.specs.Prelude.{not}
use Rattle.std.specs.List.{AllByRecursion, filter, find}
use Rattle.std.specs.Ordering.{is_eq}
use Rattle.std.proofs.lemmas.Bool.{both_ways}
use Rattle.std.proofs.lemmas.Cmp.{nat_list_cmp_total}
use Rattle.std.proofs.lemmas.Slice.Eq.{bytes_eq-Decides}
use Rattle.ks_base.specs.OrderLaws.{id_exact}
use Rattle.ks_base.specs.Refusals.{fault_if, first_of}
use Rattle.ks_base.specs.Rows.{Id, same}
use Rattle.ks_base.specs.Tables.{Among, drop_row, find_row, id_cmp, put_row}
use Rattle.ks_base.proofs.ListLemmas.{fewer_behind, fewer_here, no_more_by}
use Rattle.ks_base.proofs.RowLemmas.{among_drop, among_filter, among_put, find_drop_other, find_put, find_put_other, found_among, eq_is, id_found}
use Rattle.ks_base.proofs.AmongLemmas.{all_among, among_all}
use Rattle.ks_laws.specs.Orderly.{Each}
use Rattle.ks_machine.specs.Lawful.{IsPut, IsStanding}

-- each of the rows

pub each_put : {X : Type 0} (id_of : X → Id) (P : X → Type 0) (row : X) (rows : List X) → P row → Each P rows → Each P (put_row id_cmp id_of row rows)
each_put {X} id_of P row rows here each x among = by (among_put id_cmp id_of row rows x among)
  where
    by : (row ≡ x) ⊎ Among rows x → P x
    by (inl is) = subst P is here
    by (inr old) = each x old

pub each_filter : {X : Type 0} (P : X → Type 0) (test : X → Bool) (rows : List X) → Each P rows → Each P (filter test rows)
each_filter P test rows each x among = each x (among_filter test rows x among).0

pub each_drop : {X : Type 0} (id_of : X → Id) (P : X → Type 0) (id : Id) (rows : List X) → Each P rows → Each P (drop_row id_cmp id_of id rows)
each_drop id_of P id rows each x among = each x (among_drop id_cmp id_of id rows x among).0

pub each_of_all : {X : Type 0} (P : X → Type 0) (rows : List X) → AllByRecursion P rows → Each P rows
each_of_all P rows all x among = all_among P rows x all among

pub all_of_each : {X : Type 0} (P : X → Type 0) (rows : List X) → Each P rows → AllByRecursion P rows
all_of_each P rows each = among_all P rows each

pub all_mapped : {X Y : Type 0} (P : Y → Type 0) (f : X → Y) (rows : List X) → Each (λ x. P (f x)) rows → AllByRecursion P (map f rows)
all_mapped P f [] each = tt
all_mapped P f (row ∷ rows) each = (each row (inl refl), all_mapped P f rows (λ x among. each x (inr among)))

-- names that are unique within a home, as in a domain or of a user

abbrev pub AreNamesApart : {X : Type 0} (id_of home_of name_of : X → Id) → List X → Type 0
AreNamesApart {X} id_of home_of name_of rows =
    (a b : X) → Among rows a → Among rows b → home_of a ≡ home_of b → name_of a ≡ name_of b → id_of a ≡ id_of b

-- the name of a row is its own
abbrev pub IsNameAlone : {X : Type 0} (id_of home_of name_of : X → Id) → X → List X → Type 0
IsNameAlone {X} id_of home_of name_of row rows =
    (other : X) → Among rows other → home_of other ≡ home_of row → name_of other ≡ name_of row → id_of other ≡ id_of row

pub names_put : {X : Type 0} (id_of home_of name_of : X → Id) (row : X) (rows : List X) → IsNameAlone id_of home_of name_of row rows →
    AreNamesApart id_of home_of name_of rows → AreNamesApart id_of home_of name_of (put_row id_cmp id_of row rows)
names_put {X} id_of home_of name_of row rows alone unique a b first second home name =
    by (among_put id_cmp id_of row rows a first) (among_put id_cmp id_of row rows b second)
  where
    by : (row ≡ a) ⊎ Among rows a → (row ≡ b) ⊎ Among rows b → id_of a ≡ id_of b
    by (inl one) (inl other) = ap id_of (sym one ∙ other)
    by (inl one) (inr among) =
        let P : X → Type 0 = λ r. home_of r ≡ home_of b → name_of r ≡ name_of b → id_of r ≡ id_of b in
        subst P one (λ home name. sym (alone b among (sym home) (sym name))) home name
    by (inr among) (inl other) =
        let P : X → Type 0 = λ r. home_of a ≡ home_of r → name_of a ≡ name_of r → id_of a ≡ id_of r in
        subst P other (λ home name. alone a among home name) home name
    by (inr one) (inr other) = unique a b one other home name

-- tests

found_none_by : {X : Type 0} (test : X → Bool) (next x : X) (xs : List X) (b : Bool) → test next ≡ b → cond b (Some next) (find test xs) ≡ None →
    Among (next ∷ xs) x → (find test xs ≡ None → Among xs x → test x ≡ true → ⊥) → test x ≡ true → ⊥
found_none_by test next x xs true is none among later holds = cc
found_none_by test next x xs false is none (inl here) later holds = let also : test next ≡ test x = ap test here in cc
found_none_by test next x xs false is none (inr among) later holds = later none among holds

-- where none is found, none passes
pub found_none : {X : Type 0} (test : X → Bool) (xs : List X) (x : X) → find test xs ≡ None → Among xs x → test x ≡ true → ⊥
found_none test [] x none among holds = among
found_none test (next ∷ xs) x none among holds =
    found_none_by test next x xs (test next) refl none among (λ later among holds. found_none test xs x later among holds) holds

none_found_by : {X : Type 0} (test : X → Bool) (next : X) (xs : List X) (b : Bool) → test next ≡ b → (test next ≡ true → ⊥) → find test xs ≡ None →
    cond b (Some next) (find test xs) ≡ None
none_found_by test next xs true is fails later = absurd (fails is)
none_found_by test next xs false is fails later = later

pub none_found : {X : Type 0} (test : X → Bool) (xs : List X) → ((x : X) → Among xs x → test x ≡ true → ⊥) → find test xs ≡ None
none_found test [] fails = refl
none_found test (next ∷ xs) fails = none_found_by test next xs (test next) refl (fails next (inl refl)) (none_found test xs (λ x among. fails x (inr among)))

found_by : {X : Type 0} (test : X → Bool) (next x : X) (xs : List X) (b : Bool) → test next ≡ b → cond b (Some next) (find test xs) ≡ Some x →
    (find test xs ≡ Some x → Among xs x × (test x ≡ true)) → Among (next ∷ xs) x × (test x ≡ true)
found_by test next x xs true is found later = let here : next ≡ x = cc in (inl here, ap test (sym here) ∙ is)
found_by test next x xs false is found later = let rest = later found in (inr rest.0, rest.1)

pub found_passes : {X : Type 0} (test : X → Bool) (xs : List X) (x : X) → find test xs ≡ Some x → Among xs x × (test x ≡ true)
found_passes test [] x found = cc
found_passes test (next ∷ xs) x found = found_by test next x xs (test next) refl found (found_passes test xs x)

-- ids

pub same_is : (a b : Id) → same a b ≡ true → a ≡ b
same_is a b is = (bytes_eq-Decides a b).0 is

pub is_same : (a b : Id) → a ≡ b → same a b ≡ true
is_same a b is = (bytes_eq-Decides a b).1 is

pub found_is_among : {R : Type 0} (id_of : R → Id) (id : Id) (rows : List R) (row : R) → find_row id_cmp id_of id rows ≡ Some row → Among rows row
found_is_among id_of id rows row found = (found_among id_cmp id_of id rows row found).0

-- a row is found by its own id
pub found_by_own : {R : Type 0} (id_of : R → Id) (id : Id) (rows : List R) (row : R) → find_row id_cmp id_of id rows ≡ Some row →
    find_row id_cmp id_of (id_of row) rows ≡ Some row
found_by_own id_of id rows row found = ap (λ (k : Id). find_row id_cmp id_of k rows) (id_found id_of id rows row found) ∙ found

-- a look-up by id after a row was put
pub AfterPut : {R : Type 0} (id_of : R → Id) (row : R) (rows : List R) (id : Id) → Type 0
AfterPut id_of row rows id =
    ((id_of row ≡ id) × (find_row id_cmp id_of id (put_row id_cmp id_of row rows) ≡ Some row))
    ⊎ (find_row id_cmp id_of id (put_row id_cmp id_of row rows) ≡ find_row id_cmp id_of id rows)

after_put_by : {R : Type 0} (id_of : R → Id) (row : R) (rows : List R) (id : Id) (b : Bool) → is_eq (id_cmp (id_of row) id) ≡ b → AfterPut id_of row rows id
unfolding AfterPut
after_put_by {R} id_of row rows id true is =
    let alike : id_of row ≡ id = id_exact (id_of row) id (eq_is (id_cmp (id_of row) id) is) in
    inl (alike, subst (λ (k : Id). find_row id_cmp id_of k (put_row id_cmp id_of row rows) ≡ Some row) alike (find_put id_cmp id_of nat_list_cmp_total row rows))
after_put_by id_of row rows id false is = inr (find_put_other id_cmp id_of nat_list_cmp_total id row rows is)

pub after_put : {R : Type 0} (id_of : R → Id) (row : R) (rows : List R) (id : Id) →
    ((id_of row ≡ id) × (find_row id_cmp id_of id (put_row id_cmp id_of row rows) ≡ Some row))
    ⊎ (find_row id_cmp id_of id (put_row id_cmp id_of row rows) ≡ find_row id_cmp id_of id rows)
unfolding AfterPut
after_put id_of row rows id = after_put_by id_of row rows id (is_eq (id_cmp (id_of row) id)) refl

after_drop_by : {R : Type 0} (id_of : R → Id) (gone : Id) (rows : List R) (id : Id) (b : Bool) → is_eq (id_cmp gone id) ≡ b → (gone ≡ id → ⊥) →
    find_row id_cmp id_of id (drop_row id_cmp id_of gone rows) ≡ find_row id_cmp id_of id rows
after_drop_by id_of gone rows id true is other = absurd (other (id_exact gone id (eq_is (id_cmp gone id) is)))
after_drop_by id_of gone rows id false is other = find_drop_other id_cmp id_of nat_list_cmp_total gone id rows is

pub after_drop : {R : Type 0} (id_of : R → Id) (gone : Id) (rows : List R) (id : Id) → (gone ≡ id → ⊥) →
    find_row id_cmp id_of id (drop_row id_cmp id_of gone rows) ≡ find_row id_cmp id_of id rows
after_drop id_of gone rows id other = after_drop_by id_of gone rows id (is_eq (id_cmp gone id)) refl other

-- what stands still does when a row is put
pub stands_put : {R : Type 0} (id_of : R → Id) (row : R) (rows : List R) (id : Id) → IsStanding (find_row id_cmp id_of id rows) →
    IsStanding (find_row id_cmp id_of id (put_row id_cmp id_of row rows))
stands_put {R} id_of row rows id stands = by (after_put id_of row rows id)
  where
    by : ((id_of row ≡ id) × (find_row id_cmp id_of id (put_row id_cmp id_of row rows) ≡ Some row))
        ⊎ (find_row id_cmp id_of id (put_row id_cmp id_of row rows) ≡ find_row id_cmp id_of id rows) →
        IsStanding (find_row id_cmp id_of id (put_row id_cmp id_of row rows))
    by (inl (alike, there)) = ap is_some there
    by (inr unchanged) = ap is_some unchanged ∙ stands

-- and when another is dropped
pub other_stands : {R : Type 0} (id_of : R → Id) (gone id : Id) (rows : List R) → same id gone ≡ false → IsStanding (find_row id_cmp id_of id rows) →
    IsStanding (find_row id_cmp id_of id (drop_row id_cmp id_of gone rows))
other_stands id_of gone id rows out stands =
    ap is_some (after_drop id_of gone rows id (λ is. both_ways (same id gone) out (is_same id gone (sym is)))) ∙ stands

-- faults

-- none of them applies
abbrev pub AllNone : {F : Type 0} → List (Option F) → Type 0
AllNone [] = Unit {0}
AllNone (fault ∷ faults) = (fault ≡ None) × AllNone faults

pub none_apply : {F : Type 0} (faults : List (Option F)) → first_of faults ≡ None → AllNone faults
none_apply [] none = tt
none_apply (None ∷ faults) none = (refl, none_apply faults none)
none_apply (Some fault ∷ faults) none = cc

pub two_none : {F : Type 0} (a b : Option F) → a ≡ None → b ≡ None → first_of (a ∷ b ∷ []) ≡ None
two_none None None first second = refl
two_none None (Some fault) first second = cc
two_none (Some fault) b first second = cc

pub is_there : {R : Type 0} (row : Option R) → not (is_some row) ≡ false → is_some row ≡ true
is_there None none = cc
is_there (Some row) none = refl

-- a put of a new row, and of one that stands

pub put_new : {R F : Type 0} (found : Option R) (added : Option F) (Keeps : R → Type 0) (set : Option F) → found ≡ None → added ≡ None → IsPut found added Keeps set
put_new None added Keeps set none fits = fits
put_new (Some row) added Keeps set none fits = cc

pub put_standing : {R F : Type 0} (found : Option R) (added : Option F) (Keeps : R → Type 0) (set : Option F) (standing : R) → found ≡ Some standing → Keeps standing → set ≡ None →
    IsPut found added Keeps set
put_standing None added Keeps set standing stands keeps fits = cc
put_standing {R} {F} (Some row) added Keeps set standing stands keeps fits = let is : standing ≡ row = cc in (subst Keeps is keeps, fits)

-- a put is an addition without a fault, or a change without one: what follows from either follows from it
pub put_gives : {R F : Type 0} (P : Type 0) (found : Option R) (added : Option F) (Keeps : R → Type 0) (set : Option F) → (added ≡ None → P) → (set ≡ None → P) →
    IsPut found added Keeps set → P
put_gives P None added Keeps set new changed fits = new fits
put_gives P (Some row) added Keeps set new changed fits = changed fits.1

-- of two tests, where each row that passes the one passes the other, no fewer pass that, and more where one row passes it alone
pub no_fewer : {X : Type 0} (p q : X → Bool) → ((x : X) → p x ≡ true → q x ≡ true) → (rows : List X) → length (filter p rows) ≤ length (filter q rows)
no_fewer p q more [] = omega arith
no_fewer p q more (x ∷ rows) = no_more_by (p x) (q x) x (filter p rows) (filter q rows) (more x) (no_fewer p q more rows)

pub more_pass : {X : Type 0} (p q : X → Bool) → ((x : X) → p x ≡ true → q x ≡ true) → (rows : List X) (row : X) → Among rows row → p row ≡ false → q row ≡ true →
    length (filter p rows) < length (filter q rows)
more_pass p q more [] row among fails passes = absurd among
more_pass p q more (x ∷ rows) row (inl is) fails passes =
    fewer_here (p x) (q x) x (filter p rows) (filter q rows) (ap p is ∙ fails) (ap q is ∙ passes) (no_fewer p q more rows)
more_pass p q more (x ∷ rows) row (inr among) fails passes =
    fewer_behind (p x) (q x) x (filter p rows) (filter q rows) (more x) (more_pass p q more rows row among fails passes)
