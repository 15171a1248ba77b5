-- Nothing fits two patterns that are apart, so a row that the segments fit is the one that is found.
use Rattle.std.proofs.Common.{◌≡◌, ℕ, zero, suc, Bool, true, false, List, [], ◌∷◌, Some, None, refl, sym, ap, ◌∙◌, cond}
use Rattle.std.specs.Prelude.{◌||◌, slice_get}
use Rattle.std.specs.List.{list_all}
use Rattle.std.specs.Str.{bytes_eq}
use Rattle.std.proofs.lemmas.Slice.Eq.{bytes_eq-Decides}
use Rattle.std.proofs.lemmas.Bool.{false_from_ne_true, and_parts}
use Rattle.ks_base.proofs.TruthLemmas.{not_both}
use Rattle.ks_base.specs.Ids.{is_id}
use Rattle.ks_routes.specs.Patterns.{Part, literal, id, takes, fits, differ, apart}
use Rattle.ks_routes.specs.Tables.{Row, found, are_apart}

-- a segment that a text takes is that text
same_text : (text segment : List ℕ) → bytes_eq text segment ≡ true → segment ≡ text
same_text text segment e = sym ((bytes_eq-Decides text segment).0 e)

differ_not_both : (p q : Part) (segment : List ℕ) → differ p q ≡ true → takes p segment ≡ true → takes q segment ≡ true → ⊥
unfolding differ
differ_not_both (literal text) q segment d p_takes q_takes =
    not_both (takes q text) d (ap (λ s. takes q s) (sym (same_text text segment p_takes)) ∙ q_takes)
differ_not_both id (literal text) segment d p_takes q_takes =
    not_both (is_id text) d (ap (λ s. is_id s) (sym (same_text text segment q_takes)) ∙ p_takes)
differ_not_both id id segment d p_takes q_takes = cc

-- one of two tests that hold together or apart
either : (a b : Bool) → (a || b) ≡ true → (a ≡ true → ⊥) → b ≡ true
either true b e never = absurd (never refl)
either false b e never = e

pub apart_not_both : (ps qs : List Part) (segments : List (List ℕ)) → apart ps qs ≡ true → fits ps segments ≡ true → fits qs segments ≡ true → ⊥
unfolding apart fits
apart_not_both [] [] segments d p q = cc
apart_not_both [] (q ∷ qs) [] d p_fits q_fits = cc
apart_not_both [] (q ∷ qs) (segment ∷ segments) d p_fits q_fits = cc
apart_not_both (p ∷ ps) [] [] d p_fits q_fits = cc
apart_not_both (p ∷ ps) [] (segment ∷ segments) d p_fits q_fits = cc
apart_not_both (p ∷ ps) (q ∷ qs) [] d p_fits q_fits = cc
apart_not_both (p ∷ ps) (q ∷ qs) (segment ∷ segments) d p_fits q_fits =
    let p_takes = (and_parts (takes p segment) (fits ps segments) p_fits).0 in
    let q_takes = (and_parts (takes q segment) (fits qs segments) q_fits).0 in
    let behind = either (differ p q) (apart ps qs) d (λ e. differ_not_both p q segment e p_takes q_takes) in
    apart_not_both ps qs segments behind (and_parts (takes p segment) (fits ps segments) p_fits).1 (and_parts (takes q segment) (fits qs segments) q_fits).1

-- a test of each element holds at one of them
pub at_element : {X : Type 0} (test : X → Bool) (xs : List X) (k : ℕ) (x : X) → list_all test xs ≡ true → slice_get xs k ≡ Some x → test x ≡ true
at_element test [] k x all at = cc
at_element test (y ∷ xs) zero x all at = let same : y ≡ x = cc in ap test (sym same) ∙ (and_parts (test y) (list_all test xs) all).0
at_element test (y ∷ xs) (suc k) x all at = at_element test xs k x (and_parts (test y) (list_all test xs) all).1 at

-- what fits the first row fits none behind it
behind_other : {A : Type 0} (first : Row A) (rows : List (Row A)) (k : ℕ) (row : Row A) (segments : List (List ℕ))
    → list_all (λ other. apart first.pattern other.pattern) rows ≡ true → slice_get rows k ≡ Some row
    → fits first.pattern segments ≡ true → fits row.pattern segments ≡ true → ⊥
behind_other first rows k row segments all at fit_first fit =
    apart_not_both first.pattern row.pattern segments (at_element (λ other. apart first.pattern other.pattern) rows k row all at) fit_first fit

pub found_at : {A : Type 0} (rows : List (Row A)) (k : ℕ) (row : Row A) (segments : List (List ℕ))
    → are_apart rows ≡ true → slice_get rows k ≡ Some row → fits row.pattern segments ≡ true → found rows segments ≡ Some row
unfolding found are_apart
found_at [] k row segments apart at fit = cc
found_at (first ∷ rows) zero row segments apart at fit =
    let same : first ≡ row = cc in
    let fits_first : fits first.pattern segments ≡ true = ap (λ r. fits r.pattern segments) same ∙ fit in
    rw fits_first at
found_at (first ∷ rows) (suc k) row segments apart at fit =
    let other : fits first.pattern segments ≡ false =
    false_from_ne_true _ (λ e. behind_other first rows k row segments (and_parts _ (are_apart rows) apart).0 at e fit) in
    rw other (found_at rows k row segments (and_parts _ (are_apart rows) apart).1 at fit)

-- no segments fit two rows
pub one_row : {A : Type 0} (rows : List (Row A)) (i j : ℕ) (a b : Row A) (segments : List (List ℕ))
    → are_apart rows ≡ true → slice_get rows i ≡ Some a → slice_get rows j ≡ Some b
    → fits a.pattern segments ≡ true → fits b.pattern segments ≡ true → i ≡ j
unfolding are_apart
one_row [] i j a b segments apart at_i at_j fit_a fit_b = cc
one_row (first ∷ rows) zero zero a b segments apart at_i at_j fit_a fit_b = refl
one_row (first ∷ rows) zero (suc j) a b segments apart at_i at_j fit_a fit_b =
    let same : first ≡ a = cc in
    absurd (behind_other first rows j b segments (and_parts _ (are_apart rows) apart).0 at_j (ap (λ r. fits r.pattern segments) same ∙ fit_a) fit_b)
one_row (first ∷ rows) (suc i) zero a b segments apart at_i at_j fit_a fit_b =
    let same : first ≡ b = cc in
    absurd (behind_other first rows i a segments (and_parts _ (are_apart rows) apart).0 at_i (ap (λ r. fits r.pattern segments) same ∙ fit_b) fit_a)
one_row (first ∷ rows) (suc i) (suc j) a b segments apart at_i at_j fit_a fit_b =
    ap suc (one_row rows i j a b segments (and_parts _ (are_apart rows) apart).1 at_i at_j fit_a fit_b)

-- where no row is found, the segments fit none
pub none_fits : {A : Type 0} (rows : List (Row A)) (segments : List (List ℕ)) → found rows segments ≡ None
    → (k : ℕ) (row : Row A) → slice_get rows k ≡ Some row → fits row.pattern segments ≡ false
unfolding found
none_fits [] segments none k row at = cc
none_fits (first ∷ rows) segments none k row at =
    by_test (fits first.pattern segments) refl none (λ e j at. none_fits rows segments e j row at) k at
  where
    by_test : (b : Bool) → fits first.pattern segments ≡ b → cond b (Some first) (found rows segments) ≡ None
        → (found rows segments ≡ None → (j : ℕ) → slice_get rows j ≡ Some row → fits row.pattern segments ≡ false)
        → (k : ℕ) → slice_get (first ∷ rows) k ≡ Some row → fits row.pattern segments ≡ false
    by_test true e none behind k at = cc
    by_test false e none behind zero at = let same : first ≡ row = cc in ap (λ r. fits r.pattern segments) (sym same) ∙ e
    by_test false e none behind (suc k) at = behind none k at

pub none_found : {A : Type 0} (rows : List (Row A)) (segments : List (List ℕ))
    → ((k : ℕ) (row : Row A) → slice_get rows k ≡ Some row → fits row.pattern segments ≡ false) → found rows segments ≡ None
unfolding found
none_found [] segments never = refl
none_found (first ∷ rows) segments never = rw (never zero first refl) (none_found rows segments (λ k row at. never (suc k) row at))
