-- Lists of values as data.
use Rattle.std.proofs.Common.{◌≡◌, ℕ, suc, ◌≤◌, Bool, true, false, List, [], ◌∷◌, length, get_or, Ok, refl, sym, ap, arith}
use Rattle.std.specs.Prelude.{IfOk, Result, nat_le}
use Rattle.std.specs.List.{AllByRecursion}
use Rattle.std.proofs.lemmas.Bool.Decides.{nat_tests}
use Rattle.serde_json.specs.Data.{Data, Items, no_items, item}
use Rattle.serde_json.specs.Find.{as_array}
use Rattle.ks_json.specs.View.{items_view, view}
use Rattle.ks_json.specs.declared.value.Value.{Value}
use Rattle.ks_base.specs.Results.{◌>>=◌, found, need}
use Rattle.ks_shape.specs.declared.misfit.Misfit.TheVariants as misfit
use Rattle.ks_shape.specs.Types.{count_of, each_read, list_of}
use Rattle.ks_shape.proofs.PropertyLemmas.{skip, step}

pub count_is : (values : List Value) → count_of (items_view values) ≡ length values
count_is [] = refl
count_is (value ∷ values) = ap (λ n. suc n) (count_is values)

-- lists of one value, of two, and of another number

pub only_item : (values : List Value) (only : Value) → length values ≡ 1 → only ≡ get_or values 0 only → items_view values ≡ item (view only) no_items
only_item [] only one is = absurd (omega arith)
only_item (v ∷ []) only one is = ap (λ x. item (view x) no_items) (sym is)
only_item (v ∷ (second ∷ values)) only one is = absurd (omega arith)

pub two_items : (values : List Value) (first second : Value) → length values ≡ 2 → first ≡ get_or values 0 first → second ≡ get_or values 1 second
    → items_view values ≡ item (view first) (item (view second) no_items)
two_items [] first second two is also = absurd (omega arith)
two_items (v ∷ []) first second two is also = absurd (omega arith)
two_items (v ∷ (w ∷ [])) first second two is also =
    let a : first ≡ v = is in
    let b : second ≡ w = also in
    rw (a, b) refl
two_items (v ∷ (w ∷ (third ∷ values))) first second two is also = absurd (omega arith)

-- lists that are read have no more values than they may
list_by : (most : ℕ) (items : Items) (fits : Bool) → nat_le (count_of items) most ≡ fits
    → IfOk (need fits misfit.Range >>= (λ _. Ok items)) (λ items. count_of items ≤ most)
list_by most items true is = grind (arith, nat_tests)
list_by most items false is = tt

pub list_in : (most : ℕ) (value : Data) → IfOk (list_of most value) (λ items. count_of items ≤ most)
unfolding list_of
list_in most value = skip (λ items. count_of items ≤ most) (found (as_array value) misfit.Kind) _ (λ items. list_by most items _ refl)

-- what is read of each has a property where each reading has it
abbrev pub AreEach : {A : Type 0} → (A → Type 0) → ℕ → List A → Type 0
AreEach P count rows = AllByRecursion P rows × (length rows ≡ count)

pub each_in : {A F : Type 0} (P : A → Type 0) (read : Data → Result A F) → ((value : Data) → IfOk (read value) P)
    → (items : Items) → IfOk (each_read read items) (AreEach P (count_of items))
unfolding each_read
each_in P read each no_items = (tt, refl)
each_in P read each (item value items) =
    step (AreEach P (suc (count_of items))) P (read value) _ (each value) (λ first is_first.
    step (AreEach P (suc (count_of items))) (AreEach P (count_of items)) (each_read read items) _ (each_in P read each items) (λ others are.
    ((is_first, are.0), ap (λ n. suc n) are.1)))
