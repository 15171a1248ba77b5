-- Reading one entry more of a list.
use Rattle.std.proofs.Common.{◌≡◌, ℕ, zero, suc, ◌+◌, ◌<◌, ◌≤◌, List, [], ◌∷◌, ◌++◌, length, get_or, drop, Ok, Err, refl, sym, ap, ◌∙◌, arith, add-one, append-nil}
use Rattle.std.specs.Prelude.{Result}
use Rattle.ks_json.specs.View.{items_view, view}
use Rattle.ks_json.specs.declared.value.Value.{Value}
use Rattle.ks_base.specs.declared.shapes.ShapeFault.{ShapeFault}
use Rattle.ks_base.specs.declared.shapes.ShapeRefusal.{ShapeRefusal}
use Rattle.ks_base.specs.declared.shapes.ShapeRefusal.TheVariants as refusal
use Rattle.ks_shape.specs.Places.{Place, entry_at}
use Rattle.ks_shape.specs.Readings.{Reads}
use Rattle.ks_shape.proofs.NameLemmas.{behind, behind_more}
use Rattle.ks_written.specs.Entries.{Entry, entries_from}

-- the rows that are read before entry i, and what the entries from there on give
abbrev pub all_from : {A : Type 0} → Entry A → List (List ℕ) → Place → ℕ → List A → List Value → Result (List A) ShapeFault
all_from entry names file i rows values = behind rows (entries_from entry names file i (items_view (drop i values)))

-- entry i of the values is entry number n of the list
entry_more : {A : Type 0} (entry : Entry A) (names : List (List ℕ)) (file : Place) (n : ℕ) (rows : List A) (values : List Value) (i : ℕ) (value : Value) (row : A)
    → i < length values → value ≡ get_or values i value → entry (entry_at names n (view value) file) ≡ Ok row
    → behind rows (entries_from entry names file n (items_view (drop i values)))
    ≡ behind (rows ++ row ∷ []) (entries_from entry names file (suc n) (items_view (drop (suc i) values)))
unfolding entries_from
entry_more entry names file n rows [] i value row lt is e = absurd (omega arith)
entry_more entry names file n rows (v ∷ values) zero value row lt is e =
    let e' : entry (entry_at names n (view v) file) ≡ Ok row = ap (λ x. entry (entry_at names n (view x) file)) (sym is) ∙ e in
    rw e' (behind_more rows row (entries_from entry names file (suc n) (items_view values)))
entry_more entry names file n rows (v ∷ values) (suc i) value row lt is e = entry_more entry names file n rows values i value row (omega arith) is e

pub entry_step : {A : Type 0} (entry : Entry A) (names : List (List ℕ)) (file : Place) (rows : List A) (values : List Value) (i : ℕ) (value : Value) (row : A)
    → i < length values → value ≡ get_or values i value → entry (entry_at names i (view value) file) ≡ Ok row
    → all_from entry names file (i + 1) (rows ++ row ∷ []) values ≡ all_from entry names file i rows values
entry_step entry names file rows values i value row lt is e = rw add-one (sym (entry_more entry names file i rows values i value row lt is e))

entry_fault : {A : Type 0} (entry : Entry A) (names : List (List ℕ)) (file : Place) (n : ℕ) (rows : List A) (values : List Value) (i : ℕ) (value : Value) (fault : ShapeFault)
    → i < length values → value ≡ get_or values i value → entry (entry_at names n (view value) file) ≡ Err fault
    → behind rows (entries_from entry names file n (items_view (drop i values))) ≡ Err fault
unfolding entries_from
entry_fault entry names file n rows [] i value fault lt is e = absurd (omega arith)
entry_fault entry names file n rows (v ∷ values) zero value fault lt is e =
    let e' : entry (entry_at names n (view v) file) ≡ Err fault = ap (λ x. entry (entry_at names n (view x) file)) (sym is) ∙ e in
    rw e' refl
entry_fault entry names file n rows (v ∷ values) (suc i) value fault lt is e = entry_fault entry names file n rows values i value fault (omega arith) is e

-- a refused entry refuses the list
pub entry_refused : {A : Type 0} (refused : ShapeRefusal) (entry : Entry A) (names : List (List ℕ)) (file : Place) (rows : List A) (values : List Value) (i : ℕ) (value : Value)
    → i < length values → value ≡ get_or values i value → Reads {A = A} (Err refused) (entry (entry_at names i (view value) file))
    → Reads {A = List A} (Err refused) (all_from entry names file i rows values)
entry_refused (refusal.Shape fault) entry names file rows values i value lt is e = entry_fault entry names file i rows values i value fault lt is e
entry_refused refusal.Memory entry names file rows values i value lt is e = tt

entries_end : {A : Type 0} (entry : Entry A) (names : List (List ℕ)) (file : Place) (n : ℕ) (rows : List A) (values : List Value) (i : ℕ) → length values ≤ i
    → behind rows (entries_from entry names file n (items_view (drop i values))) ≡ Ok rows
unfolding entries_from
entries_end entry names file n rows [] zero le = ap Ok (append-nil rows)
entries_end entry names file n rows [] (suc i) le = ap Ok (append-nil rows)
entries_end entry names file n rows (v ∷ values) zero le = absurd (omega arith)
entries_end entry names file n rows (v ∷ values) (suc i) le = entries_end entry names file n rows values i (omega arith)

pub all_read : {A : Type 0} (entry : Entry A) (names : List (List ℕ)) (file : Place) (rows : List A) (values : List Value) (i : ℕ) → length values ≤ i
    → all_from entry names file i rows values ≡ Ok rows
all_read entry names file rows values i le = entries_end entry names file i rows values i le
