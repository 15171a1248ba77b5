-- Reading one value more of a list.
use Rattle.std.proofs.Common.{◌≡◌, ℕ, zero, suc, ◌+◌, ◌<◌, ◌≤◌, List, [], ◌∷◌, ◌++◌, length, get_or, drop, Some, Ok, Err, refl, sym, ap, ◌∙◌, arith, add-one, append_assoc, append-nil}
use Rattle.std.specs.Prelude.{Result}
use Rattle.serde_json.specs.Data.{Data}
use Rattle.ks_json.specs.View.{items_view, view}
use Rattle.ks_json.specs.declared.value.Value.{Value}
use Rattle.ks_base.specs.declared.shapes.ShapeRefusal.{ShapeRefusal}
use Rattle.ks_base.specs.declared.shapes.ShapeRefusal.TheVariants as refusal
use Rattle.ks_base.specs.Results.{◌>>=◌}
use Rattle.ks_machine.specs.declared.bodies.Named.{Named}
use Rattle.ks_shape.specs.Places.{Place}
use Rattle.ks_shape.specs.Names.{all_named, named_at}
use Rattle.ks_shape.specs.Readings.{Reads}
use Rattle.ks_shape.specs.Types.{each_read}

-- rows that are read, before what the rest gives
abbrev pub behind : {A F : Type 0} → List A → Result (List A) F → Result (List A) F
behind rows (Ok others) = Ok (rows ++ others)
behind rows (Err fault) = Err fault

pub behind_more : {A F : Type 0} (rows : List A) (row : A) (r : Result (List A) F)
    → behind rows (r >>= (λ others. Ok (row ∷ others))) ≡ behind (rows ++ row ∷ []) r
behind_more rows row (Ok others) = ap Ok (sym (append_assoc rows (row ∷ []) others))
behind_more rows row (Err fault) = refl

each_more : {A F : Type 0} (read : Data → Result A F) (rows : List A) (values : List Value) (i : ℕ) (value : Value) (row : A)
    → i < length values → value ≡ get_or values i value → read (view value) ≡ Ok row
    → behind rows (each_read read (items_view (drop i values))) ≡ behind (rows ++ row ∷ []) (each_read read (items_view (drop (suc i) values)))
unfolding each_read
each_more read rows [] i value row lt is e = absurd (omega arith)
each_more read rows (v ∷ values) zero value row lt is e =
    let e' : read (view v) ≡ Ok row = ap (λ x. read (view x)) (sym is) ∙ e in
    rw e' (behind_more rows row (each_read read (items_view values)))
each_more read rows (v ∷ values) (suc i) value row lt is e = each_more read rows values i value row (omega arith) is e

pub each_step : {A F : Type 0} (read : Data → Result A F) (rows : List A) (values : List Value) (i : ℕ) (value : Value) (row : A)
    → i < length values → value ≡ get_or values i value → read (view value) ≡ Ok row
    → behind (rows ++ row ∷ []) (each_read read (items_view (drop (i + 1) values))) ≡ behind rows (each_read read (items_view (drop i values)))
each_step read rows values i value row lt is e = rw add-one (sym (each_more read rows values i value row lt is e))

-- a refused value refuses the list
pub each_fault : {A F : Type 0} (read : Data → Result A F) (rows : List A) (values : List Value) (i : ℕ) (value : Value) (fault : F)
    → i < length values → value ≡ get_or values i value → read (view value) ≡ Err fault
    → behind rows (each_read read (items_view (drop i values))) ≡ Err fault
unfolding each_read
each_fault read rows [] i value fault lt is e = absurd (omega arith)
each_fault read rows (v ∷ values) zero value fault lt is e =
    let e' : read (view v) ≡ Err fault = ap (λ x. read (view x)) (sym is) ∙ e in
    rw e' refl
each_fault read rows (v ∷ values) (suc i) value fault lt is e = each_fault read rows values i value fault (omega arith) is e

pub each_end : {A F : Type 0} (read : Data → Result A F) (rows : List A) (values : List Value) (i : ℕ) → length values ≤ i
    → behind rows (each_read read (items_view (drop i values))) ≡ Ok rows
unfolding each_read
each_end read rows [] zero le = ap Ok (append-nil rows)
each_end read rows [] (suc i) le = ap Ok (append-nil rows)
each_end read rows (v ∷ values) zero le = absurd (omega arith)
each_end read rows (v ∷ values) (suc i) le = each_end read rows values i (omega arith)

-- rows that are known by one path

abbrev pub entry : List ℕ → Data → Place
entry path value = record { path = path; value = Some value }

pub named_refused : (refused : ShapeRefusal) (path : List ℕ) (rows : List Named) (values : List Value) (i : ℕ) (value : Value)
    → i < length values → value ≡ get_or values i value → Reads {A = Named} (Err refused) (named_at (entry path (view value)))
    → Reads {A = List Named} (Err refused) (behind rows (all_named path (items_view (drop i values))))
named_refused (refusal.Shape fault) path rows values i value lt is e = each_fault (λ v. named_at (entry path v)) rows values i value fault lt is e
named_refused refusal.Memory path rows values i value lt is e = tt
