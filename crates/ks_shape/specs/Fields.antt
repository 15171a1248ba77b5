-- The fields of a place.
use Rattle.std.specs.Prelude.{ℕ, Bool, true, false, if◌then◌else◌, List, Option, Some, None, is_some, Result, Ok, Err}
use Rattle.serde_json.specs.Data.{Data}
use Rattle.serde_json.specs.Find.{as_null}
use Rattle.ks_base.specs.declared.shapes.ShapeFault.{ShapeFault}
use Rattle.ks_base.specs.declared.shapes.ShapeFault.TheVariants as fault
use Rattle.ks_base.specs.Results.{found, ◌>>=◌}
use Rattle.ks_shape.specs.declared.misfit.Misfit.{Misfit}
use Rattle.ks_shape.specs.declared.misfit.Misfit.TheVariants as misfit
use Rattle.ks_shape.specs.Places.{Place, value_at, path_at}

-- a type of fields: what it makes of a value, or how the value does not fit
abbrev pub FieldType : Type 0 → Type 0
FieldType A = Data → Result A Misfit

-- a misfit at a path
abbrev pub fault_at : List ℕ → Misfit → ShapeFault
fault_at path misfit.Kind = fault.Kind path
fault_at path misfit.Range = fault.Range path

abbrev pub judged : {A : Type 0} → List ℕ → Result A Misfit → Result A ShapeFault
judged path (Ok a) = Ok a
judged path (Err misfit) = Err (fault_at path misfit)

-- a needed value is missing where nothing stands
unfoldable pub needed_value : List (List ℕ) → Place → Result Data ShapeFault
needed_value names place = do
  standing ← value_at names place
  found standing (fault.Missing (path_at names place))

-- a field of a type that is needed: missing, of another type or out of range
unfoldable pub needed : {A : Type 0} → FieldType A → List (List ℕ) → Place → Result A ShapeFault
needed type names place = do
  value ← needed_value names place
  judged (path_at names place) (type value)

-- null counts as absent for one that is not needed
abbrev pub unless_null : Option Data → Option Data
unless_null None = None
unless_null (Some value) = if is_some (as_null value) then None else Some value

unfoldable pub optional_value : List (List ℕ) → Place → Result (Option Data) ShapeFault
optional_value names place = do
  standing ← value_at names place
  Ok (unless_null standing)

abbrev pub if_given : {A : Type 0} → FieldType A → Option Data → Result (Option A) Misfit
if_given type None = Ok None
if_given type (Some value) = do
  a ← type value
  Ok (Some a)

unfoldable pub optional : {A : Type 0} → FieldType A → List (List ℕ) → Place → Result (Option A) ShapeFault
optional type names place = do
  value ← optional_value names place
  judged (path_at names place) (if_given type value)

-- a field that a new row needs, and a change may give
abbrev pub needed_if : {A : Type 0} → Bool → FieldType A → List (List ℕ) → Place → Result (Option A) ShapeFault
needed_if true type names place = do
  a ← needed type names place
  Ok (Some a)
needed_if false type names place = optional type names place
