-- The methods of lists of other lengths.
use Rattle.std.proofs.Common.{◌≡◌, List, [], ◌∷◌, length, None, refl}
use Rattle.ks_json.specs.View.{items_view}
use Rattle.ks_json.specs.declared.value.Value.{Value}
use Rattle.ks_shape.specs.Methods.{method_in}

pub no_method : (values : List Value) → (length values ≡ 1 → ⊥) → (length values ≡ 2 → ⊥) → method_in (items_view values) ≡ None
no_method [] one two = refl
no_method (value ∷ []) one two = absurd (one refl)
no_method (value ∷ (second ∷ [])) one two = absurd (two refl)
no_method (value ∷ (second ∷ (third ∷ values))) one two = refl
