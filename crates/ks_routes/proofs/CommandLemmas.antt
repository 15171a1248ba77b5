-- The table of the Identity API v3.
use Rattle.std.proofs.Common.{◌≡◌, ℕ, Bool, true, List, [], ◌∷◌, Option, Some, refl, ap, ◌∙◌, subst}
use Rattle.std.specs.Prelude.{codes, slice_get}
use Rattle.std.specs.List.{list_all}
use Rattle.ks_http.specs.declared.request.Request.{Request}
use Rattle.ks_routes.specs.declared.action.Action.{Action}
use Rattle.ks_routes.specs.declared.routed.Routed.{Routed}
use Rattle.ks_routes.specs.Patterns.{Part, literal, id, segments, differ, apart, fits}
use Rattle.ks_routes.proofs.ApartLemmas.{at_element}
use Rattle.ks_routes.specs.Tables.{Row, found, are_apart}
use Rattle.ks_routes.proofs.ServedLemmas.{is_enough}
use Rattle.ks_routes.specs.Routes.{table, routed_by, command_of, Answers}

pub table_apart : are_apart table ≡ true
unfolding are_apart apart differ
table_apart = refl

pub rows_apart : (rows : List (Row Action)) → rows ≡ table → are_apart rows ≡ true
rows_apart rows same = ap are_apart same ∙ table_apart

-- an answer by the route that is found among these rows, at this path
pub answers_by : (request : Request) (route : Option (Row Action)) (rows : List (Row Action)) (path : List ℕ) (result : Routed)
    → route ≡ found rows (segments path) → rows ≡ table → path ≡ request.path
    → Answers (routed_by route request) result → Answers (command_of request) result
unfolding command_of
answers_by request route rows path result found_is rows_are path_is answers =
    let same : route ≡ found table (segments request.path) = found_is ∙ (ap (λ r. found r (segments path)) rows_are ∙ ap (λ p. found table (segments p)) path_is) in
    subst (λ r. Answers (routed_by r request) result) same answers

-- each row has the ids that its actions need
pub table_served : list_all is_enough table ≡ true
table_served = refl

-- a path for each row: its literal parts, and an id where it has one
abbrev example : List Part → List (List ℕ)
example [] = []
example (literal text ∷ parts) = text ∷ example parts
example (id ∷ parts) = codes "a" ∷ example parts

abbrev is_reached : Row Action → Bool
is_reached row = fits row.pattern (example row.pattern)

table_reached : list_all is_reached table ≡ true
unfolding fits
table_reached = refl

pub row_reached : (k : ℕ) (row : Row Action) → slice_get table k ≡ Some row → (segments : List (List ℕ)) × (fits row.pattern segments ≡ true)
row_reached k row at = (example row.pattern, at_element is_reached table k row table_reached at)
