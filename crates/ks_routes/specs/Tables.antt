-- Tables of routes.
-- Source: Identity API v3; RFC 9110, 10.2.1.
use Rattle.std.specs.Prelude.{ℕ, Bool, true, ◌&&◌, List, [], ◌∷◌, filter, Option, Some, None, is_some, if◌then◌else◌}
use Rattle.std.specs.List.{list_all}
use Rattle.ks_base.specs.declared.method.Method.{Method}
use Rattle.ks_base.specs.declared.method.Method.TheVariants.{Get, Head, Post, Patch, Put, Delete, Other}
use Rattle.ks_routes.specs.declared.methods.Methods.{Methods}
use Rattle.ks_routes.specs.declared.route.Route.{Route}
use Rattle.ks_routes.specs.Patterns.{Part, pattern_of, fits, apart}

-- a pattern, and what each method asks for there
pub record Row (A : Type 0) : Type 0 where
  pub pattern : List Part
  pub methods : Methods A

abbrev pub row : {A : Type 0} → List ℕ → Methods A → Row A
row text methods = record { pattern = pattern_of text; methods = methods }

abbrev pub row_of : {A : Type 0} → Route A → Row A
row_of route = row route.pattern.now route.methods

-- the first row whose pattern these segments fit
unfoldable pub found : {A : Type 0} → List (Row A) → List (List ℕ) → Option (Row A)
found [] segments = None
found (row ∷ rows) segments = if fits row.pattern segments then Some row else found rows segments

-- what the method asks for, where the route has it
abbrev pub action_of : {A : Type 0} → Method → Methods A → Option A
action_of Get methods = methods.get
action_of Head methods = methods.head
action_of Post methods = methods.post
action_of Patch methods = methods.patch
action_of Put methods = methods.put
action_of Delete methods = methods.delete
action_of Other methods = None

-- the methods that the route has, in the order in which `Allow` lists them
abbrev pub allowed : {A : Type 0} → Methods A → List Method
allowed methods = filter (λ method. is_some (action_of method methods)) (Get ∷ Head ∷ Post ∷ Patch ∷ Put ∷ Delete ∷ [])

-- nothing fits two of the patterns
unfoldable pub are_apart : {A : Type 0} → List (Row A) → Bool
are_apart [] = true
are_apart (row ∷ rows) = list_all (λ other. apart row.pattern other.pattern) rows && are_apart rows
