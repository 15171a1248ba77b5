-- What is tested of each row of a table holds of the row that is found, and what is tested of each method of a row holds of
-- what the request's method asks for.
use Rattle.std.proofs.Common.{◌≡◌, ℕ, Bool, true, false, ◌&&◌, if◌then◌else◌, List, [], ◌∷◌, Option, Some, None, refl, subst}
use Rattle.std.proofs.lemmas.Bool.{and_parts}
use Rattle.std.specs.List.{list_all}
use Rattle.ks_base.specs.declared.method.Method.{Method}
use Rattle.ks_base.specs.declared.method.Method.TheVariants.{Get, Head, Post, Patch, Put, Delete, Other}
use Rattle.ks_routes.specs.declared.action.Action.{Action}
use Rattle.ks_routes.specs.declared.methods.Methods.{Methods}
use Rattle.ks_routes.specs.Patterns.{fits}
use Rattle.ks_routes.specs.Tables.{Row, found, action_of}

abbrev pub all_methods : (Option Action → Bool) → Methods Action → Bool
all_methods test methods =
    test methods.get && (test methods.head && (test methods.post && (test methods.patch && (test methods.put && test methods.delete))))

record AllSix (a b c d e f : Bool) : Type 0 where
  first : a ≡ true
  second : b ≡ true
  third : c ≡ true
  fourth : d ≡ true
  fifth : e ≡ true
  sixth : f ≡ true

all_six : (a b c d e f : Bool) → (a && (b && (c && (d && (e && f))))) ≡ true → AllSix a b c d e f
all_six true true true true true true is = record { first = refl; second = refl; third = refl; fourth = refl; fifth = refl; sixth = refl }
all_six true true true true true false is = cc
all_six true true true true false f is = cc
all_six true true true false e f is = cc
all_six true true false d e f is = cc
all_six true false c d e f is = cc
all_six false b c d e f is = cc

six_of : (test : Option Action → Bool) (methods : Methods Action) → all_methods test methods ≡ true
    → AllSix (test methods.get) (test methods.head) (test methods.post) (test methods.patch) (test methods.put) (test methods.delete)
six_of test methods is = all_six (test methods.get) (test methods.head) (test methods.post) (test methods.patch) (test methods.put) (test methods.delete) is

pub at_method : (test : Option Action → Bool) → test None ≡ true → (methods : Methods Action) (m : Method) → all_methods test methods ≡ true
    → test (action_of m methods) ≡ true
at_method test none methods Get is = (six_of test methods is).first
at_method test none methods Head is = (six_of test methods is).second
at_method test none methods Post is = (six_of test methods is).third
at_method test none methods Patch is = (six_of test methods is).fourth
at_method test none methods Put is = (six_of test methods is).fifth
at_method test none methods Delete is = (six_of test methods is).sixth
at_method test none methods Other is = none

found_by : (test : Row Action → Bool) (row : Row Action) (rows : List (Row Action)) (segments : List (List ℕ)) (other : Row Action) (fit : Bool)
    → fits row.pattern segments ≡ fit → test row ≡ true → (if fit then Some row else found rows segments) ≡ Some other
    → (found rows segments ≡ Some other → (test other ≡ true) × (fits other.pattern segments ≡ true))
    → (test other ≡ true) × (fits other.pattern segments ≡ true)
found_by test row rows segments other true fit passes found_is later =
    let same : row ≡ other = cc in
    (subst (λ (r : Row Action). test r ≡ true) same passes, subst (λ (r : Row Action). fits r.pattern segments ≡ true) same fit)
found_by test row rows segments other false fit passes found_is later = later found_is

pub found_passes : (test : Row Action → Bool) (rows : List (Row Action)) (segments : List (List ℕ)) (row : Row Action) → list_all test rows ≡ true
    → found rows segments ≡ Some row → (test row ≡ true) × (fits row.pattern segments ≡ true)
unfolding found
found_passes test [] segments row passes found_is = cc
found_passes test (next ∷ rows) segments row passes found_is =
    let both = and_parts (test next) (list_all test rows) passes in
    found_by test next rows segments row (fits next.pattern segments) refl both.0 found_is (found_passes test rows segments row both.1)
