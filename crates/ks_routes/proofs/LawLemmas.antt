-- What the table of the Identity API v3 makes of requests.
use Rattle.std.proofs.Common.{◌≡◌, ℕ, zero, suc, ◌<◌, ◌≤◌, Bool, true, false, List, [], ◌∷◌, length, get_or, Option, Some, None, refl, sym, ap, ◌∙◌, subst, cond, arith}
use Rattle.std.specs.List.{list_all}
use Rattle.std.proofs.lemmas.Bool.Decides.{nat_tests}
use Rattle.std.specs.Prelude.{◌≢◌, ◌↔◌, Contains, filter, is_some, slice_get}
use Rattle.std.proofs.lemmas.List.Elements.{All-contains, filter_passes}
use Rattle.ks_base.specs.declared.method.Method.{Method}
use Rattle.ks_base.specs.declared.method.Method.TheVariants.{Get, Head, Post, Patch, Put, Delete, Other}
use Rattle.ks_http.specs.declared.request.Request.{Request}
use Rattle.ks_machine.specs.declared.command.Command.{Command}
use Rattle.ks_routes.specs.declared.action.Action.{Action}
use Rattle.ks_routes.specs.declared.methods.Methods.{Methods}
use Rattle.ks_routes.specs.declared.routed.Routed.TheVariants as routed
use Rattle.ks_routes.specs.Patterns.{Part, fits, segments}
use Rattle.ks_routes.specs.Tables.{Row, found, action_of, allowed}
use Rattle.ks_routes.specs.Asked.{asked, ids_in}
use Rattle.ks_routes.specs.Routes.{answered, routed_by}
use Rattle.ks_routes.proofs.ApartLemmas.{none_fits, none_found}
use Rattle.ks_routes.proofs.AskedLemmas.{asked_own, not_listing, not_memory}
use Rattle.ks_routes.proofs.RowLemmas.{at_method, found_passes}
use Rattle.ks_routes.proofs.ServedLemmas.{asked_served, ids_count, ids_counted, is_enough, is_enough_for, needed, not_unrouted}

contains_behind : {X : Type 0} (y : X) (ys : List X) (x : X) → Contains ys x → Contains (y ∷ ys) x
contains_behind y ys x c = (suc c.0, omega (arith, c.1), c.2)

contains_either : {X : Type 0} (b : Bool) (y : X) (ys : List X) (x : X) → Contains ys x → Contains (cond b (y ∷ ys) ys) x
contains_either true y ys x c = contains_behind y ys x c
contains_either false y ys x c = c

-- a filter keeps each element that passes
filter_keeps : {X : Type 0} (test : X → Bool) (xs : List X) (x : X) → test x ≡ true → (k : ℕ) → k < length xs → get_or xs k x ≡ x → Contains (filter test xs) x
filter_keeps test [] x passes k lt at = absurd (omega arith)
filter_keeps test (y ∷ ys) x passes zero lt at =
    let first : test y ≡ true = ap test at ∙ passes in
    rw first (zero, omega arith, at)
filter_keeps test (y ∷ ys) x passes (suc k) lt at = contains_either (test y) y (filter test ys) x (filter_keeps test ys x passes k (omega arith) at)

abbrev six : List Method
six = Get ∷ Head ∷ Post ∷ Patch ∷ Put ∷ Delete ∷ []

-- a method that asks for something is one of the six
is_listed : (m : Method) (methods : Methods Action) → is_some (action_of m methods) ≡ true → Contains six m
is_listed Get methods e = (0, omega arith, refl)
is_listed Head methods e = (1, omega arith, refl)
is_listed Post methods e = (2, omega arith, refl)
is_listed Patch methods e = (3, omega arith, refl)
is_listed Put methods e = (4, omega arith, refl)
is_listed Delete methods e = (5, omega arith, refl)
is_listed Other methods e = cc

listed_some : (m : Method) (methods : Methods Action) → Contains (allowed methods) m → is_some (action_of m methods) ≡ true
listed_some m methods c = All-contains (λ x. is_some (action_of x methods) ≡ true) (allowed methods) m (filter_passes (λ x. is_some (action_of x methods)) six) c

some_listed : (m : Method) (methods : Methods Action) → is_some (action_of m methods) ≡ true → Contains (allowed methods) m
some_listed m methods e =
    let c = is_listed m methods e in filter_keeps (λ x. is_some (action_of x methods)) six m e c.0 c.1 c.2

-- a route that has the method tells no methods
abbrev IsTaken : List Part → Methods Action → Option Action → Request → Type 0
IsTaken pattern methods action request = (others : List Method) → answered pattern methods action request ≢ routed.NoMethod others

some_is_taken : (pattern : List Part) (methods : Methods Action) (action : Option Action) (request : Request) → is_some action ≡ true ↔ IsTaken pattern methods action request
some_is_taken pattern methods (Some action) request =
    (λ e others told. not_listing (asked action (ids_in pattern (segments request.path)) request) others (asked_own action (ids_in pattern (segments request.path)) request) told, λ taken. refl)
some_is_taken pattern methods None request = (λ e. cc, λ taken. absurd (taken (allowed methods) refl))

-- where a route does not have the method, those that it has are told
pub told_methods : (route : Option (Row Action)) (request : Request) (methods : List Method) → routed_by route request ≡ routed.NoMethod methods
    → (m : Method) → Contains methods m ↔ ((others : List Method) → routed_by route (record request { method = m }) ≢ routed.NoMethod others)
told_methods None request methods e m = cc
told_methods (Some row) request methods e m = by_action (action_of request.method row.methods) e where
  by_action : (action : Option Action) → answered row.pattern row.methods action request ≡ routed.NoMethod methods
      → Contains methods m ↔ ((others : List Method) → routed_by (Some row) (record request { method = m }) ≢ routed.NoMethod others)
  by_action (Some action) e =
      absurd (not_listing (asked action (ids_in row.pattern (segments request.path)) request) methods (asked_own action (ids_in row.pattern (segments request.path)) request) e)
  by_action None e =
      let same : allowed row.methods ≡ methods = cc in
      let has = some_is_taken row.pattern row.methods (action_of m row.methods) (record request { method = m }) in (
        λ c. has.0 (listed_some m row.methods (subst (λ ms. Contains ms m) (sym same) c)),
        λ taken. subst (λ ms. Contains ms m) same (some_listed m row.methods (has.1 taken)),
      )

pub other_told : (route : Option (Row Action)) (request : Request) (command : Command) → request.method ≡ Other → routed_by route request ≢ routed.Command command
other_told None request command other e = cc
other_told (Some row) request command other e =
    let told : answered row.pattern row.methods None request ≡ routed.Command command =
    ap (λ m. answered row.pattern row.methods (action_of m row.methods) request) (sym other) ∙ e in
    cc

pub never_memory : (route : Option (Row Action)) (request : Request) → routed_by route request ≢ routed.Memory
never_memory None request e = cc
never_memory (Some row) request e = by_action (action_of request.method row.methods) e where
  by_action : (action : Option Action) → answered row.pattern row.methods action request ≡ routed.Memory → ⊥
  by_action (Some action) e = not_memory (asked action (ids_in row.pattern (segments request.path)) request) (asked_own action (ids_in row.pattern (segments request.path)) request) e
  by_action None e = cc

-- a route whose pattern has the ids that its actions need serves each path that fits
served_by : (row : Row Action) (request : Request) (action : Option Action) → is_enough_for (ids_count row.pattern) action ≡ true
    → fits row.pattern (segments request.path) ≡ true → answered row.pattern row.methods action request ≢ routed.NoRoute
served_by row request (Some action) enough fit e =
    let ids = ids_in row.pattern (segments request.path) in
    let count : length ids ≡ ids_count row.pattern = ids_counted row.pattern (segments request.path) fit in
    let le : needed action ≤ length ids = grind (arith, nat_tests, enough, count) in
    not_unrouted (asked action ids request) (asked_served action ids request le) e
served_by row request None enough fit e = cc

no_route : (rows : List (Row Action)) (request : Request) → list_all is_enough rows ≡ true → (route : Option (Row Action))
    → found rows (segments request.path) ≡ route → routed_by route request ≡ routed.NoRoute → route ≡ None
no_route rows request enough None found_is e = refl
no_route rows request enough (Some row) found_is e =
    let both = found_passes is_enough rows (segments request.path) row enough found_is in
    absurd (served_by row request (action_of request.method row.methods) (at_method (is_enough_for (ids_count row.pattern)) refl row.methods request.method both.0) both.1 e)

pub unrouted : (rows : List (Row Action)) (request : Request) → list_all is_enough rows ≡ true
    → routed_by (found rows (segments request.path)) request ≡ routed.NoRoute
    ↔ ((k : ℕ) (row : Row Action) → slice_get rows k ≡ Some row → fits row.pattern (segments request.path) ≡ false)
unrouted rows request enough = (
  λ e. none_fits rows (segments request.path) (no_route rows request enough (found rows (segments request.path)) refl e),
  λ never. ap (λ o. routed_by o request) (none_found rows (segments request.path) never),
)
