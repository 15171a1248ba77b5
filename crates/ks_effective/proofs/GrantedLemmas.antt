use Rattle.std.proofs.Common.{◌≡◌, ℕ, ◌+◌, ◌<◌, Bool, List, [], ◌∷◌, ◌++◌, length, map, drop, get_or, Result, Ok, Err, append_assoc, refl, sym, ap, subst, ◌∙◌}
use Rattle.std.specs.List.{filter, flat_map}
use Rattle.std.proofs.lemmas.List.{append-nil}
use Rattle.std.specs.Ordering.{is_eq}
use Rattle.std.specs.Prelude.{◌↔◌, IfOk}
use Rattle.std.proofs.lemmas.Cmp.{tied_itself}
use Rattle.ks_base.specs.declared.grants.Actor.{Actor}
use Rattle.ks_base.specs.declared.grants.GrantRow.{GrantRow}
use Rattle.ks_base.specs.declared.grants.GrantSite.{GrantSite}
use Rattle.ks_base.specs.declared.grants.Target.{Target}
use Rattle.ks_base.specs.Grants.{is_of_actor}
use Rattle.ks_base.specs.OrderLaws.{site_exact, site_total}
use Rattle.ks_base.specs.Orders.{site_of, site_cmp}
use Rattle.ks_base.specs.Roles.{Acts, Reaches, Walks, IsImplied, Effective}
use Rattle.ks_base.specs.Rows.{Id, Rows}
use Rattle.ks_base.specs.Tables.{Among}
use Rattle.ks_base.proofs.RowLemmas.{among_filter, eq_is, filter_among}
use Rattle.ks_base.proofs.AmongLemmas.{among_joined, joined_among, map_among, among_mapped}
use Rattle.ks_base.proofs.ListLemmas.{drop_at}
use Rattle.ks_base.proofs.GrantLemmas.{same_actor-Decides}
use Rattle.ks_effective.specs.declared.reach.Reach.{Reach}
use Rattle.ks_effective.specs.Actors.{ActorsOf, actors_in}
use Rattle.ks_effective.specs.Reach.{sites}
use Rattle.ks_effective.specs.Granted.{roles_at, roles_over, roles_to, roles_granted}

-- the actors and the sites that were looked up are those of the state
abbrev pub AreActors : Rows → Id → ActorsOf → Type 0
AreActors rows user actors = (actor : Actor) → Among (actors_in actors) actor ↔ Acts rows.members user actor

abbrev pub IsReach : Rows → Target → Reach → Type 0
IsReach rows wanted reach = (row : GrantRow) → Among (sites row.actor reach) (site_of row) ↔ Reaches rows.projects row.inherited row.target wanted

abbrev stands_at : GrantSite → GrantRow → Bool
stands_at site row = is_eq (site_cmp (site_of row) site)

effective_by : (rows : Rows) (user : Id) (wanted : Target) (actors : ActorsOf) (reach : Reach) (role prior : Id) → AreActors rows user actors → IsReach rows wanted reach →
    Among (roles_granted rows.grants actors reach) prior → Walks rows.implications prior role → Effective rows user wanted role
effective_by rows user wanted actors reach role prior acts reaches among walks =
    let to = among_joined (roles_to rows.grants reach) (actors_in actors) prior among in
    let own = filter (is_of_actor to.0) rows.grants in
    let at = among_joined (roles_at own) (sites to.0 reach) prior to.2 in
    let one = among_mapped (λ (row : GrantRow). row.role) (filter (stands_at at.0) own) prior at.2 in
    let here = among_filter (stands_at at.0) own one.0 one.1 in
    let kept = among_filter (is_of_actor to.0) rows.grants one.0 here.0 in
    let site : site_of one.0 ≡ at.0 = site_exact (site_of one.0) at.0 (eq_is (site_cmp (site_of one.0) at.0) here.1) in
    let actor : one.0.actor ≡ to.0 = (same_actor-Decides one.0.actor to.0).0 kept.1 in
    record {
      grant = one.0;
      stands = kept.0;
      acts = (acts one.0.actor).0 (subst (Among (actors_in actors)) (sym actor) to.1);
      reaches = (reaches one.0).0 (subst (Among (sites one.0.actor reach)) (sym site) (subst (λ (who : Actor). Among (sites who reach) at.0) (sym actor) at.1));
      walks = subst (λ (id : Id). Walks rows.implications id role) (sym one.2) walks;
    }

granted_by : (rows : Rows) (user : Id) (wanted : Target) (actors : ActorsOf) (reach : Reach) (role : Id) → AreActors rows user actors → IsReach rows wanted reach →
    (effective : Effective rows user wanted role) → Among (roles_granted rows.grants actors reach) effective.grant.role
granted_by rows user wanted actors reach role acts reaches effective =
    let grant = effective.grant in
    let own = filter (is_of_actor grant.actor) rows.grants in
    let is_own = filter_among (is_of_actor grant.actor) rows.grants grant effective.stands ((same_actor-Decides grant.actor grant.actor).1 refl) in
    let is_here = filter_among (stands_at (site_of grant)) own grant is_own (ap is_eq (tied_itself site_total (site_of grant))) in
    joined_among (roles_to rows.grants reach) (actors_in actors) grant.actor grant.role ((acts grant.actor).1 effective.acts)
    (joined_among (roles_at own) (sites grant.actor reach) (site_of grant) grant.role ((reaches grant).1 effective.reaches)
    (map_among (λ (row : GrantRow). row.role) (filter (stands_at (site_of grant)) own) grant is_here))

-- the roles that those grants imply are the effective ones
implied_effective : (rows : Rows) (user : Id) (wanted : Target) (actors : ActorsOf) (reach : Reach) (role : Id) → AreActors rows user actors → IsReach rows wanted reach →
    IsImplied rows.implications (roles_granted rows.grants actors reach) role ↔ Effective rows user wanted role
implied_effective rows user wanted actors reach role acts reaches =
    (forth, λ effective. (effective.grant.role, granted_by rows user wanted actors reach role acts reaches effective, effective.walks))
  where
    forth : IsImplied rows.implications (roles_granted rows.grants actors reach) role → Effective rows user wanted role
    forth (prior, among, walks) = effective_by rows user wanted actors reach role prior acts reaches among walks

pub closes : (E : Type 0) (result : Result (List Id) E) (rows : Rows) (user : Id) (wanted : Target) (actors : ActorsOf) (reach : Reach) (granted : List Id) →
    AreActors rows user actors → IsReach rows wanted reach → granted ≡ roles_granted rows.grants actors reach →
    IfOk result (λ ids. (role : Id) → Among ids role ↔ IsImplied rows.implications granted role) →
    IfOk result (λ ids. (role : Id) → Among ids role ↔ Effective rows user wanted role)
closes E (Err e) rows user wanted actors reach granted acts reaches is closed = tt
closes E (Ok ids) rows user wanted actors reach granted acts reaches is closed = λ role.
    let exact = subst (λ (roles : List Id). Among ids role ↔ IsImplied rows.implications roles role) is (closed role) in
    let same = implied_effective rows user wanted actors reach role acts reaches in
    (λ among. same.0 (exact.0 among), λ effective. exact.1 (same.1 effective))

-- what is added for the next of a list
pub added_next : {X Y Z : Type 0} (f : Y → List Z) (h : X → Y) (xs : List X) (i : ℕ) (x : X) (so_far more whole : List Z) → i < length xs → x ≡ get_or xs i x →
    more ≡ so_far ++ f (h x) → so_far ++ flat_map f (map h (drop i xs)) ≡ whole → more ++ flat_map f (map h (drop (i + 1) xs)) ≡ whole
added_next f h xs i x so_far more whole below is added whole_is =
    let rest = flat_map f (map h (drop (i + 1) xs)) in
    ap (λ (l : List _). l ++ rest) added ∙ append_assoc so_far (f (h x)) rest ∙ ap (λ (l : List _). so_far ++ flat_map f (map h l)) (sym (drop_at xs i x below is)) ∙ whole_is

none_at : (found : List GrantSite) → roles_over [] found ≡ []
none_at [] = refl
none_at (site ∷ found) = none_at found

-- an actor without grants adds no roles
pub none_added : (roles : List Id) (own : List GrantRow) (found : List GrantSite) → own ≡ [] → roles ≡ roles ++ roles_over own found
none_added roles own found none =
    sym (append-nil roles) ∙ ap (λ (l : List Id). roles ++ l) (sym (none_at found) ∙ ap (λ (rows : List GrantRow). roles_over rows found) (sym none))
