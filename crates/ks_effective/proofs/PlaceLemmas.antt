-- Where a grant that acts for a user is not inherited, it gives a role at its target alone.
use Rattle.std.proofs.Common.{◌≡◌, inl, inr, ℕ, ◌+◌, ◌<◌, Bool, true, false, ◌||◌, List, [], ◌∷◌, length, map, drop, get_or, Result, Ok, Err, IfOk, refl, sym, ap, subst, ◌∙◌}
use Rattle.std.specs.List.{filter, list_any}
use Rattle.std.specs.Prelude.{◌↔◌}
use Rattle.ks_base.specs.declared.grants.Actor.{Actor}
use Rattle.ks_base.specs.declared.grants.Actor.TheVariants as actor
use Rattle.ks_base.specs.declared.grants.GrantRow.{GrantRow}
use Rattle.ks_base.specs.declared.grants.Target.{Target}
use Rattle.ks_base.specs.Grants.{is_of_actor}
use Rattle.ks_base.specs.OrderLaws.{target_exact}
use Rattle.ks_base.specs.Orders.{target_cmp}
use Rattle.ks_base.specs.People.{PeopleState}
use Rattle.ks_base.specs.Roles.{Acts, Reaches, Effective}
use Rattle.ks_base.specs.Rows.{Id, Rows}
use Rattle.ks_base.specs.Tables.{id_cmp, Among, IsAscending, put_row}
use Rattle.ks_base.specs.Trees.{TreeState}
use Rattle.ks_base.proofs.AmongLemmas.{any_to}
use Rattle.ks_base.proofs.GrantLemmas.{same_actor-Decides}
use Rattle.ks_base.proofs.LinkLemmas.{kept_beside}
use Rattle.ks_base.proofs.ListLemmas.{drop_at}
use Rattle.ks_base.proofs.RowLemmas.{filter_among, put_among}
use Rattle.ks_effective.specs.Actors.{ActorsOf, actors_in}
use Rattle.ks_effective.specs.State.{rows_of}
use Rattle.ks_effective.specs.Targets.{targets, AreReached, is_standing, has_inherited, with_targets, with_actor, with_actors}
use Rattle.ks_effective.proofs.TargetLemmas.{is_in, in-Decides, standing_of_all}

-- a set keeps what is put into it

kept_with : (rows : List GrantRow) (places : List Target) (at : Target) → Among places at → Among (with_targets rows places) at
unfolding with_targets
kept_with [] places at among = among
kept_with (row ∷ rows) places at among = kept_with rows (put_row target_cmp (λ next. next) row.target places) at (kept_beside target_cmp target_exact row.target places at among)

put_with : (rows : List GrantRow) (places : List Target) (row : GrantRow) → Among rows row → Among (with_targets rows places) row.target
unfolding with_targets
put_with [] places row among = absurd among
put_with (next ∷ rows) places row (inl is) =
    kept_with rows (put_row target_cmp (λ at. at) next.target places) row.target
    (subst (Among (put_row target_cmp (λ at. at) next.target places)) (ap (λ (r : GrantRow). r.target) is) (put_among target_cmp (λ at. at) next.target places))
put_with (next ∷ rows) places row (inr among) = put_with rows (put_row target_cmp (λ at. at) next.target places) row among

kept_of : (grants : List GrantRow) (actors : List Actor) (places : List Target) (at : Target) → Among places at → Among (with_actors grants actors places) at
unfolding with_actors
kept_of grants [] places at among = among
kept_of grants (actor ∷ actors) places at among = kept_of grants actors (with_actor grants actor places) at (kept_with (filter (is_of_actor actor) grants) places at among)

put_of : (grants : List GrantRow) (actors : List Actor) (places : List Target) (row : GrantRow) → Among grants row → Among actors row.actor → Among (with_actors grants actors places) row.target
unfolding with_actors
put_of grants [] places row stands among = absurd among
put_of grants (actor ∷ actors) places row stands (inl is) =
    kept_of grants actors (with_actor grants actor places) row.target
    (put_with (filter (is_of_actor actor) grants) places row (filter_among (is_of_actor actor) grants row stands ((same_actor-Decides row.actor actor).1 (sym is))))
put_of grants (actor ∷ actors) places row stands (inr among) = put_of grants actors (with_actor grants actor places) row stands among

-- where none is inherited, no grant to one of the actors is

direct_by : (grants : List GrantRow) (actors : List Actor) (row : GrantRow) (b : Bool) → row.inherited ≡ b → list_any (has_inherited grants) actors ≡ false →
    Among grants row → Among actors row.actor → row.inherited ≡ false
direct_by grants actors row false is none stands among = is
direct_by grants actors row true is none stands among =
    let own = filter_among (is_of_actor row.actor) grants row stands ((same_actor-Decides row.actor row.actor).1 refl) in
    let one : has_inherited grants row.actor ≡ true = any_to (λ (next : GrantRow). next.inherited) (filter (is_of_actor row.actor) grants) row own is in
    let any : list_any (has_inherited grants) actors ≡ true = any_to (has_inherited grants) actors row.actor among one in
    cc

-- so at no other target a role is effective
not_given : (rows : Rows) (user : Id) (at : Target) (role : Id) (actors : List Actor) → ((actor : Actor) → Acts rows.members user actor → Among actors actor) →
    list_any (has_inherited rows.grants) actors ≡ false → IsAscending target_cmp (λ next. next) (with_actors rows.grants actors []) →
    is_in (with_actors rows.grants actors []) at ≡ false → Effective rows user at role → ⊥
not_given rows user at role actors act none over out effective =
    let grant = effective.grant in
    let acting = act grant.actor effective.acts in
    let direct = direct_by rows.grants actors grant grant.inherited refl none effective.stands acting in
    let reached : grant.target ≡ at = subst (λ (b : Bool). Reaches rows.projects b grant.target at) direct effective.reaches in
    let there = subst (Among (with_actors rows.grants actors [])) reached (put_of rows.grants actors [] grant effective.stands acting) in
    let is : is_in (with_actors rows.grants actors []) at ≡ true = (in-Decides (with_actors rows.grants actors []) at over).1 there in
    cc

keep_all : {X : Type 0} (xs : List X) → filter (λ x. true) xs ≡ xs
keep_all [] = refl
keep_all (x ∷ xs) = ap (λ (more : List _). x ∷ more) (keep_all xs)

-- all of them leave none out
pub all_reached : (tree : TreeState) (people : PeopleState) (grants : List GrantRow) (user : Id) (found : List Target) → found ≡ targets tree →
    AreReached tree people grants user found
all_reached tree people grants user found is = record {
  test = λ at. true;
  found_is = is ∙ sym (keep_all (targets tree));
  others = λ at out roles role effective. cc;
}

pub some_reached : (tree : TreeState) (people : PeopleState) (grants : List GrantRow) (user : Id) (actors : List Actor) (places found : List Target) →
    ((actor : Actor) → Acts people.members user actor → Among actors actor) → list_any (has_inherited grants) actors ≡ false →
    IsAscending id_cmp (λ row. row.id) tree.domains → IsAscending id_cmp (λ row. row.id) tree.projects →
    places ≡ with_actors grants actors [] → IsAscending target_cmp (λ next. next) places → found ≡ filter (is_standing tree) places →
    AreReached tree people grants user found
some_reached tree people grants user actors places found act none up also is over found_is =
    let all = with_actors grants actors [] in
    let in_order : IsAscending target_cmp (λ next. next) all = subst (IsAscending target_cmp (λ (next : Target). next)) is over in
    record {
      test = is_in all;
      found_is = found_is ∙ ap (filter (is_standing tree)) is ∙ standing_of_all tree all up also in_order;
      others = λ at out roles role effective. not_given (rows_of tree people roles grants) user at role actors act none in_order out effective;
    }

pub all_found : {V E : Type 0} (result : Result V E) (items : V → List Target) (tree : TreeState) (people : PeopleState) (grants : List GrantRow) (user : Id) →
    IfOk result (λ all. items all ≡ targets tree) → IfOk result (λ found. AreReached tree people grants user (items found))
all_found (Ok all) items tree people grants user is = all_reached tree people grants user (items all) is
all_found (Err e) items tree people grants user is = tt

pub some_found : {V E : Type 0} (result : Result V E) (items : V → List Target) (tree : TreeState) (people : PeopleState) (grants : List GrantRow) (user : Id)
    (actors : ActorsOf) (places : List Target) → ((actor : Actor) → Among (actors_in actors) actor ↔ Acts people.members user actor) →
    list_any (has_inherited grants) (actors_in actors) ≡ false →
    IsAscending id_cmp (λ row. row.id) tree.domains → IsAscending id_cmp (λ row. row.id) tree.projects →
    places ≡ with_actors grants (actors_in actors) [] → IsAscending target_cmp (λ next. next) places →
    IfOk result (λ found. items found ≡ filter (is_standing tree) places) → IfOk result (λ found. AreReached tree people grants user (items found))
some_found (Ok found) items tree people grants user actors places act none up also is over found_is =
    some_reached tree people grants user (actors_in actors) places (items found) (λ actor acts. (act actor).1 acts) none up also is over found_is
some_found (Err e) items tree people grants user actors places act none up also is over found_is = tt

-- the steps of the loops

pub any_mapped : {X Y : Type 0} (test : Y → Bool) (f : X → Y) (xs : List X) → list_any test (map f xs) ≡ list_any (λ x. test (f x)) xs
any_mapped test f [] = refl
any_mapped test f (x ∷ xs) = ap (λ rest. test (f x) || rest) (any_mapped test f xs)

-- one of a first and of others, where the first is none
pub other_any : (first any rest : Bool) → first ≡ false → any ≡ rest → any ≡ (first || rest)
other_any true any rest none is = cc
other_any false any rest none is = is

pub none_put : (rows : List GrantRow) (places : List Target) → rows ≡ [] → places ≡ with_targets rows places
unfolding with_targets
none_put rows places none = ap (λ (own : List GrantRow). with_targets own places) (sym none)

pub next_put : (rows : List GrantRow) (i : ℕ) (row : GrantRow) (so_far more whole : List Target) → i < length rows → row ≡ get_or rows i row →
    more ≡ put_row target_cmp (λ next. next) row.target so_far → with_targets (drop i rows) so_far ≡ whole → with_targets (drop (i + 1) rows) more ≡ whole
unfolding with_targets
next_put rows i row so_far more whole below is put whole_is =
    ap (with_targets (drop (i + 1) rows)) put ∙ ap (λ (left : List GrantRow). with_targets left so_far) (sym (drop_at rows i row below is)) ∙ whole_is

pub next_actor : (grants : List GrantRow) (groups : List Id) (i : ℕ) (group : Id) (so_far more whole : List Target) → i < length groups → group ≡ get_or groups i group →
    more ≡ with_actor grants (actor.Group group) so_far → with_actors grants (map actor.Group (drop i groups)) so_far ≡ whole →
    with_actors grants (map actor.Group (drop (i + 1) groups)) more ≡ whole
unfolding with_actors
next_actor grants groups i group so_far more whole below is put whole_is =
    ap (with_actors grants (map actor.Group (drop (i + 1) groups))) put
    ∙ ap (λ (left : List Id). with_actors grants (map actor.Group left) so_far) (sym (drop_at groups i group below is)) ∙ whole_is
