use Rattle.std.proofs.Common.{◌≡◌, false, sym, ◌∙◌}
use Rattle.std.specs.List.{list_any}
use Rattle.ks_effective.specs.Actors.{actors_in}
use Rattle.ks_effective.specs.Targets.{has_inherited}
use Rattle.ks_effective.proofs.PlaceLemmas.{all_found, some_found}
use Rattle.ks_effective.proofs.targets.targets_of.Goals as goal

pub returns-then-inherit : goal.returns-then-inherit
returns-then-inherit c =
    all_found c.all_targets.result (λ found. found.items) c.args.tree.now c.args.people.now c.args.grants.now c.args.user.now c.all_targets.ensures

pub returns : goal.returns
returns c =
    let none : list_any (has_inherited c.args.grants.now) (actors_in c.in_ok-actors.actors) ≡ false = sym c.inherit.ensures ∙ c.if-inherit.false in
    some_found c.standing.result (λ found. found.items) c.args.tree.now c.args.people.now c.args.grants.now c.args.user.now c.in_ok-actors.actors c.rows.result.now
    c.in_ok-actors.ensures none c.rows_ascend.ensures.domains c.rows_ascend.ensures.projects (c.rows.ensures.rows ∙ c.in_ok-places.ensures)
    (rw c.rows.ensures.rows c.rows.ensures.ascending) c.standing.ensures
