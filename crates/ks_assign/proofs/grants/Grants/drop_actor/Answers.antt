use Rattle.std.proofs.Common.{not, ap, ◌∙◌}
use Rattle.std.specs.List.{filter}
use Rattle.std.specs.Ordering.{is_eq}
use Rattle.ks_base.specs.Orders.{actor_cmp}
use Rattle.ks_base.proofs.GrantLemmas.{not_of_actor}
use Rattle.ks_assign.proofs.grants.Grants.drop_actor.Goals as goal

pub returns : goal.returns
returns c =
    c.drop_of.ensures ∙ ap (filter (λ row. not (is_eq (actor_cmp row.actor c.args.actor.now)))) c.self.view_is
    ∙ not_of_actor c.args.actor.now c.args.self.now
