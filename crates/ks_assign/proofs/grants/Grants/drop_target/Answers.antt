use Rattle.std.proofs.Common.{not, ap, ◌∙◌}
use Rattle.std.specs.List.{filter}
use Rattle.std.specs.Ordering.{is_eq}
use Rattle.ks_base.specs.Orders.{target_cmp}
use Rattle.ks_assign.proofs.TargetLemmas.{not_at_target}
use Rattle.ks_assign.proofs.grants.Grants.drop_target.Goals as goal

pub returns : goal.returns
returns c =
    c.drop_at.ensures ∙ ap (filter (λ row. not (is_eq (target_cmp row.target c.args.target.now)))) c.self.view_is
    ∙ not_at_target c.args.target.now c.args.self.now
