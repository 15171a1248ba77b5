use Rattle.std.proofs.Common.{ap, ◌∙◌}
use Rattle.std.specs.List.{filter}
use Rattle.std.specs.Ordering.{is_eq}
use Rattle.ks_base.specs.Orders.{target_cmp}
use Rattle.ks_assign.proofs.TargetLemmas.{at_target}
use Rattle.ks_assign.proofs.grants.Grants.at_target.Goals as goal

pub returns : goal.returns
returns c =
    c.at.ensures ∙ ap (filter (λ row. is_eq (target_cmp row.target c.args.target.now))) c.self.view_is
    ∙ at_target c.args.target.now c.args.self.now
