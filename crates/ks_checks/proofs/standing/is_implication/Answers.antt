use Rattle.std.proofs.Common.{◌∙◌}
use Rattle.ks_checks.proofs.Unrefused.{implication_stands}
use Rattle.ks_checks.proofs.standing.is_implication.Goals as goal

pub returns : goal.returns
returns c = c.is_ok.ensures.value ∙ implication_stands c.args.roles.now c.args.inference.now c.may_unimply.result c.requires c.may_unimply.ensures
