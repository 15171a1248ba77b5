use Rattle.std.proofs.Common.{◌∙◌}
use Rattle.ks_checks.proofs.Unrefused.{member_stands}
use Rattle.ks_checks.proofs.standing.is_joined.Goals as goal

pub returns : goal.returns
returns c = c.is_ok.ensures.value ∙ member_stands c.args.people.now c.args.member.now c.may_leave.result c.requires c.may_leave.ensures
