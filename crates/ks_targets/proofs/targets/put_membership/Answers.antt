use Rattle.std.proofs.Common.{codes}
use Rattle.ks_machine.specs.Targets.{field}
use Rattle.ks_targets.proofs.FieldLemmas.{two_put}
use Rattle.ks_targets.proofs.targets.put_membership.Goals as goal

pub returns : goal.returns
returns c =
    two_put c.put_id-2.result c.args.fields.now c.put_id.new.self c.put_id-2.new.self
    (field (codes "target.group.id") c.args.row.now.group) (field (codes "target.user.id") c.args.row.now.user) c.in_ok-put_id.ensures c.put_id-2.ensures
