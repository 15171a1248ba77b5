use Rattle.std.proofs.Common.{codes}
use Rattle.std.specs.Option.{option_copied}
use Rattle.ks_machine.specs.Targets.{given}
use Rattle.ks_targets.proofs.FieldLemmas.{two_put}
use Rattle.ks_targets.proofs.targets.put_parties_given.Goals as goal

pub returns : goal.returns
returns c =
    two_put c.put_given-2.result c.args.fields.now c.put_given.new.self c.put_given-2.new.self
    (given (codes "target.trust.trustor_user_id") (option_copied c.args.trustor)) (given (codes "target.trust.trustee_user_id") (option_copied c.args.trustee))
    c.in_ok-put_given.ensures c.put_given-2.ensures
