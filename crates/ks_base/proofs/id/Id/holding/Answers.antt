use Rattle.ks_base.proofs.IdLemmas.{holding_fields}
use Rattle.ks_base.proofs.id.Id.holding.Goals as goal

pub invariant_of-result : goal.invariant_of-result
invariant_of-result c = holding_fields c.args.text.now c.copy_from_slice.new.self c.requires c.copy_from_slice.ensures.after
