use Rattle.std.proofs.Common.{arith}
use Rattle.ks_policy.proofs.MarkLemmas.{grows_set}
use Rattle.ks_policy.proofs.cycles.mark.Goals as goal

pub returns-clause-grows : goal.returns-clause-grows
returns-clause-grows c = grows_set c.args.marks.now c.args.at (omega arith)
