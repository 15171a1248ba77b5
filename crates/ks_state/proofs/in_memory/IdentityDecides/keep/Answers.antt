use Rattle.ks_state.proofs.KeptLemmas.{keeps_all}
use Rattle.ks_state.proofs.in_memory.IdentityDecides.keep.Goals as goal

pub returns-clause-same : goal.returns-clause-same
returns-clause-same c = λ f stands. keeps_all c.args.self.now f stands.stands
