use Rattle.ks_machine.proofs.RestrictedLemmas.{restricted_held_back}
use Rattle.ks_machine.proofs.laws.restricted_tokens_are_held_back.Goals as goal

pub returns : goal.returns
returns c = restricted_held_back
