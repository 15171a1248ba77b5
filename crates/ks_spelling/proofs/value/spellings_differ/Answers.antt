use Rattle.ks_spelling.proofs.CodeLemmas.{one_value}
use Rattle.ks_spelling.proofs.value.spellings_differ.Goals as goal

pub returns : goal.returns
returns g c = one_value g.T.Spelled.code
