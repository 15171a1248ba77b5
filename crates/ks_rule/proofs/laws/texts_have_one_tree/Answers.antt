use Rattle.ks_rule.proofs.GrammarLemmas.{one_tree}
use Rattle.ks_rule.proofs.laws.texts_have_one_tree.Goals as goal

pub returns : goal.returns
returns c = one_tree
