use Rattle.ks_drill.proofs.RuleLemmas.{one_line}
use Rattle.ks_drill.proofs.laws.drill_says_one_line.Goals as goal

pub returns : goal.returns
returns c start count a b x y = one_line c.texts_have_one_tree.ensures start count a b x y
