use Rattle.ks_rule.specs.Trees.{tree_of}
use Rattle.ks_rule.proofs.WrittenLemmas.{written_answer}
use Rattle.ks_rule.proofs.rule.Rule.write.Goals as goal

pub returns-clause-read : goal.returns-clause-read
returns-clause-read c = written_answer c.write.result (tree_of c.args.self.now) c.write.ensures.text c.write.ensures.utf8
