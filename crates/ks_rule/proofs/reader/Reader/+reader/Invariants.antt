use Rattle.std.proofs.Common.{◌+◌, ◌*◌, length}
use Rattle.ks_rule.specs.Grammar.{IsAndRule, IsOrRule}
use Rattle.ks_rule.specs.Reading.{Anything, NoAnd, Takes}
use Rattle.ks_rule.specs.Trees.{tree_of}
use Rattle.ks_rule.proofs.reader.Reader.+reader.Given as goal

abbrev pub decreases-or_rule : goal.decreases-or_rule
decreases-or_rule l = 5 * l.depth + 4

abbrev pub decreases-and_rule : goal.decreases-and_rule
decreases-and_rule l = 5 * l.depth + 3

abbrev pub decreases-not_rule : goal.decreases-not_rule
decreases-not_rule l = 5 * l.depth + 2

abbrev pub decreases-negation : goal.decreases-negation
decreases-negation l = 5 * l.depth + 1

abbrev pub decreases-group : goal.decreases-group
decreases-group l = 5 * l.depth + 1

abbrev pub invariant-or_rule-parts : goal.invariant-or_rule-parts
invariant-or_rule-parts l = Takes (IsOrRule l.depth) NoAnd l.fn.self (tree_of l.rule) l.self

abbrev pub decreases-or_rule-parts : goal.decreases-or_rule-parts
decreases-or_rule-parts l = length l.self

abbrev pub invariant-and_rule-parts : goal.invariant-and_rule-parts
invariant-and_rule-parts l = Takes (IsAndRule l.depth) Anything l.fn.self (tree_of l.rule) l.self

abbrev pub decreases-and_rule-parts : goal.decreases-and_rule-parts
decreases-and_rule-parts l = length l.self
