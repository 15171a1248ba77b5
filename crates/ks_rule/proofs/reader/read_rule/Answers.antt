use Rattle.std.proofs.Common.{subst}
use Rattle.std.proofs.lemmas.Result.{err_from_is_err_and}
use Rattle.ks_rule.specs.Trees.{tree_of}
use Rattle.ks_rule.specs.Tokens.{tokens}
use Rattle.ks_rule.specs.Grammar.{IsOrRule}
use Rattle.ks_rule.specs.Reading.{NoOperator, Takes, Lacks}
use Rattle.ks_rule.proofs.ReadingLemmas.{passes_whole, no_rule, more_than_rule}
use Rattle.ks_rule.proofs.reader.read_rule.Goals as goal

pub returns-in_err-rule : goal.returns-in_err-rule
returns-in_err-rule c =
    let p = err_from_is_err_and c.from_residual.result c.from_residual.ensures.1 in
    rw (p.1, p.2)
    (passes_whole (IsOrRule 64) (IsOrRule 64) NoOperator c.of-reader.result (tokens c.args.text.now) c.or_rule.new.self c.in_err-rule.field-0.0
    (λ lacks. no_rule 64 (tokens c.args.text.now) (subst (Lacks (IsOrRule 64) NoOperator) c.of-reader.ensures lacks)) c.in_err-rule.ensures)

pub returns-then-not-is_at_end : goal.returns-then-not-is_at_end
returns-then-not-is_at_end c =
    more_than_rule 64 (tokens c.args.text.now) c.or_rule.new.self (tree_of c.in_ok-rule.rule)
    (subst (λ whole. Takes (IsOrRule 64) NoOperator whole (tree_of c.in_ok-rule.rule) c.or_rule.new.self) c.of-reader.ensures c.in_ok-rule.ensures)
    (λ end. let not_end = c.if-not-is_at_end.ensures in cc (not_end.1 end))
