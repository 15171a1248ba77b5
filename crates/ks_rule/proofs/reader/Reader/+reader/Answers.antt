use Rattle.std.proofs.Common.{◌∙◌, ap, ◌∷◌, ◌-◌, arith}
use Rattle.std.proofs.lemmas.Result.{err_from_is_err_and}
use Rattle.ks_rule.specs.Seen.{seen}
use Rattle.ks_rule.specs.Trees.{tree_of}
use Rattle.ks_rule.specs.Grammar.{IsNotRule, IsAndRule, IsOrRule}
use Rattle.ks_rule.specs.Reading.{Anything, NoAnd, NoOperator, Below, Closed}
use Rattle.ks_rule.proofs.ReadingLemmas.{passes, and_begun, and_step, and_stops, or_begun, or_step, or_stops, or_lacks_first, group_takes, group_lacks, group_unclosed, reads_check, reads_negation, reads_group, lacks_nothing, lacks_end}
use Rattle.ks_rule.proofs.reader.Reader.+reader.Goals as goal

pub and_rule-parts-init : goal.and_rule-parts-init
and_rule-parts-init t c = and_begun c.args.depth c.args.self.now c.not_rule.new.self (tree_of c.in_ok-rule.rule) c.in_ok-rule.ensures

pub and_rule-returns-in_err-right : goal.and_rule-returns-in_err-right
and_rule-returns-in_err-right t c =
    let p = err_from_is_err_and c.from_residual-in_err-right.result c.from_residual-in_err-right.ensures.1 in
    rw (p.1, p.2)
    (passes (IsNotRule c.args.depth) (IsAndRule c.args.depth) Anything NoAnd c.take_end.new.self c.args.self.now c.not_rule-in-parts.new.self c.not_rule-in-parts.new.self c.in_err-right.field-0.0
    (and_stops c.args.depth c.args.self.now c.parts.self c.take_end.new.self (tree_of c.parts.rule) c.parts.invariant c.parts-test.ensures) c.in_err-right.ensures)

pub and_rule-parts-preserved : goal.and_rule-parts-preserved
and_rule-parts-preserved t c =
    and_step c.args.depth c.args.self.now c.parts.self c.take_end.new.self c.not_rule-in-parts.new.self (tree_of c.parts.rule) (tree_of c.in_ok-new.field-0.value) (tree_of c.in_ok-right.right)
    (tree_of c.in_ok-new-2.field-0.value) c.parts.invariant c.parts-test.ensures c.in_ok-right.ensures (ap tree_of c.in_ok-new.ensures.ok) (ap tree_of c.in_ok-new-2.ensures.ok)

pub or_rule-returns-in_err-rule : goal.or_rule-returns-in_err-rule
or_rule-returns-in_err-rule t c =
    let p = err_from_is_err_and c.from_residual.result c.from_residual.ensures.1 in
    rw (p.1, p.2)
    (passes (IsAndRule c.args.depth) (IsOrRule c.args.depth) NoAnd NoOperator c.args.self.now c.args.self.now c.and_rule.new.self c.and_rule.new.self c.in_err-rule.field-0.0
    (or_lacks_first c.args.depth c.args.self.now) c.in_err-rule.ensures)

pub or_rule-parts-init : goal.or_rule-parts-init
or_rule-parts-init t c = or_begun c.args.depth c.args.self.now c.and_rule.new.self (tree_of c.in_ok-rule.rule) c.in_ok-rule.ensures

pub or_rule-returns-in_err-right : goal.or_rule-returns-in_err-right
or_rule-returns-in_err-right t c =
    let p = err_from_is_err_and c.from_residual-in_err-right.result c.from_residual-in_err-right.ensures.1 in
    rw (p.1, p.2)
    (passes (IsAndRule c.args.depth) (IsOrRule c.args.depth) NoAnd NoOperator c.take_end.new.self c.args.self.now c.and_rule-in-parts.new.self c.and_rule-in-parts.new.self c.in_err-right.field-0.0
    (or_stops c.args.depth c.args.self.now c.parts.self c.take_end.new.self (tree_of c.parts.rule) c.parts.invariant c.parts-test.ensures) c.in_err-right.ensures)

pub or_rule-parts-preserved : goal.or_rule-parts-preserved
or_rule-parts-preserved t c =
    or_step c.args.depth c.args.self.now c.parts.self c.take_end.new.self c.and_rule-in-parts.new.self (tree_of c.parts.rule) (tree_of c.in_ok-new.field-0.value) (tree_of c.in_ok-right.right)
    (tree_of c.in_ok-new-2.field-0.value) c.parts.invariant c.parts-test.ensures c.in_ok-right.ensures (ap tree_of c.in_ok-new.ensures.ok) (ap tree_of c.in_ok-new-2.ensures.ok)

pub group-returns-in_err-rule : goal.group-returns-in_err-rule
group-returns-in_err-rule t c =
    let p = err_from_is_err_and c.from_residual.result c.from_residual.ensures.1 in
    rw (p.1, p.2)
    (passes (IsOrRule (c.args.depth - 1)) (Below (λ d. Closed (IsOrRule d)) c.args.depth) NoOperator Anything c.args.self.now c.args.self.now c.or_rule.new.self c.or_rule.new.self c.in_err-rule.field-0.0
    (group_lacks c.args.depth c.args.self.now) c.in_err-rule.ensures)

pub group-returns-then-not-take_end : goal.group-returns-then-not-take_end
group-returns-then-not-take_end t c =
    let lacks = c.if-not-take_end.ensures in group_unclosed c.args.depth c.args.self.now c.or_rule.new.self (tree_of c.in_ok-rule.rule) c.in_ok-rule.ensures lacks.1

pub group-returns : goal.group-returns
group-returns t c =
    group_takes c.args.depth c.args.self.now c.or_rule.new.self c.take_end.new.self (tree_of c.in_ok-rule.rule) (omega arith) c.in_ok-rule.ensures c.if-not-take_end.ensures

pub not_rule-returns-in_default : goal.not_rule-returns-in_default
not_rule-returns-in_default t c = lacks_nothing c.args.depth c.args.self.now c.in_default.ensures.next

pub not_rule-returns-in-Check : goal.not_rule-returns-in-Check
not_rule-returns-in-Check t c =
    reads_check c.args.depth c.args.self.now c.take.new.self c.in-Check.text.now c.read_check.result
    (c.in-Some.ensures.next ∙ ap (λ token. seen token ∷ c.take.new.self) c.in-Check.is) c.read_check.ensures

pub not_rule-returns-in-Not : goal.not_rule-returns-in-Not
not_rule-returns-in-Not t c =
    reads_negation c.args.depth c.args.self.now c.take.new.self c.negation.new.self c.negation.result
    (c.in-Some.ensures.next ∙ ap (λ token. seen token ∷ c.take.new.self) c.in-Not.is) c.negation.ensures

pub not_rule-returns-in-Open : goal.not_rule-returns-in-Open
not_rule-returns-in-Open t c =
    reads_group c.args.depth c.args.self.now c.take.new.self c.group.new.self c.group.result
    (c.in-Some.ensures.next ∙ ap (λ token. seen token ∷ c.take.new.self) c.in-Open.is) c.group.ensures

pub not_rule-returns-in-End : goal.not_rule-returns-in-End
not_rule-returns-in-End t c =
    lacks_end c.args.depth c.args.self.now c.take.new.self c.in-End.field-0
    (c.in-Some.ensures.next ∙ ap (λ token. seen token ∷ c.take.new.self) c.in-End.is)
