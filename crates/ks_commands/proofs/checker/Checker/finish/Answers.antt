use Rattle.std.proofs.Common.{◌-◌, ◌<◌, [], length, arith}
use Rattle.std.proofs.lemmas.List.{nil_from_length}
use Rattle.ks_commands.proofs.CheckerLemmas.{bad_line_of, finish_line, finish_early, finish_whole, not_empty, is_empty, some_lines}
use Rattle.ks_commands.proofs.checker.Checker.finish.Goals as goal

pub returns-then-not-is_empty-clause-finishes : goal.returns-then-not-is_empty-clause-finishes
returns-then-not-is_empty-clause-finishes c whole before written h =
    let some = not_empty _ _ c.if-not-is_empty.true c.is_empty.ensures in
    let long : 0 < length c.args.self.now.line.items = omega (arith, some) in
    finish_line c.end_line.result whole c.args.self.now c.end_line.new.self written before h c.end_line.ensures.inside long c.end_line.ensures.ends c.end_line.ensures.forward

pub returns-then-self-eq0-clause-finishes : goal.returns-then-self-eq0-clause-finishes
returns-then-self-eq0-clause-finishes c whole before written h =
    let none = is_empty _ _ c.if-not-is_empty.false c.is_empty.ensures in
    finish_early whole c.args.self.now written before h (nil_from_length c.args.self.now.line.items (omega (arith, none))) c.if-self-eq0.true

pub returns-clause-finishes : goal.returns-clause-finishes
returns-clause-finishes c whole before written h =
    let none = is_empty _ _ c.if-not-is_empty.false c.is_empty.ensures in
    finish_whole whole c.args.self.now written before h (nil_from_length c.args.self.now.line.items (omega (arith, none))) (c.args.self.now.place.lines - 1) (some_lines c.args.self.now.place.lines c.if-self-eq0.false)

pub returns-then-not-is_empty-clause-bad : goal.returns-then-not-is_empty-clause-bad
returns-then-not-is_empty-clause-bad c n is =
    bad_line_of c.end_line.result c.args.self.now.place.lines [] c.args.self.now c.end_line.new.self (omega arith) c.end_line.ensures.ends n is
