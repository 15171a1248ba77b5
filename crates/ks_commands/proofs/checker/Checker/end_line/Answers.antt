use Rattle.std.proofs.lemmas.Result.{err_from_is_err_and}
use Rattle.ks_commands.proofs.CheckerLemmas.{held_ends}
use Rattle.ks_commands.proofs.checker.Checker.end_line.Goals as goal

pub returns-in_err-hold-clause-ends : goal.returns-in_err-hold-clause-ends
returns-in_err-hold-clause-ends c =
    let p = err_from_is_err_and c.from_residual.result c.from_residual.ensures.1 in
    rw (p.1, p.2) (held_ends c.in_err-hold.field-0.0 c.args.last.now c.args.self.now c.hold.new.self c.in_err-hold.ensures.holds)
