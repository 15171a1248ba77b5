use Rattle.std.proofs.Common.{Result, refl, subst}
use Rattle.ks_commands.specs.declared.fault.Fault.{Fault}
use Rattle.ks_commands.specs.steps.Progress.{ReadsAll}
use Rattle.ks_commands.proofs.checker.Checker.check.Goals as goal

pub returns-then-failed_to_write-clause-told : goal.returns-then-failed_to_write-clause-told
returns-then-failed_to_write-clause-told g c text before left_is written_is =
    let P : Result (Unit {0}) Fault → Type 0 =
    λ ended. ReadsAll text (g.S.Stream.stream c.read_all-ended.new.input).left ended c.read_all-ended.new.self (g.K.Stream.stream c.read_all-ended.new.output).written before in
    subst P (c.if-failed_to_write.ensures.0 refl) (c.read_all-ended.ensures.told text before left_is written_is)
