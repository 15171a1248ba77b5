use Rattle.ks_base.specs.Refusals.{fault_in}
use Rattle.ks_machine.specs.declared.body_out.BodyOut.TheVariants as body
use Rattle.ks_machine.specs.Attempts.{Go}
use Rattle.ks_machine.specs.Outcomes.{changes}
use Rattle.ks_machine.specs.Tables.{unless_tree}
use Rattle.ks_checks.proofs.Halts.{halted}
use Rattle.ks_checks.proofs.puts.dropped.Goals as goal

pub returns-in-Err : goal.returns-in-Err
returns-in-Err c = halted c.in-Err.halt (unless_tree (fault_in c.args.checked)) (λ _. Go (changes c.args.change body.Nothing)) c.in-Err.ensures
