use Rattle.ks_base.specs.Refusals.{fault_in}
use Rattle.ks_machine.specs.declared.body_out.BodyOut.TheVariants as body
use Rattle.ks_machine.specs.declared.body_out.Row.TheVariants as row
use Rattle.ks_machine.specs.declared.change.Change.TheVariants as change
use Rattle.ks_machine.specs.Attempts.{Go}
use Rattle.ks_machine.specs.Outcomes.{changes}
use Rattle.ks_machine.specs.Tables.{unless_tree}
use Rattle.ks_checks.proofs.Halts.{halted}
use Rattle.ks_checks.proofs.puts.put_domain.Goals as goal

pub returns-in-Err : goal.returns-in-Err
returns-in-Err c = halted c.in-Err.halt (unless_tree (fault_in c.args.checked)) (λ _. Go (changes (change.PutDomain c.args.new) (body.One (row.Domain c.args.new) c.args.made))) c.in-Err.ensures
