use Rattle.ks_commands.specs.declared.fault.Fault.TheVariants as fault
use Rattle.ks_commands.specs.steps.KeyCalls.{IsSayingFault}
use Rattle.ks_commands.proofs.PasswordLemmas.{drew_no_salt, drew_salt, of_fault, said_ends, said_is}
use Rattle.ks_commands.proofs.password.write_record.Goals as goal

pub returns-in-Ok-clause-told : goal.returns-in-Ok-clause-told
returns-in-Ok-clause-told g c = λ text before given written.
    said_ends c.say_record.result c.args.rounds text before _ _ c.in-Ok.row _ _ _ given c.in-Ok.ensures.1 c.in-Ok.ensures.2 c.in-Ok.ensures.3 (c.say_record.ensures.told before written)

pub returns-in-Err-clause-told : goal.returns-in-Err-clause-told
returns-in-Err-clause-told g c = λ text before given written. ((_, given), c.in-Err.ensures.1, written)

pub returns-in-Ok-clause-causes : goal.returns-in-Ok-clause-causes
returns-in-Ok-clause-causes g c = said_is c.say_record.result c.say_record.ensures.causes

pub returns-in-Ok-clause-draws : goal.returns-in-Ok-clause-draws
returns-in-Ok-clause-draws g c = record {
  kept = c.in-Ok.ensures.3.count;
  rose = λ same. absurd (of_fault IsSayingFault c.say_record.result fault.Desk c.say_record.ensures.causes same);
}

pub returns-in-Err-clause-draws : goal.returns-in-Err-clause-draws
returns-in-Err-clause-draws g c = record { kept = c.in-Err.ensures.1.count; rose = λ same. c.in-Err.ensures.2 }

pub returns-in-Ok-clause-drew : goal.returns-in-Ok-clause-drew
returns-in-Ok-clause-drew g c = drew_salt _ _ c.in-Ok.ensures.0 c.in-Ok.ensures.1 c.in-Ok.ensures.3

pub returns-in-Err-clause-drew : goal.returns-in-Err-clause-drew
returns-in-Err-clause-drew g c = drew_no_salt _ _ c.in-Err.ensures.1
