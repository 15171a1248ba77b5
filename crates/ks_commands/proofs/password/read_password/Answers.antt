use Rattle.ks_commands.specs.declared.fault.Fault.TheVariants as fault
use Rattle.ks_commands.specs.steps.PasswordReads.{LacksPassword}
use Rattle.ks_commands.proofs.PasswordLemmas.{given_by, of_fault, stops_by, stops_unread}
use Rattle.ks_commands.proofs.CountLemmas.{reads_for}
use Rattle.ks_commands.proofs.password.read_password.Goals as goal

pub returns-in-Ok-clause-given : goal.returns-in-Ok-clause-given
returns-in-Ok-clause-given g c =
    given_by c.password_from.result (g.S.Stream.stream c.args.input.now) c.in-Ok.bytes.items (rw c.as_slice.ensures.value at c.password_from.ensures.given) c.in-Ok.ensures.alike

pub returns-in-Ok-clause-stops : goal.returns-in-Ok-clause-stops
returns-in-Ok-clause-stops g c =
    stops_by c.password_from.result (g.S.Stream.stream c.args.input.now) c.in-Ok.bytes.items (rw c.as_slice.ensures.value at c.password_from.ensures.lacks) c.in-Ok.ensures.alike

pub returns-in-Err-clause-stops : goal.returns-in-Err-clause-stops
returns-in-Err-clause-stops g c = stops_unread c.in-Err.fault (g.S.Stream.stream c.args.input.now) c.in-Err.ensures.causes

pub returns-in-Ok-clause-reads : goal.returns-in-Ok-clause-reads
returns-in-Ok-clause-reads g c =
    reads_for _ _ _ _ (λ same. absurd (of_fault (LacksPassword c.as_slice.result.now) c.password_from.result fault.Read c.password_from.ensures.lacks same)) c.in-Ok.ensures.reads
