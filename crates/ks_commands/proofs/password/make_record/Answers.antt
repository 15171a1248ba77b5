use Rattle.std.proofs.Common.{refl, arith}
use Rattle.ks_commands.specs.declared.fault.Fault.TheVariants as fault
use Rattle.ks_commands.specs.steps.PasswordReads.{IsRecordFault, StopsPassword}
use Rattle.ks_commands.proofs.PasswordLemmas.{drew_nothing_once, of_fault, record_is, unread_ends, unread_is}
use Rattle.ks_commands.proofs.CountLemmas.{reads_for}
use Rattle.ks_commands.proofs.password.make_record.Goals as goal

pub returns-in-Ok-clause-told : goal.returns-in-Ok-clause-told
returns-in-Ok-clause-told g c = λ text before left written. c.write_record.ensures.told text before (c.in-Ok.ensures.given text left) written

pub returns-in-Err-clause-told : goal.returns-in-Err-clause-told
returns-in-Err-clause-told g c = λ text before left written. unread_ends c.in-Err.fault c.args.rounds (g.S.Stream.stream c.args.input.now) text before _ _ c.in-Err.ensures.stops left written

pub returns-in-Ok-clause-causes : goal.returns-in-Ok-clause-causes
returns-in-Ok-clause-causes g c = record_is c.write_record.result c.write_record.ensures.causes

pub returns-in-Err-clause-causes : goal.returns-in-Err-clause-causes
returns-in-Err-clause-causes g c = unread_is c.in-Err.fault (g.S.Stream.stream c.args.input.now) c.in-Err.ensures.stops

pub returns-in-Ok-clause-reads : goal.returns-in-Ok-clause-reads
returns-in-Ok-clause-reads g c = reads_for _ _ _ _ (λ same. absurd (of_fault IsRecordFault c.write_record.result fault.Read c.write_record.ensures.causes same)) c.in-Ok.ensures.reads

pub returns-in-Err-clause-draws : goal.returns-in-Err-clause-draws
returns-in-Err-clause-draws g c = record {
  kept = omega arith;
  rose = λ same. absurd (of_fault (StopsPassword (g.S.Stream.stream c.args.input.now)) _ fault.Desk c.in-Err.ensures.stops same);
}

pub returns-in-Err-clause-drew : goal.returns-in-Err-clause-drew
returns-in-Err-clause-drew g c = drew_nothing_once (g.P.Desk.desk c.args.desk.now)

pub returns-in-Err-clause-writes : goal.returns-in-Err-clause-writes
returns-in-Err-clause-writes g c = record {
  writes = record {
    kept = omega arith;
    rose = λ same. absurd (of_fault (StopsPassword (g.S.Stream.stream c.args.input.now)) _ fault.Write c.in-Err.ensures.stops same);
  };
  left = refl;
  reads = refl;
  names = refl;
}
