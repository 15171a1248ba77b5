use Rattle.ks_written.proofs.RecordLemmas.{records_are_read as read}
use Rattle.ks_written.proofs.laws.records_are_read.Goals as goal

pub returns : goal.returns
returns c = read
