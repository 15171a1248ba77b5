use Rattle.ks_payload.proofs.PayloadLemmas.{reads_payload, read_payload, no_payload, none_from}
use Rattle.ks_payload.proofs.laws.readings.Goals as goal

pub returns-clause-some : goal.returns-clause-some
returns-clause-some c = λ bytes p. (read_payload p bytes, reads_payload p bytes)

pub returns-clause-none : goal.returns-clause-none
returns-clause-none c = λ bytes. (no_payload bytes, none_from bytes)
