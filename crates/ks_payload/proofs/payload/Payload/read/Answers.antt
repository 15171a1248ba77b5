use Rattle.ks_payload.proofs.PayloadLemmas.{reading_is, no_payload}
use Rattle.ks_payload.proofs.payload.Payload.read.Goals as goal

pub returns-clause-some : goal.returns-clause-some
returns-clause-some c = reading_is c.args.bytes.now c.read_payload.result c.read_payload.ensures

pub returns-clause-none : goal.returns-clause-none
returns-clause-none c = λ none. no_payload c.args.bytes.now cc
