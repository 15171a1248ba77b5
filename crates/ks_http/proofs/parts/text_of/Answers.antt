use Rattle.ks_http.proofs.SaysLemmas.{text_ok, text_bad}
use Rattle.ks_http.proofs.parts.text_of.Goals as goal

pub returns-in-Some : goal.returns-in-Some
returns-in-Some c = let some = rw c.in-Some.is at c.in_ok-text.ensures.some in text_ok c.args.bytes.now c.in-Some.text some.0 some.1

pub returns-in-None : goal.returns-in-None
returns-in-None c = let none = rw c.in-None.is at c.in_ok-text.ensures.none in text_bad c.args.bytes.now none
