use Rattle.ks_spelling.proofs.CodeLemmas.{text_found, text_missing}
use Rattle.ks_spelling.proofs.values.TextSpelled.read_from.Goals as goal

pub returns-in-Some : goal.returns-in-Some
returns-in-Some c =
    let said = rw c.in-Some.is at c.in_ok-text.ensures.some in
    text_found c.args.from.now c.in_ok-bytes.bytes.now c.counted.new.from c.in-Some.text c.in_ok-bytes.ensures.ok said.0 said.1

pub returns-in-None : goal.returns-in-None
returns-in-None c =
    let said = rw c.in-None.is at c.in_ok-text.ensures.none in
    λ same. text_missing c.args.from.now c.in_ok-bytes.bytes.now c.counted.new.from c.in_ok-bytes.ensures.ok said
