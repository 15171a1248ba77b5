use Rattle.ks_time.proofs.TextLemmas.{before_last}
use Rattle.ks_time.proofs.reading.read_time.Goals as goal

pub returns-clause-none : goal.returns-clause-none
returns-clause-none c = λ none moment is.
    let before = before_last c.args.text.now c.in-Some-eq90-default.front.now _ moment c.in-Some-eq90-default.ensures.cases.0 is in
    c.civil_moment.ensures.none none moment (rw c.in-Some.ensures.cases.0 before.civil)
