use Rattle.std.proofs.Common.{is_some, ap, ◌∙◌}
use Rattle.ks_service.specs.Work.{is_open}
use Rattle.ks_service.proofs.FactLemmas.{found_answer, found_opened, opened_now}
use Rattle.ks_service.proofs.work.open_by.Goals as goal

pub returns-in-Some-clause-known : goal.returns-in-Some-clause-known
returns-in-Some-clause-known g c =
    found_opened c.args.facts.now (g.K.Opens.stands_for c.args.key.now) c.args.text.now c.opened.result (ap is_some c.in-Some.is) (rw c.held.ensures at c.opened.ensures)

pub returns-in-Some-clause-opens : goal.returns-in-Some-clause-opens
returns-in-Some-clause-opens g c =
    c.is_open.ensures ∙ ap is_open (found_answer c.args.facts.now (g.K.Opens.stands_for c.args.key.now) c.args.text.now c.opened.result c.in-Some.answer c.in-Some.is (rw c.held.ensures at c.opened.ensures))

pub returns-clause-known : goal.returns-clause-known
returns-clause-known g c =
    opened_now c.args.facts.now c.add_opened.new.self (g.K.Opens.stands_for c.args.key.now) c.args.text.now c.in_ok-fact.fact c.in_ok-fact.ensures c.in_ok-add_opened.ensures.ok
