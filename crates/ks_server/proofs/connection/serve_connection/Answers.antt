use Rattle.std.proofs.Common.{◌∙◌, ◌+◌, ◌<◌, refl, sym, ap, subst, arith, rules}
use Rattle.ks_server.proofs.ConnectionLemmas.{after_asking, asked, ended, filled, forgotten, moved, not_rested, refused, rested, started, stopped, unread_yet, unreadable, unrested}
use Rattle.ks_server.specs.steps.Progress.{Progress}
use Rattle.ks_server.proofs.connection.serve_connection.Goals as goal

pub returns-in_default-clause-serves : goal.returns-in_default-clause-serves
returns-in_default-clause-serves g c =
    forgotten (started c.args.pass _ _ c.args.connection _) (unread_yet _) c.give_up.result c.give_up.ensures.writes c.give_up.ensures.others c.give_up.ensures.told

pub requests-init : goal.requests-init
requests-init g c = record {
  progress = subst (λ r. Progress c.args.pass c.args.pass (g.P.Desk.desk c.args.desk.now) (g.P.Desk.desk c.args.desk.now) (g.D.KeyDir.dir c.args.dir.now) (g.D.KeyDir.dir c.args.dir.now) c.args.connection 0
      (g.L.Stream.stream c.args.link.now) (g.L.Stream.stream c.args.link.now) r.held) (sym c.in-Ok.ensures) (started c.args.pass _ _ c.args.connection _);
  links = search rules;
  own = c.requires.own;
  url = c.requires.url;
  going_on = ap (λ r. r.over) c.in-Ok.ensures;
  few = omega arith;
}

pub returns-in-Err-clause-serves : goal.returns-in-Err-clause-serves
returns-in-Err-clause-serves g c =
    let i = c.requests.invariant in
    stopped (after_asking i.progress c.rests.ensures.same) c.in-Request.ensures.reads c.answer-next.ensures.answers c.next_request.new.self.held (λ left is. c.in-Request.ensures.told left is i.going_on) c.in-Err.why c.in-Err.is

pub returns-then-close-clause-serves : goal.returns-then-close-clause-serves
returns-then-close-clause-serves g c =
    let i = c.requests.invariant in
    asked (after_asking i.progress c.rests.ensures.same) c.in-Request.ensures.reads c.answer-next.ensures.answers c.in_default-answered.is c.next_request.new.self.held (λ left is. c.in-Request.ensures.told left is i.going_on) c.in-Request.ensures.needed c.if-close.true

pub returns-then-count-eq-CONNECTION_REQUESTS-clause-serves : goal.returns-then-count-eq-CONNECTION_REQUESTS-clause-serves
returns-then-count-eq-CONNECTION_REQUESTS-clause-serves g c =
    let i = c.requests.invariant in
    filled (after_asking i.progress c.rests.ensures.same) c.in-Request.ensures.reads c.answer-next.ensures.answers c.in_default-answered.is c.next_request.new.self.held (λ left is. c.in-Request.ensures.told left is i.going_on) c.in-Request.ensures.needed c.if-close.false c.if-count-eq-CONNECTION_REQUESTS.true

pub requests-preserved : goal.requests-preserved
requests-preserved g c =
    let i = c.requests.invariant in
    let opening = c.answer-next.ensures.answers.works.moves.later.opening in
    let few : c.requests.count + 1 < 1000000 = (let more = i.few in let not_full = c.if-count-eq-CONNECTION_REQUESTS.false in omega (arith, more, not_full)) in
    record {
      progress = moved (after_asking i.progress c.rests.ensures.same) c.in-Request.ensures.reads c.answer-next.ensures.answers c.in_default-answered.is c.next_request.new.self.held (λ left is. c.in-Request.ensures.told left is i.going_on) c.in-Request.ensures.needed c.if-close.false few;
      links = search rules;
      own = search rules;
      url = i.url ∙ ap (λ o. o.settings.url) opening;
      going_on = c.in-Request.ensures.ending i.going_on;
      few = few;
    }

pub returns-in-End-clause-serves : goal.returns-in-End-clause-serves
returns-in-End-clause-serves g c =
    let i = c.requests.invariant in
    ended (after_asking i.progress c.rests.ensures.same) c.in-End.ensures.reads (λ left is. c.in-End.ensures.told left is i.going_on) c.in-End.ensures.needed

pub returns-in-Bad-clause-serves : goal.returns-in-Bad-clause-serves
returns-in-Bad-clause-serves g c =
    let i = c.requests.invariant in
    refused (after_asking i.progress c.rests.ensures.same) c.in-Bad.ensures.reads c.refuse_bytes.result c.in-Bad.cause c.refuse_bytes.ensures.writes c.refuse_bytes.ensures.reads c.refuse_bytes.ensures.told
    (λ left is. c.in-Bad.ensures.told left is i.going_on) c.in-Bad.ensures.needed

pub returns-in-ReadFault-clause-serves : goal.returns-in-ReadFault-clause-serves
returns-in-ReadFault-clause-serves g c =
    let i = c.requests.invariant in
    unreadable (after_asking i.progress c.rests.ensures.same) c.in-ReadFault.ensures.reads (λ left is. c.in-ReadFault.ensures.told left is i.going_on) (i.going_on, refl)

pub returns-in-Memory-clause-serves : goal.returns-in-Memory-clause-serves
returns-in-Memory-clause-serves g c =
    let i = c.requests.invariant in
    forgotten (after_asking i.progress c.rests.ensures.same) c.in-Memory.ensures.reads c.give_up-in-Memory.result c.give_up-in-Memory.ensures.writes c.give_up-in-Memory.ensures.others c.give_up-in-Memory.ensures.told

pub returns-then-rests-clause-serves : goal.returns-then-rests-clause-serves
returns-then-rests-clause-serves g c =
    rested (after_asking c.requests.invariant.progress c.rests.ensures.same) (c.rests.ensures.nothing c.if-rests.true) (c.rests.ensures.some c.if-rests.true)

pub returns-in_default-clause-rests : goal.returns-in_default-clause-rests
returns-in_default-clause-rests g c = λ is. absurd (unrested c.give_up.result c.give_up.ensures.others is)

pub returns-in-Err-clause-rests : goal.returns-in-Err-clause-rests
returns-in-Err-clause-rests g c =
    let a = c.answer-next.ensures.answers in
    λ is. absurd (not_rested c.answer-next.result.0.seen a.exchanges c.answer-next.result.1 c.in-Err.why a.is c.in-Err.is is)

pub returns-in-Memory-clause-rests : goal.returns-in-Memory-clause-rests
returns-in-Memory-clause-rests g c = λ is. absurd (unrested c.give_up-in-Memory.result c.give_up-in-Memory.ensures.others is)
