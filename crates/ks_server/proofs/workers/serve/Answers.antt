use Rattle.std.proofs.Common.{◌≡◌, length, map, sym, ◌∙◌, arith}
use Rattle.std.proofs.lemmas.List.{length-map}
use Rattle.ks_base.proofs.ListLemmas.{map_twice}
use Rattle.ks_server.proofs.SeatLemmas.{have_worked, left_is}
use Rattle.ks_server.specs.Workers.{Place}
use Rattle.ks_server.specs.steps.Seats.{seat_state, seated}
use Rattle.ks_server.proofs.workers.serve.Goals as goal

pub returns-clause-served : goal.returns-clause-served
returns-clause-served g c told =
    let place : g.row.P.Denot × g.row.D.Denot → Place g.row.P-Link.Denot = λ d. record { desk = g.P.Desk.desk d.0; dir = g.D.KeyDir.dir d.1 } in
    let size : c.args.desks.len ≡ length c.args.desks.items = omega arith in
    let many : length (map place c.args.desks.items) ≡ length c.args.desks.items = length-map c.args.desks.items place in
    let heavy = c.requires.heavy in
    c.meet_all.ensures.served c.args.connections c.args.pass (map place c.args.desks.items)
    (have_worked (λ s. seat_state s.pass (g.P.Desk.desk s.desk) (g.D.KeyDir.dir s.dir) s.failed s.keeper) g.P.Link.Stream.stream c.args.connections c.args.pass (map place c.args.desks.items)
    c.seat_all-pass.new.seats.items c.work_all.new.seats c.seat_all-pass.new.seats.len (omega arith)
    (c.seat_all-pass.ensures.seated ∙ sym (map_twice (λ o. seated c.args.pass o) place c.args.desks.items)) c.as_mut_slice-lent.result.now c.as_mut_slice-lent.ensures.value c.work_all.ensures.worked)
    (left_is place c.args.desks.items c.args.pass c.seat_all-pass.result c.args.desks.len size c.seat_all-pass.ensures.rest) (omega (arith, many, heavy))
