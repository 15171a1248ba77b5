use Rattle.std.proofs.Common.{◌≡◌, ◌+◌, ◌-◌, ◌<◌, ◌≤◌, ◌++◌, map, reverse, IsSomeAnd, vec_capacity, vec_len}
use Rattle.std.specs.List.{AllByRecursion}
use Rattle.ks_server.specs.steps.Seats.{seat_state, seated}
use Rattle.ks_server.proofs.seats.seat_all.Given as goal

abbrev pub invariant-desks : goal.invariant-desks
invariant-desks g l = record {
  seated : map (λ d. seated l.fn.pass (record { desk = g.P.Desk.desk d.0; dir = g.D.KeyDir.dir d.1 })) l.fn.desks.items
      ≡ map (λ d. seated l.fn.pass (record { desk = g.P.Desk.desk d.0; dir = g.D.KeyDir.dir d.1 })) l.desks.items
      ++ reverse (map (λ s. seat_state s.pass (g.P.Desk.desk s.desk) (g.D.KeyDir.dir s.dir) s.failed s.keeper) l.seats.items);
  ready : AllByRecursion (λ s. IsSomeAnd s.pass (λ p. (p.turn ≡ l.turn) × (p.seen ≡ l.fn.pass.seen))) l.seats.items;
  pass_is : l.pass ≡ record (l.fn.pass) { weight = l.fn.pass.weight - vec_len l.seats };
  count : vec_len l.seats + vec_len l.desks ≡ vec_len l.fn.desks;
  heavy : vec_len l.fn.desks < l.fn.pass.weight;
  room : vec_len l.fn.desks ≤ vec_capacity l.seats;
  capacity : vec_capacity l.desks ≡ vec_capacity l.fn.desks;
}

abbrev pub decreases-desks : goal.decreases-desks
decreases-desks g l = vec_len l.desks
