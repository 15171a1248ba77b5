use Rattle.std.proofs.Common.{◌≡◌, ℕ, ◌+◌, ◌-◌, ◌≤◌, List, length, map, reverse, IsSomeAnd, vec_capacity, vec_len}
use Rattle.std.specs.List.{AllByRecursion}
use Rattle.ks_server.specs.Workers.{Place}
use Rattle.ks_server.specs.steps.Seats.{HaveWorked, Meeting, seat_state}
use Rattle.ks_turn.specs.Passes.{Passed, splitting}
use Rattle.ks_server.proofs.seats.meet_all.Given as goal

abbrev pub invariant-seats : goal.invariant-seats
invariant-seats g l = record {
  meeting : (connections : ℕ) (old : Passed) (olds : List (Place g.row.P-Link.Denot))
      → HaveWorked g.P.Link.Stream.stream connections (splitting old) olds (reverse (map (λ s. seat_state s.pass (g.P.Desk.desk s.desk) (g.D.KeyDir.dir s.dir) s.failed s.keeper) l.fn.seats.items))
      → l.fn.pass ≡ record old { weight = old.weight - length olds } → length olds ≤ old.weight
      → Meeting g.P.Link.Stream.stream connections old l.pass olds (map (λ d. record { desk = g.P.Desk.desk d.0; dir = g.D.KeyDir.dir d.1 }) l.desks.items)
      (reverse (map (λ s. seat_state s.pass (g.P.Desk.desk s.desk) (g.D.KeyDir.dir s.dir) s.failed s.keeper) l.seats.items)) l.failed l.keeper;
  own : l.pass.turn ≡ l.turn;
  passes : AllByRecursion (λ s. IsSomeAnd s.pass (λ p. p.turn ≡ l.turn)) l.seats.items;
  room : vec_len l.seats + vec_len l.desks ≤ vec_capacity l.desks;
}

abbrev pub decreases-seats : goal.decreases-seats
decreases-seats g l = vec_len l.seats
