use Rattle.std.proofs.Common.{◌≡◌, ◌+◌, length}
use Rattle.ks_turn_cases.proofs.passes.share.Given as goal

abbrev pub invariant-loop : goal.invariant-loop
invariant-loop g l =
    (l.rest.turn ≡ l.fn.pass.turn)
    × (l.part.turn ≡ l.fn.pass.turn)
    × (l.part.weight ≡ l.counter)
    × (l.rest.weight + l.counter ≡ l.fn.pass.weight)
    × (length l.rest.own ≡ length l.fn.pass.own)
    × (length l.part.own ≡ 0)
