use Rattle.std.proofs.Common.{◌≡◌, ◌*◌, ◌≤◌, length, false}
use Rattle.ks_turn_cases.proofs.wholes.eight_threads.Given as goal

abbrev pub invariant-loop-round : goal.invariant-loop-round
invariant-loop-round g l =
    (l.pass.turn ≡ l.turn)
    × (l.pass.weight ≡ 1000000)
    × (length l.pass.own ≡ l.all.made)
    × (l.all.made ≤ 8000 * l.round)
    × (l.all.fell_behind ≡ false)
