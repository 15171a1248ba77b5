use Rattle.std.proofs.Common.{◌≡◌, ◌+◌, ◌≤◌}
use Rattle.ks_turn_cases.specs.Makes.{Made}
use Rattle.ks_turn_cases.proofs.passes.make_all.Given as goal

abbrev pub invariant-loop : goal.invariant-loop
invariant-loop g l =
    Made l.fn.pass l.pass l.fn.maker.made l.maker.made
    × (l.fn.maker.made ≤ l.maker.made)
    × (l.maker.made ≤ l.fn.maker.made + l.counter)
    × (l.maker.fell_behind ≡ l.fn.maker.fell_behind)
