use Rattle.std.proofs.Common.{◌≡◌, [], take, drop}
use Rattle.ks_ring.specs.Rings.{first_repeated}
use Rattle.ks_ring.proofs.refusal.repeated.Given as goal

abbrev pub invariant-entries : goal.invariant-entries
invariant-entries l = first_repeated (take l.at l.keys) (drop l.at l.keys) ≡ first_repeated [] l.keys
