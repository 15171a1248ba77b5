-- The keys so far are taken in.
use Rattle.std.proofs.Common.{◌≡◌, take}
use Rattle.ks_service.proofs.opens.taken_in.Given as goal

abbrev pub invariant-loop-held : goal.invariant-loop-held
invariant-loop-held l = l.taken.items ≡ take l.held-index l.keys
