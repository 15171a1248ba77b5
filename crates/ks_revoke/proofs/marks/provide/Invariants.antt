use Rattle.std.proofs.Common.{◌≤◌, ◌-◌, length}
use Rattle.ks_revoke.proofs.marks.provide.Given as goal

abbrev pub invariant-loop-alloc : goal.invariant-loop-alloc
invariant-loop-alloc l = length l.initial.spares.items ≤ length l.spares.items

abbrev pub decreases-loop-alloc : goal.decreases-loop-alloc
decreases-loop-alloc l = l.count - length l.spares.items
