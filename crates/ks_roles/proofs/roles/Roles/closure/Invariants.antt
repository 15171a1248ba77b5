use Rattle.std.proofs.Common.{◌+◌, length}
use Rattle.ks_roles.proofs.ClosureLemmas.{IsUnderway, unused}
use Rattle.ks_roles.proofs.roles.Roles.closure.Given as goal

abbrev pub invariant-walk : goal.invariant-walk
invariant-walk l = IsUnderway l.self.implications l.roles l.reached l.next.items

abbrev pub decreases-walk : goal.decreases-walk
decreases-walk l = length l.next.items + unused l.reached l.self.implications
