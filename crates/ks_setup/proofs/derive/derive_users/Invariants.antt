use Rattle.std.specs.Vec.Iter.{into_iter_items}
use Rattle.ks_setup.proofs.DeriveLemmas.{Deriving}
use Rattle.ks_setup.proofs.derive.derive_users.Given as goal

abbrev pub invariant-loop-user : goal.invariant-loop-user
invariant-loop-user l = Deriving l.rounds l.fn.users (into_iter_items l.user-iterator) l.rows.items l.salts l.left.rest.now
