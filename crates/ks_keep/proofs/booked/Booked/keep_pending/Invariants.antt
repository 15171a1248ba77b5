use Rattle.std.proofs.Common.{◌≡◌, [], length}
use Rattle.ks_keep.specs.Books.{seen_by}
use Rattle.ks_keep.specs.Keeping.{GoesOn, IsSpelled}
use Rattle.ks_keep.proofs.booked.Booked.keep_pending.Given as goal

abbrev pub invariant-loop : goal.invariant-loop
invariant-loop g l = record {
  on : GoesOn (seen_by g.K.Keeper.kept g.K.Keeper.whole g.K.Keeper.faults) l.fn.self l.self;
  spelled : IsSpelled l.self;
  idle : l.initial.self.pending ≡ [] → l.self ≡ l.initial.self;
}

abbrev pub decreases-loop : goal.decreases-loop
decreases-loop g l = length l.self.pending
