use Rattle.std.specs.Ordering.{is_le}
use Rattle.ks_chunks.proofs.SearchLemmas.{is_before, is_behind, none_equal, parted_rises}
use Rattle.ks_chunks.proofs.sequence.Sequence.end_of.Goals as goal

pub unreachable-requires : goal.unreachable-requires
unreachable-requires g c =
    none_equal (λ item. is_le (g.S.Seek.side c.args.sought.now item)) c.args.self.now.items c.in-Ok.field-0 c.in-Ok.ensures.bound c.in-Ok.ensures.position

pub returns-clause-parted : goal.returns-clause-parted
returns-clause-parted g c = λ parted.
    let found = c.in-Err.ensures.position (parted_rises (λ item. is_le (g.S.Seek.side c.args.sought.now item)) c.args.self.now.items parted) in
    (λ k d le lt. is_before _ (found.0 k d le lt), λ k d le lt. is_behind _ (found.1 k d le lt))
