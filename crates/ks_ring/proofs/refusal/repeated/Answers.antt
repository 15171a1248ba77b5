use Rattle.std.proofs.Common.{sym, ◌∙◌}
use Rattle.ks_ring.proofs.SortLemmas.{repeated_here, repeated_later, repeated_nowhere}
use Rattle.ks_ring.proofs.refusal.repeated.Goals as goal

pub returns-then-has_index : goal.returns-then-has_index
returns-then-has_index c =
    repeated_here c.args.keys.now c.entries.at _ _ c.entries-test.true (rw c.split_at.ensures.front at (sym c.has_index.ensures ∙ c.if-has_index.true)) c.entries.invariant

pub entries-preserved : goal.entries-preserved
entries-preserved c =
    repeated_later c.args.keys.now c.entries.at _ _ c.entries-test.true (rw c.split_at.ensures.front at (sym c.has_index.ensures ∙ c.if-has_index.false)) c.entries.invariant

pub returns : goal.returns
returns c = repeated_nowhere c.args.keys.now c.entries.at _ c.entries-test.false c.entries.invariant
