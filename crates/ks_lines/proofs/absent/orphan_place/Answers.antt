use Rattle.std.proofs.Common.{sym, ◌∙◌}
use Rattle.ks_lines.proofs.OrphanLemmas.{orphan_here, orphan_later, orphan_nowhere}
use Rattle.ks_lines.proofs.absent.orphan_place.Goals as goal

pub returns-then-is_orphan : goal.returns-then-is_orphan
returns-then-is_orphan g c =
    orphan_here (g.R.Below.orphan c.args.id.now) c.args.rows.now c.rows.at c.index-rows-at.result _ c.rows-test.true c.index-rows-at.is (rw c.split_at.ensures.front at c.split_at.ensures.front_len)
    (rw c.split_at.ensures.front at (sym c.is_orphan.ensures ∙ c.if-is_orphan.true)) c.rows.invariant

pub rows-preserved : goal.rows-preserved
rows-preserved g c =
    orphan_later (g.R.Below.orphan c.args.id.now) c.args.rows.now c.rows.at c.index-rows-at.result _ c.rows-test.true c.index-rows-at.is
    (rw c.split_at.ensures.front at (sym c.is_orphan.ensures ∙ c.if-is_orphan.false)) c.rows.invariant

pub returns : goal.returns
returns g c = orphan_nowhere (g.R.Below.orphan c.args.id.now) c.args.rows.now c.rows.at _ c.rows-test.false c.rows.invariant
