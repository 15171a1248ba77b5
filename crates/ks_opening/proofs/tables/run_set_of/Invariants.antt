use Rattle.std.proofs.Common.{◌≡◌, vec_len}
use Rattle.ks_base.specs.Tables.{put_row}
use Rattle.ks_machine.specs.Opened.{put_all}
use Rattle.ks_opening.proofs.PutLemmas.{put_onto}
use Rattle.ks_opening.proofs.tables.run_set_of.Given as goal

abbrev pub invariant-loop-row : goal.invariant-loop-row
invariant-loop-row g l = put_onto (put_row g.R.Ordered.cmp (λ row. row)) l.set l.rows.items ≡ put_all (put_row g.R.Ordered.cmp (λ row. row)) l.initial.rows.items

abbrev pub decreases-loop-row : goal.decreases-loop-row
decreases-loop-row g l = vec_len l.rows
