use Rattle.std.proofs.Common.{sym, subst}
use Rattle.std.specs.Ordering.{is_eq}
use Rattle.ks_base.specs.Tables.{IsAscending}
use Rattle.ks_base.proofs.TableLemmas.{ascending_filter}
use Rattle.ks_base.proofs.near.run_of.Goals as goal

pub returns-clause-ascending : goal.returns-clause-ascending
returns-clause-ascending g c =
    subst (IsAscending g.R.Ordered.cmp (λ row. row)) (sym c.bounds_of-low.ensures.run) (ascending_filter g.R.Ordered.cmp (λ row. row) (λ row. is_eq (g.W.Near.side c.args.near.now row)) c.args.rows.now c.requires)
