use Rattle.ks_base.specs.Rows.{same}
use Rattle.ks_checks.proofs.ListedLemmas.{filter_both}
use Rattle.ks_listings.proofs.by_name.listed_on.Goals as goal

pub returns-in_ok-ids-in-Some : goal.returns-in_ok-ids-in-Some
returns-in_ok-ids-in-Some g c =
    rw (← c.in-Some.ensures, ← filter_both (λ row. same (g.R.Named.naming row) c.in-Some.name.now) (g.R.Listed.agrees c.args.fields.now) (g.S.Shelf.rows c.args.shelf.now)) c.listed_at.ensures

pub returns-in-None : goal.returns-in-None
returns-in-None g c = rw (← c.in-None.ensures, ← c.all.ensures) c.listed_among.ensures
