use Rattle.std.proofs.Common.{◌≡◌, ℕ, get_or, subst, ◌∙◌}
use Rattle.ks_base.specs.Places.{IsPlace}
use Rattle.ks_index.specs.Indexes.{full_cmp, full_name}
use Rattle.ks_index.proofs.index.slot_of.Goals as goal

pub returns-clause-place : goal.returns-clause-place
returns-clause-place g c =
    let row = c.args.row.now in
    let key_at = λ (p : ℕ). full_name g.R.Named.within g.R.Named.naming g.R.Row.key (get_or c.args.rows.now p row) in
    let name = c.as_str.ensures ∙ c.name.ensures in
    let id = c.as_str-2.ensures ∙ c.id.ensures in
    let whole : ((c.as_str.result.now, c.home.result.now), c.as_str-2.result.now) ≡ full_name g.R.Named.within g.R.Named.naming g.R.Row.key row = λ i. ((name i, c.home.ensures i), id i) in
    subst (λ k. IsPlace full_cmp key_at k c.args.places.now.items c.slot.result) whole c.slot.ensures.place
