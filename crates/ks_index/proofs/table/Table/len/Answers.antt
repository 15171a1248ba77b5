use Rattle.std.proofs.Common.{◌≡◌, length, sym, ap, ◌∙◌, rules}
use Rattle.ks_index.proofs.PickLemmas.{picked_length}
use Rattle.ks_index.proofs.table.Table.len.Goals as goal

pub returns : goal.returns
returns g c =
    let len : c.len.result ≡ length c.self.inside.ids.items = search rules in
    len ∙ sym (picked_length c.self.inside.rows.items c.self.inside.ids.items c.self.invariant.0.within) ∙ ap length c.self.view_is
