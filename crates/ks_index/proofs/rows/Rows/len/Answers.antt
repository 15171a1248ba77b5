use Rattle.std.proofs.Common.{length, sym, ap, ◌∙◌}
use Rattle.ks_index.proofs.PickLemmas.{picked_length}
use Rattle.ks_index.proofs.rows.Rows.len.Goals as goal

pub returns : goal.returns
returns g c = c.len.ensures ∙ sym (picked_length c.self.inside.rows.now c.self.inside.places c.self.invariant) ∙ ap length c.self.view_is
