use Rattle.std.proofs.Common.{◌-◌, length, take, sym, ap, ◌∙◌}
use Rattle.ks_base.specs.IdFields.{filled_bytes, head_number}
use Rattle.ks_base.proofs.HeadLemmas.{eight, head_padded}
use Rattle.ks_base.proofs.id.Id.head.Goals as goal

pub returns-clause-number : goal.returns-clause-number
returns-clause-number c =
    let bytes = c.self.inside.bytes in
    let text = take c.self.inside.len bytes in
    c.from_be_bytes.ensures ∙ eight bytes c.self.invariant.2
    ∙ ap (head_number 8) (sym (filled_bytes c.self.inside.len bytes c.self.invariant.0 c.self.invariant.1 c.self.invariant.2))
    ∙ head_padded 8 text (64 - length text)
    ∙ ap (head_number 8) c.self.view_is
