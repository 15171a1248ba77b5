use Rattle.std.proofs.Common.{◌≡◌, ◌∙◌, ap, sym, drop}
use Rattle.ks_ring.proofs.NumberLemmas.{head_first}
use Rattle.ks_ring.proofs.ring.Ring.primary.Goals as goal

pub returns : goal.returns
returns c =
    let is : c.self.inside.held.items ≡ c.args.self.now.held = ap (λ ring. ring.held) c.self.view_is in
    (drop 1 c.self.inside.held.items, sym is ∙ rw c.as_slice.ensures.value (head_first c.self.inside.held.items _ c.self.invariant.some))
