use Rattle.std.proofs.Common.{◌≡◌, ◌<◌, Some, sym, ◌∙◌, arith, rules}
use Rattle.std.specs.List.{slice_get}
use Rattle.ks_chunks.proofs.SearchLemmas.{first_of}
use Rattle.ks_chunks.proofs.run.RunIterator.next.Goals as goal

pub returns-clause-steps : goal.returns-clause-steps
returns-clause-steps g c =
    let items = c.self.inside.sequence.now.items in
    let is : slice_get items c.self.inside.from ≡ Some c.in_ok-item.item.now = search rules in
    let lt : c.self.inside.from < c.self.inside.to = omega (arith, c.self.invariant.0, c.if-self.false) in
    sym c.self.view_is ∙ first_of items c.self.inside.from c.self.inside.to c.in_ok-item.item.now is lt
