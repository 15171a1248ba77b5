use Rattle.std.proofs.Common.{subst, arith}
use Rattle.std.specs.List.Sorted.{IsPermutation}
use Rattle.ks_base.proofs.LinkLemmas.{linked_parts, linked_sorted, parts_moved}
use Rattle.ks_links.proofs.links.sides_of.Goals as goal

pub loop-side-preserved : goal.loop-side-preserved
loop-side-preserved g c =
    parts_moved g.B.Ordered.cmp g.met.B.Ordered.exact c.loop-side.sides c.add.new.self c.loop-side.left.items c.pop.new.self.items c.sort_unstable_by.new.self.items c.in-Some.side
    c.in-Some.ensures.items c.in_ok-_new.ensures.ok.0 c.loop-side.invariant

pub returns : goal.returns
returns g c =
    let seen = g.B.Side.seen in
    let rows = c.args.rows.now in
    let sorted = c.sort_unstable_by.new.self.items in
    linked_parts seen rows c.loop-side.sides c.loop-side.left.items sorted (omega (arith, c.in_default.ensures.cases.0)) c.loop-side.invariant
    (linked_sorted seen g.B.Side.row_of g.met.B.Side.returns rows sorted (subst (λ l. IsPermutation l sorted) c.in_ok-left.ensures c.sort_unstable_by.ensures.permutation))
