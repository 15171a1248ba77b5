use Rattle.std.proofs.Common.{◌<◌, ◌≤◌, ◌++◌, length, ap, ◌∙◌, arith}
use Rattle.ks_trust.proofs.DescentLemmas.{begins, ends, goes_on}
use Rattle.ks_trust.proofs.trusts.Trusts.few_hanging_on.Goals as goal

pub loop-at-init : goal.loop-at-init
loop-at-init c = begins c.args.self.now c.args.ids.now c.in_ok-found.found.items c.rows-rows.ensures.ascending c.in_ok-found.ensures

pub loop-at-preserved : goal.loop-at-preserved
loop-at-preserved c =
    let found = c.loop-at.found.items in
    let lt : c.loop-at.at < length found = omega (arith, c.if-at-len.false) in
    goes_on c.args.self.now c.args.ids.now found c.in_ok-children.children.items c.extend_from_slice.new.self.items c.loop-at.at c.index.result.now c.rows-rows.ensures.ascending
    c.rows-rows.ensures.chained lt c.index.ensures c.in_ok-children.ensures (c.in_ok-extend_from_slice.ensures.items ∙ ap (λ l. found ++ l) c.as_slice.ensures.value)
    c.loop-at.invariant

pub returns-then-at-len : goal.returns-then-at-len
returns-then-at-len c =
    let past : length c.loop-at.found.items ≤ c.loop-at.at = omega (arith, c.if-at-len.true) in
    ends c.args.self.now c.args.ids.now c.loop-at.found.items c.in_ok-in_order.field-0.items c.loop-at.at c.rows-rows.ensures.ascending c.rows-rows.ensures.chained past
    c.loop-at.invariant c.in_ok-in_order.ensures.ascending c.in_ok-in_order.ensures.same
