use Rattle.std.proofs.Common.{◌≡◌, ◌-◌, ◌<◌, ℕ, zero, suc, true, false, length, get_or, sym, ap, ◌∙◌, arith, rules}
use Rattle.ks_index.specs.Indexes.{picked}
use Rattle.std.proofs.lemmas.List.Edits.{length-remove}
use Rattle.ks_index.proofs.IndexLemmas.{get_any}
use Rattle.ks_index.proofs.KeepLemmas.{all_gone_over, gone_over, goes_over, none_gone_over, stays_over}
use Rattle.ks_index.proofs.PickLemmas.{picked_get, picked_length}
use Rattle.ks_index.proofs.change.keep.Goals as goal

pub loop-at-init : goal.loop-at-init
loop-at-init g c =
    let all = picked c.args.rows.now.items c.args.ids.now.items in
    let count = picked_length c.args.rows.now.items c.args.ids.now.items c.requires.ids.within in
    let len : length c.args.ids.now.items ≡ c.len-at.result = search rules in
    record {
      rows = sym (none_gone_over (g.T.Test.test c.args.test.now) all) ∙ ap (gone_over (g.T.Test.test c.args.test.now) all) (count ∙ len);
      within = omega (arith, len);
      whole = omega (arith, count, len);
      ids = c.requires.ids;
      names = c.requires.names;
    }

pub loop-at-preserved-then-not-test : goal.loop-at-preserved-then-not-test
loop-at-preserved-then-not-test g c =
    let test = g.T.Test.test c.args.test.now in
    let rows = c.loop-at.rows.items in
    let ids = c.loop-at.ids.items in
    let all = picked c.args.rows.now.items c.args.ids.now.items in
    let row = c.index-in-loop-at.result.now in
    let at = c.loop-at.at - 1 in
    let inside : at < length ids = omega (arith, c.loop-at.invariant.within, c.loop-at-test.true) in
    let lt : at < length all = omega (arith, c.loop-at.invariant.whole, c.loop-at-test.true) in
    let next : c.loop-at.at ≡ suc at = omega (arith, c.loop-at-test.true) in
    let is = c.index-in-loop-at.ensures ∙ ap (λ (p : ℕ). get_or rows p row) (c.index.ensures ∙ get_any ids at c.index.result.now 0 inside)
    ∙ sym (picked_get rows ids at row c.loop-at.invariant.ids.within inside) in
    let fails : test c.get.result.now ≡ false = grind (arith, c.if-not-test, c.test.ensures) in
    let left = picked_length c.remove.new.rows.items c.remove.new.ids.items c.remove.ensures.ids.within in
    let before = picked_length rows ids c.loop-at.invariant.ids.within in
    let within : at < length (picked rows ids) = omega (arith, before, inside) in
    let fewer = length-remove (picked rows ids) at within in
    let gone = ap length c.remove.ensures.rows in
    record {
      rows = c.remove.ensures.rows ∙ goes_over test all (picked rows ids) at c.loop-at.at row next c.loop-at.invariant.rows lt is (ap test (sym c.get.ensures) ∙ fails);
      within = omega (arith, left, before, fewer, gone, inside);
      whole = omega (arith, lt);
      ids = c.remove.ensures.ids;
      names = c.remove.ensures.names;
    }

pub loop-at-preserved : goal.loop-at-preserved
loop-at-preserved g c =
    let test = g.T.Test.test c.args.test.now in
    let rows = c.loop-at.rows.items in
    let ids = c.loop-at.ids.items in
    let all = picked c.args.rows.now.items c.args.ids.now.items in
    let row = c.index-in-loop-at.result.now in
    let at = c.loop-at.at - 1 in
    let inside : at < length ids = omega (arith, c.loop-at.invariant.within, c.loop-at-test.true) in
    let lt : at < length all = omega (arith, c.loop-at.invariant.whole, c.loop-at-test.true) in
    let next : c.loop-at.at ≡ suc at = omega (arith, c.loop-at-test.true) in
    let is = c.index-in-loop-at.ensures ∙ ap (λ (p : ℕ). get_or rows p row) (c.index.ensures ∙ get_any ids at c.index.result.now 0 inside)
    ∙ sym (picked_get rows ids at row c.loop-at.invariant.ids.within inside) in
    let pass : test c.get.result.now ≡ true = grind (arith, c.if-not-test, c.test.ensures) in
    record {
      rows = stays_over test all (picked rows ids) at c.loop-at.at row next c.loop-at.invariant.rows lt is (ap test (sym c.get.ensures) ∙ pass);
      within = omega (arith, inside);
      whole = omega (arith, lt);
      ids = c.loop-at.invariant.ids;
      names = c.loop-at.invariant.names;
    }

pub returns-clause-rows : goal.returns-clause-rows
returns-clause-rows g c =
    let done : c.loop-at.at ≡ zero = search rules in
    c.loop-at.invariant.rows ∙ ap (gone_over (g.T.Test.test c.args.test.now) (picked c.args.rows.now.items c.args.ids.now.items)) done
    ∙ all_gone_over (g.T.Test.test c.args.test.now) (picked c.args.rows.now.items c.args.ids.now.items)
