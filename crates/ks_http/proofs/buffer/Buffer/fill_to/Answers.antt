use Rattle.std.proofs.Common.{◌<◌, length, refl, ap, arith, rules}
use Rattle.std.proofs.lemmas.Result.{err_from_is_err_and}
use Rattle.ks_http.proofs.BufferLemmas.{fill_stops, all_in_hand, short_whole, took}
use Rattle.ks_http.specs.steps.Buffers.{IsShorter}
use Rattle.ks_http.proofs.buffer.Buffer.fill_to.Goals as goal

pub returns-in_err-count-clause-told : goal.returns-in_err-count-clause-told
returns-in_err-count-clause-told g c left left_is =
    let p = err_from_is_err_and c.from_residual.result c.from_residual.ensures.1 in
    let s = c.fills.invariant.told left left_is in
    let same = ap (λ b. length b) c.self.view_is in
    let few : length c.fills.self < c.args.size = omega arith in
    rw (p.1, p.2) (fill_stops _ c.fills.self c.fill.new.self _ (g.S.Stream.stream c.fill.new.source).left c.in_err-count.field-0.0 c.args.size s few (c.in_err-count.ensures.told s.rest s.left_is))

pub returns-then-count-eq0-clause-told : goal.returns-then-count-eq0-clause-told
returns-then-count-eq0-clause-told g c left left_is =
    let s = c.fills.invariant.told left left_is in
    let all = all_in_hand _ c.fills.self c.fill.new.self _ _ c.in_ok-count.count s (c.in_ok-count.ensures.told s.rest s.left_is) c.if-count-eq0.true in
    let same = ap (λ b. length b) c.self.view_is in
    let few : length c.fills.self < c.args.size = omega arith in
    (refl, short_whole _ c.fills.self c.fill.new.self c.args.size c.in_ok-count.count all.0 c.in_ok-count.ensures.longer c.if-count-eq0.true few, all.1)

pub fills-preserved : goal.fills-preserved
fills-preserved g c = record {
  told = search rules;
  needed = λ left left_is.
      let same = ap (λ b. length b) c.self.view_is in
      let few : length c.fills.self < c.args.size = omega arith in
      took (IsShorter c.args.size) _ c.fills.self left _ _ (c.fills.invariant.told left left_is) c.in_ok-count.ensures.piece few;
  reads = search rules;
}

pub returns-in_err-count-clause-needed : goal.returns-in_err-count-clause-needed
returns-in_err-count-clause-needed g c left left_is =
    let same = ap (λ b. length b) c.self.view_is in
    let few : length c.fills.self < c.args.size = omega arith in
    took (IsShorter c.args.size) _ c.fills.self left _ _ (c.fills.invariant.told left left_is) c.in_err-count.ensures.piece few

pub returns-then-count-eq0-clause-needed : goal.returns-then-count-eq0-clause-needed
returns-then-count-eq0-clause-needed g c left left_is =
    let same = ap (λ b. length b) c.self.view_is in
    let few : length c.fills.self < c.args.size = omega arith in
    took (IsShorter c.args.size) _ c.fills.self left _ _ (c.fills.invariant.told left left_is) c.in_ok-count.ensures.piece few
