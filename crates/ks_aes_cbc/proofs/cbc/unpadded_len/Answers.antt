use Rattle.std.proofs.Common.{◌≡◌, ◌≢◌, ◌≤◌, ◌-◌, length, drop, slice_index, replicate, sym, ap, ◌∙◌, arith, inl, inr}
use Rattle.std.proofs.lemmas.Bool.{eqb-true, eqb-false, false≢true}
use Rattle.ks_aes_cbc.proofs.Chains.{pad-parts, pad-from, pad-length}
use Rattle.ks_aes_cbc.proofs.cbc.unpadded_len.Goals as goal

pub returns-then-is_empty-clause-none : goal.returns-then-is_empty-clause-none
returns-then-is_empty-clause-none c = λ p e.
    omega (arith, pad-length p, ap length e, eqb-true (length c.args.bytes.now) 0 (sym c.if-is_empty.ensures))

pub returns-then-count-eq0-clause-none : goal.returns-then-count-eq0-clause-none
returns-then-count-eq0-clause-none c = λ p e.
    let parts = pad-parts p c.args.bytes.now c.from-count.result e (sym c.from-count.ensures) in
    let low : 1 ≤ c.from-count.result = parts.0 in
    let high : c.from-count.result ≤ 16 = parts.1 in
    elim c.then-count-eq0.either [ inl none ↦ omega arith | inr many ↦ omega arith ]

pub returns-then-all_are-clause-some : goal.returns-then-all_are-clause-some
returns-then-all_are-clause-some c =
    let filled : length c.args.bytes.now ≢ 0 = eqb-false (length c.args.bytes.now) 0 (sym c.if-is_empty.ensures) in
    let fits : c.from-count.result ≤ length c.args.bytes.now = omega arith in
    let long : length c.split_at.result.1.now ≡ c.from-count.result = omega arith in
    let tail : drop (length c.args.bytes.now - c.from-count.result) c.args.bytes.now ≡ replicate c.from-count.result c.from-count.result =
    sym c.split_at.ensures.back ∙ c.all_are.ensures.0 c.if-all_are.true
    ∙ ap (λ n. replicate n (slice_index c.args.bytes.now (length c.args.bytes.now - 1))) long
    ∙ ap (replicate c.from-count.result) (sym c.from-count.ensures) in
    (omega arith, pad-from c.args.bytes.now c.from-count.result (omega arith) (omega arith) fits (omega arith) tail)

pub returns-else-all_are-clause-none : goal.returns-else-all_are-clause-none
returns-else-all_are-clause-none c = λ p e.
    let parts = pad-parts p c.args.bytes.now c.from-count.result e (sym c.from-count.ensures) in
    let fits : c.from-count.result ≤ length c.args.bytes.now = parts.2 in
    let long : length c.split_at.result.1.now ≡ c.from-count.result = omega arith in
    let all : c.split_at.result.1.now ≡ replicate (length c.split_at.result.1.now) (slice_index c.args.bytes.now (length c.args.bytes.now - 1)) =
    c.split_at.ensures.back ∙ parts.4 ∙ ap (replicate c.from-count.result) c.from-count.ensures
    ∙ ap (λ n. replicate n (slice_index c.args.bytes.now (length c.args.bytes.now - 1))) (sym long) in
    false≢true (sym c.if-all_are.false ∙ c.all_are.ensures.1 all)
