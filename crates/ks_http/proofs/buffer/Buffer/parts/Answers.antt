use Rattle.std.proofs.Common.{length, ap, arith}
use Rattle.std.proofs.lemmas.Result.{err_from_is_err_and}
use Rattle.ks_http.proofs.BufferLemmas.{fits, opens_at, refuses_head}
use Rattle.ks_http.proofs.buffer.Buffer.parts.Goals as goal

pub advance-requires : goal.advance-requires
advance-requires g c =
    let same = ap (λ l. length l) c.self.view_is in
    let inside = fits c.in_ok-head.head.len c.head.new.self c.in_ok-head.ensures.within.section.len_fits in omega arith

pub returns-in_err-parts-clause-told : goal.returns-in_err-parts-clause-told
returns-in_err-parts-clause-told g c left left_is =
    let p = err_from_is_err_and c.from_residual-in_err-parts.result c.from_residual-in_err-parts.ensures.1 in
    let f = c.in_ok-head.ensures.told left left_is in
    rw (p.1, p.2) (refuses_head _ c.head.new.self (g.S.Stream.stream c.head.new.source).left c.head.new.headers c.in_ok-head.head c.in_err-parts.field-0.0 f
    (fits c.in_ok-head.head.len c.head.new.self c.in_ok-head.ensures.within.section.len_fits) (c.in_err-parts.ensures.says f.3.head f.3.at))

pub returns-clause-told : goal.returns-clause-told
returns-clause-told g c left left_is =
    let f = c.in_ok-head.ensures.told left left_is in
    opens_at _ c.head.new.self c.advance.new.self (g.S.Stream.stream c.head.new.source).left c.head.new.headers c.in_ok-head.head c.in_ok-parts.parts f
    (fits c.in_ok-head.head.len c.head.new.self c.in_ok-head.ensures.within.section.len_fits) (cc) (c.in_ok-parts.ensures.says f.3.head f.3.at)
