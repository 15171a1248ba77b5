use Rattle.std.proofs.lemmas.Result.{err_from_is_err_and}
use Rattle.ks_http.proofs.BufferLemmas.{body_ends, took_both}
use Rattle.ks_http.proofs.buffer.Buffer.request.Goals as goal

pub returns-in_err-body-clause-told : goal.returns-in_err-body-clause-told
returns-in_err-body-clause-told g c left left_is =
    let p = err_from_is_err_and c.from_residual-in_err-body.result c.from_residual-in_err-body.ensures.1 in
    let f = c.in_ok-parts.ensures.told left left_is in
    rw (p.1, p.2) (body_ends _ c.parts.new.self c.body.new.self _ (g.S.Stream.stream c.body.new.source).left c.in_ok-parts.parts c.in_err-body.field-0.0 f (c.in_err-body.ensures.told f.0 f.1))

pub returns-in_err-body-clause-needed : goal.returns-in_err-body-clause-needed
returns-in_err-body-clause-needed g c left left_is =
    let f = c.in_ok-parts.ensures.told left left_is in
    took_both _ c.parts.new.self left _ _ c.in_ok-parts.parts f (c.in_ok-parts.ensures.needed left left_is) (c.in_err-body.ensures.needed f.0 f.1)

pub returns-clause-needed : goal.returns-clause-needed
returns-clause-needed g c left left_is =
    let f = c.in_ok-parts.ensures.told left left_is in
    took_both _ c.parts.new.self left _ _ c.in_ok-parts.parts f (c.in_ok-parts.ensures.needed left left_is) (c.in_ok-body.ensures.needed f.0 f.1)
