use Rattle.std.proofs.Common.{◌++◌, take, rules}
use Rattle.std.proofs.lemmas.Result.{err_from_is_err_and}
use Rattle.ks_outside.proofs.Writes.{split_more, written_more, written_none, written_zero}
use Rattle.ks_outside.proofs.sink.write_all.Goals as goal

pub returns-in_err-count-clause-told : goal.returns-in_err-count-clause-told
returns-in_err-count-clause-told g c =
    let p = err_from_is_err_and c.from_residual.result c.from_residual.ensures.1 in
    rw (p.1) (λ before h.
    let t = c.writes.invariant.told before h in
    (t.0, (c.writes.left.now, t.1), written_none _ before t.0 (c.in_err-count.ensures.told (before ++ t.0) t.2)))

pub returns-then-count-eq0-clause-told : goal.returns-then-count-eq0-clause-told
returns-then-count-eq0-clause-told g c before h =
    let t = c.writes.invariant.told before h in (
      t.0,
      (c.writes.left.now, t.1),
      written_zero c.in_ok-count.count _ before t.0 c.writes.left.now c.if-count-eq0.true (c.in_ok-count.ensures.told (before ++ t.0) t.2),
    )

pub writes-preserved : goal.writes-preserved
writes-preserved g c = record {
  told = λ before h. let t = c.writes.invariant.told before h in
      let part = take c.in_ok-count.count c.writes.left.now in (
        t.0 ++ part,
        split_more c.in_ok-count.count t.0 _ _ _ t.1 c.split_at.ensures.back,
        written_more _ before t.0 part (c.in_ok-count.ensures.told (before ++ t.0) t.2),
      );
  writes = search rules;
}
