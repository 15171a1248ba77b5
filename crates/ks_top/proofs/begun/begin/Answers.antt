use Rattle.std.proofs.Common.{◌∙◌, Some, refl, sym, ap, subst}
use Rattle.std.proofs.lemmas.Result.{err_from_is_err_and}
use Rattle.ks_keep.specs.Books.{seen_by}
use Rattle.ks_keeper.specs.Keeper.{Kept}
use Rattle.ks_top.specs.Identities as stop
use Rattle.ks_commands.specs.steps.Openings.{IsRead}
use Rattle.ks_top.proofs.BeginLemmas.{again_stops, anew_stays, begun_again, first_book, keeper_stops}
use Rattle.ks_commands.proofs.CountLemmas.{reads_for}
use Rattle.ks_top.proofs.StartLemmas.{anew_opening, read_early}
use Rattle.ks_top.proofs.begun.begin.Goals as goal

pub returns-in_err-text-clause-stops : goal.returns-in_err-text-clause-stops
returns-in_err-text-clause-stops g c = λ input output place others.
    let p = err_from_is_err_and c.from_residual.result c.from_residual.ensures.1 in
    rw (p.1, p.2) (stop.early c.in_err-text.field-0.0 (refl {a = g.P.Desk.desk c.args.desk.now}) (read_early c.in_err-text.field-0.0 c.in_err-text.ensures.causes))

pub returns-in_err-start-in-Ok-None-clause-stops : goal.returns-in_err-start-in-Ok-None-clause-stops
returns-in_err-start-in-Ok-None-clause-stops g c = λ input output place others.
    let p = err_from_is_err_and c.from_residual-in_err-start-in-Ok-None.result c.from_residual-in_err-start-in-Ok-None.ensures.1 in
    rw (p.1, p.2) (stop.anew c.in_err-start-in-Ok-None.field-0.0
    (λ whole. sym (c.in-Ok-None.ensures.told (c.in_err-start-in-Ok-None.ensures.since whole)) ∙ c.in-Ok-None.field-0-is)
    (c.in_err-start-in-Ok-None.ensures.stops (g.F.Stream.stream c.args.file.now)
    (subst (λ text. IsRead (g.F.Stream.stream c.args.file.now) text) (sym c.as_slice.ensures.value) c.in_ok-text.ensures.read)))

pub returns-in_err-start-in-Ok-None-clause-reads : goal.returns-in_err-start-in-Ok-None-clause-reads
returns-in_err-start-in-Ok-None-clause-reads g c =
    let p = err_from_is_err_and c.from_residual-in_err-start-in-Ok-None.result c.from_residual-in_err-start-in-Ok-None.ensures.1 in
    rw (p.1, p.2) (reads_for _ _ _ _ (λ e. absurd (c.in_err-start-in-Ok-None.ensures.unread (cc e))) c.in_ok-text.ensures.reads)

pub returns-in-Ok-None-clause-begins : goal.returns-in-Ok-None-clause-begins
returns-in-Ok-None-clause-begins g c = λ input output place others. record {
  opened = anew_opening (seen_by g.B.Keeper.kept g.B.Keeper.whole g.B.Keeper.faults) (g.F.Stream.stream c.args.file.now) c.as_slice.result.now
      (g.D.KeyDir.dir c.args.dir.now) (g.P.Desk.desk c.args.desk.now) (g.P.Desk.desk c.start_anew.new.desk) c.header.new.self c.start_anew.new.keeper
      c.in_ok-start-in-Ok-None.start
      (subst (λ text. IsRead (g.F.Stream.stream c.args.file.now) text) (sym c.as_slice.ensures.value) c.in_ok-text.ensures.read)
      c.in_ok-start-in-Ok-None.ensures.starts;
  no_header = λ whole. sym (c.in-Ok-None.ensures.told (c.in_ok-start-in-Ok-None.ensures.since whole)) ∙ c.in-Ok-None.field-0-is;
  is_start = c.in_ok-start-in-Ok-None.ensures.starts.is_start;
  book = λ whole.
      let mid = c.in_ok-start-in-Ok-None.ensures.since whole in
      first_book _ _ _ (c.requires.tidy (c.in-Ok-None.ensures.since mid)) (sym (c.in-Ok-None.ensures.told mid) ∙ c.in-Ok-None.field-0-is)
      (c.in_ok-start-in-Ok-None.ensures.starts.entries whole ∙ ap (λ (k : Kept). k.entries) (c.in-Ok-None.ensures.same mid))
      (c.in_ok-start-in-Ok-None.ensures.starts.header whole);
}

pub returns-in_err-start-in-Ok-Some-clause-stops : goal.returns-in_err-start-in-Ok-Some-clause-stops
returns-in_err-start-in-Ok-Some-clause-stops g c = λ input output place others.
    let p = err_from_is_err_and c.from_residual-in_err-start-in-Ok-Some.result c.from_residual-in_err-start-in-Ok-Some.ensures.1 in
    rw (p.1, p.2) (again_stops _ _ _ c.as_slice-in-Ok-Some.result.now c.as_slice-in-Ok-Some-2.result.now c.in_err-start-in-Ok-Some.field-0.0
    (subst (λ text. IsRead (g.F.Stream.stream c.args.file.now) text) (sym c.as_slice-in-Ok-Some.ensures.value) c.in_ok-text.ensures.read)
    (λ whole. sym (c.in-Ok-Some.ensures.told whole) ∙ c.in-Ok-Some.field-0-is ∙ ap Some (sym c.as_slice-in-Ok-Some-2.ensures))
    (refl {a = g.P.Desk.desk c.args.desk.now}) (refl {a = g.D.KeyDir.dir c.args.dir.now}) c.in_err-start-in-Ok-Some.ensures.stops)

pub returns-in-Ok-Some-clause-begins : goal.returns-in-Ok-Some-clause-begins
returns-in-Ok-Some-clause-begins g c = λ input output place others.
    begun_again _ _ _ c.as_slice-in-Ok-Some.result.now c.as_slice-in-Ok-Some-2.result.now c.in_ok-start-in-Ok-Some.start
    (subst (λ text. IsRead (g.F.Stream.stream c.args.file.now) text) (sym c.as_slice-in-Ok-Some.ensures.value) c.in_ok-text.ensures.read)
    (λ whole. sym (c.in-Ok-Some.ensures.told whole) ∙ c.in-Ok-Some.field-0-is ∙ ap Some (sym c.as_slice-in-Ok-Some-2.ensures))
    c.in-Ok-Some.ensures.same (refl {a = g.P.Desk.desk c.args.desk.now}) (refl {a = g.D.KeyDir.dir c.args.dir.now}) c.in_ok-start-in-Ok-Some.ensures.starts

pub returns-clause-stops : goal.returns-clause-stops
returns-clause-stops g c = λ input output place others. rw c.of_keeper.ensures (keeper_stops _ _ _ c.in-Err.fault (refl {a = g.P.Desk.desk c.args.desk.now}))

pub returns-in_err-start-in-Ok-None-clause-stays : goal.returns-in_err-start-in-Ok-None-clause-stays
returns-in_err-start-in-Ok-None-clause-stays g c = λ input output place others whole.
    let p = err_from_is_err_and c.from_residual-in_err-start-in-Ok-None.result c.from_residual-in_err-start-in-Ok-None.ensures.1 in
    let mid = c.in_err-start-in-Ok-None.ensures.since whole in
    rw (p.1, p.2) (anew_stays _ _ _ c.header.new.self c.as_slice.result.now c.in_err-start-in-Ok-None.field-0.0
    (subst (λ text. IsRead (g.F.Stream.stream c.args.file.now) text) (sym c.as_slice.ensures.value) c.in_ok-text.ensures.read)
    (sym (c.in-Ok-None.ensures.told mid) ∙ c.in-Ok-None.field-0-is) (c.in-Ok-None.ensures.same mid) (c.in_err-start-in-Ok-None.ensures.stays whole))
