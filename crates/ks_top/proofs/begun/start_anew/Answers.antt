use Rattle.std.proofs.Common.{sym, subst}
use Rattle.std.proofs.lemmas.Result.{err_from_is_err_and}
use Rattle.ks_keep.specs.Books.{seen_by}
use Rattle.ks_policy.specs.Openings.{plain}
use Rattle.ks_written.specs.Written.{folder_wanted}
use Rattle.ks_commands.specs.Opened.{AreHeld}
use Rattle.ks_commands.proofs.OpeningLemmas.{held_stops, opening_stops, opens}
use Rattle.ks_top.proofs.StartLemmas.{start_stops, starts_anew, stays_anew, unput_stops}
use Rattle.ks_top.proofs.begun.start_anew.Goals as goal

pub returns-in_err-file-clause-stops : goal.returns-in_err-file-clause-stops
returns-in_err-file-clause-stops g c =
    let p = err_from_is_err_and c.from_residual.result c.from_residual.ensures.1 in
    rw (p.1, p.2) (λ file read. held_stops file (g.D.KeyDir.dir c.args.dir.now) (g.P.Desk.desk c.args.desk.now) c.args.text.now c.in_err-file.field-0.0
    read c.in_err-file.ensures.stops)

pub returns-in-Err-clause-stops : goal.returns-in-Err-clause-stops
returns-in-Err-clause-stops g c = λ file read.
    rw c.of_opening.ensures (opening_stops file (g.D.KeyDir.dir c.args.dir.now) (g.P.Desk.desk c.args.desk.now) (g.P.Desk.desk c.first_opening.new.desk)
    c.args.text.now c.as_slice.result.now c.in-Err.fault read
    (subst (AreHeld (folder_wanted c.args.text.now) (g.D.KeyDir.dir c.args.dir.now)) (sym c.as_slice.ensures) c.in_ok-file.ensures.held)
    c.in-Err.ensures.opening)

pub returns-in_err-start-clause-stops : goal.returns-in_err-start-clause-stops
returns-in_err-start-clause-stops g c =
    let p = err_from_is_err_and c.from_residual-in_err-start.result c.from_residual-in_err-start.ensures.1 in
    rw (p.1, p.2) (λ file read. start_stops file (g.D.KeyDir.dir c.args.dir.now) (g.P.Desk.desk c.args.desk.now) (g.P.Desk.desk c.first_opening.new.desk)
    (plain c.in-Ok.made.0) c.in_err-start.field-0.0
    (opens file (g.D.KeyDir.dir c.args.dir.now) (g.P.Desk.desk c.args.desk.now) (g.P.Desk.desk c.first_opening.new.desk)
    c.args.text.now c.as_slice.result.now c.in-Ok.made.0 read
    (subst (AreHeld (folder_wanted c.args.text.now) (g.D.KeyDir.dir c.args.dir.now)) (sym c.as_slice.ensures) c.in_ok-file.ensures.held)
    c.in-Ok.ensures.opening)
    c.in_err-start.ensures.stops)

pub returns-clause-starts : goal.returns-clause-starts
returns-clause-starts g c =
    starts_anew (seen_by g.B.Keeper.kept g.B.Keeper.whole g.B.Keeper.faults) c.args.text.now c.as_slice.result.now (g.D.KeyDir.dir c.args.dir.now)
    (g.P.Desk.desk c.args.desk.now) (g.P.Desk.desk c.first_opening.new.desk) c.args.keeper.now c.put_header.new.keeper
    c.in-Ok.made.0 c.in-Ok.made.1 c.in_ok-start.start
    (subst (AreHeld (folder_wanted c.args.text.now) (g.D.KeyDir.dir c.args.dir.now)) (sym c.as_slice.ensures) c.in_ok-file.ensures.held)
    c.in-Ok.ensures.opening c.in-Ok.ensures.header c.in_ok-start.ensures.starts.0 c.in_ok-start.ensures.starts.1
    (λ whole. c.in_ok-put_header.ensures.ok whole)

pub returns-in_err-put_header-clause-stays : goal.returns-in_err-put_header-clause-stays
returns-in_err-put_header-clause-stays g c = λ whole.
    let p = err_from_is_err_and c.from_residual-in_err-put_header.result c.from_residual-in_err-put_header.ensures.1 in
    rw (p.1, p.2) (stays_anew (seen_by g.B.Keeper.kept g.B.Keeper.whole g.B.Keeper.faults) c.args.text.now c.as_slice.result.now (g.D.KeyDir.dir c.args.dir.now)
    (g.P.Desk.desk c.args.desk.now) (g.P.Desk.desk c.first_opening.new.desk) c.args.keeper.now c.put_header.new.keeper
    c.in-Ok.made.0 c.in-Ok.made.1 c.in_ok-start.start c.in_err-put_header.field-0.0
    (subst (AreHeld (folder_wanted c.args.text.now) (g.D.KeyDir.dir c.args.dir.now)) (sym c.as_slice.ensures) c.in_ok-file.ensures.held)
    c.in-Ok.ensures.opening c.in-Ok.ensures.header c.in_ok-start.ensures.starts.0 c.in_ok-start.ensures.starts.1
    c.in_err-put_header.ensures.causes (c.in_err-put_header.ensures.err whole))

pub returns-in_err-put_header-clause-stops : goal.returns-in_err-put_header-clause-stops
returns-in_err-put_header-clause-stops g c =
    let p = err_from_is_err_and c.from_residual-in_err-put_header.result c.from_residual-in_err-put_header.ensures.1 in
    rw (p.1, p.2) (λ file read. unput_stops file (g.D.KeyDir.dir c.args.dir.now) (g.P.Desk.desk c.args.desk.now) (g.P.Desk.desk c.first_opening.new.desk)
    c.in_err-put_header.field-0.0 _ c.in-Ok.ensures.header.drew c.in_err-put_header.ensures.causes)
