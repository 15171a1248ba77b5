use Rattle.std.proofs.Common.{◌≡◌, [], refl}
use Rattle.ks_top.proofs.OpenedLemmas.{opened_then}
use Rattle.ks_top.proofs.serve.serve.Goals as goal

pub serve_desks-fault-requires-clause-stands : goal.serve_desks-fault-requires-clause-stands
serve_desks-fault-requires-clause-stands g c κs lives =
    (c.in-Ok.ensures.opens (g.F.Stream.stream c.args.file.now) (g.F.Stream.stream c.args.file.now) (g.D.KeyDir.dir c.args.dir.now) []).stands

pub serve_desks-fault-requires-clause-book : goal.serve_desks-fault-requires-clause-book
serve_desks-fault-requires-clause-book g c κs lives =
    (c.in-Ok.ensures.opens (g.F.Stream.stream c.args.file.now) (g.F.Stream.stream c.args.file.now) (g.D.KeyDir.dir c.args.dir.now) []).book

pub serve_desks-fault-requires-clause-url : goal.serve_desks-fault-requires-clause-url
serve_desks-fault-requires-clause-url g c κs lives =
    (c.in-Ok.ensures.opens (g.F.Stream.stream c.args.file.now) (g.F.Stream.stream c.args.file.now) (g.D.KeyDir.dir c.args.dir.now) []).url

pub returns-in-Ok : goal.returns-in-Ok
returns-in-Ok g c input output first others e =
    let given : c.index_mut.result.now ≡ first = rw e at c.index_mut.ensures.value in
    let opened = c.in-Ok.ensures.opens input output (g.D.KeyDir.dir c.index_mut.result.now.1) others in
    let s = c.serve_desks-fault.ensures.served input output (g.F.Stream.stream c.args.file.now) (g.F.Stream.stream c.open.new.file) (g.D.KeyDir.dir c.args.dir.now) (g.D.KeyDir.dir c.open.new.dir)
    (g.P.Desk.desk c.index_mut.result.now.0) (c.open.new.desk, c.index_mut.result.now.1) others c.args.keeper (rw e refl) in
    rw (← given) (s.0, s.1, s.2, (refl, opened_then _ _ _ _ _ _ opened c.serve_desks-fault.ensures.since refl refl s.3))

pub returns-in-Err : goal.returns-in-Err
returns-in-Err g c input output first others e =
    let given : c.index_mut.result.now ≡ first = rw e at c.index_mut.ensures.value in
    rw (← given) (
      (c.open.new.desk, c.index_mut.result.now.1),
      others,
      rw e refl,
      rw (c.stopped.ensures.fault, c.stopped.ensures.end) (c.in-Err.ensures.opens input output (g.D.KeyDir.dir c.index_mut.result.now.1) others),
    )
