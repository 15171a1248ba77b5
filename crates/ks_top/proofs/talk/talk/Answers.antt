use Rattle.std.proofs.Common.{[], refl}
use Rattle.ks_top.proofs.OpenedLemmas.{opened_then}
use Rattle.ks_top.proofs.talk.talk.Goals as goal

pub serve_one-fault-requires-clause-stands : goal.serve_one-fault-requires-clause-stands
serve_one-fault-requires-clause-stands g c =
    (c.in-Ok.ensures.opens (g.S.Stream.stream c.args.input.now) (g.K.Stream.stream c.args.output.now) (g.D.KeyDir.dir c.args.place.now) []).stands

pub serve_one-fault-requires-clause-book : goal.serve_one-fault-requires-clause-book
serve_one-fault-requires-clause-book g c =
    (c.in-Ok.ensures.opens (g.S.Stream.stream c.args.input.now) (g.K.Stream.stream c.args.output.now) (g.D.KeyDir.dir c.args.place.now) []).book

pub serve_one-fault-requires-clause-url : goal.serve_one-fault-requires-clause-url
serve_one-fault-requires-clause-url g c =
    (c.in-Ok.ensures.opens (g.S.Stream.stream c.args.input.now) (g.K.Stream.stream c.args.output.now) (g.D.KeyDir.dir c.args.place.now) []).url

pub returns-in-Ok : goal.returns-in-Ok
returns-in-Ok g c = λ others.
    let opened = c.in-Ok.ensures.opens (g.S.Stream.stream c.args.input.now) (g.K.Stream.stream c.args.output.now) (g.D.KeyDir.dir c.args.place.now) others in (
      refl,
      opened_then _ _ _ _ _ _ opened c.serve_one-fault.ensures.since refl refl
          (c.serve_one-fault.ensures.served (g.P.Desk.desk c.args.desk.now) (g.F.Stream.stream c.args.file.now) (g.F.Stream.stream c.open.new.file) (g.D.KeyDir.dir c.args.dir.now) (g.D.KeyDir.dir c.open.new.dir) others c.args.keeper),
    )

pub returns-in-Err : goal.returns-in-Err
returns-in-Err g c = λ others.
    rw (c.stopped.ensures.fault, c.stopped.ensures.end)
    (c.in-Err.ensures.opens (g.S.Stream.stream c.args.input.now) (g.K.Stream.stream c.args.output.now) (g.D.KeyDir.dir c.args.place.now) others)
