use Rattle.std.proofs.Common.{[]}
use Rattle.std.proofs.lemmas.Result.{err_from_is_err_and}
use Rattle.ks_setup.proofs.DrawLemmas.{drew_nothing, drawing_end, drawing_failed, drawing_full, drawing_more, drawing_none}
use Rattle.ks_setup.proofs.derive.draw_salts.Goals as goal

pub returns-in_err-salts : goal.returns-in_err-salts
returns-in_err-salts g c =
    let p = err_from_is_err_and c.from_residual.result c.from_residual.ensures.1 in
    rw (p.1, p.2) ([], drew_nothing (g.P.Desk.desk c.args.desk.now))

pub loop-init : goal.loop-init
loop-init g c = rw c.in_ok-salts.ensures.items (drawing_none c.args.count (g.P.Desk.desk c.args.desk.now))

pub loop-preserved : goal.loop-preserved
loop-preserved g c =
    rw c.in_ok-push.ensures.items
    (drawing_more c.args.count c.loop.counter c.loop.salts.items c.in_ok-salt.salt (g.P.Desk.desk c.args.desk.now) (g.P.Desk.desk c.loop.desk)
    (g.P.Desk.desk c.draw_salt.new.desk) c.loop-test.true c.loop.invariant c.in_ok-salt.ensures)

pub returns-in_err-salt : goal.returns-in_err-salt
returns-in_err-salt g c =
    let p = err_from_is_err_and c.from_residual-in_err-salt.result c.from_residual-in_err-salt.ensures.1 in
    rw (p.1, p.2) (drawing_failed c.args.count c.loop.counter c.loop.salts.items (g.P.Desk.desk c.args.desk.now) (g.P.Desk.desk c.loop.desk)
    (g.P.Desk.desk c.draw_salt.new.desk) c.loop-test.true c.loop.invariant c.in_err-salt.ensures)

pub returns-in_err-push : goal.returns-in_err-push
returns-in_err-push g c =
    let p = err_from_is_err_and c.from_residual-in_err-push.result c.from_residual-in_err-push.ensures.1 in
    rw (p.1, p.2) (drawing_full c.args.count c.loop.counter c.loop.salts.items (g.P.Desk.desk c.args.desk.now) (g.P.Desk.desk c.loop.desk)
    (g.P.Desk.desk c.draw_salt.new.desk) c.in_ok-salt.ensures.0 c.loop.invariant c.in_ok-salt.ensures.3)

pub returns : goal.returns
returns g c =
    rw c.from_vec.ensures (drawing_end c.args.count c.loop.counter c.loop.salts.items (g.P.Desk.desk c.args.desk.now) (g.P.Desk.desk c.loop.desk)
    c.loop-test.false c.loop.invariant)
