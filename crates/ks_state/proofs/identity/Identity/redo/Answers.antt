use Rattle.std.proofs.Common.{arith}
use Rattle.ks_state.specs.StandingLaws.{high_is}
use Rattle.ks_state.proofs.RedoLemmas.{not_next, redone_by, unfit_by}
use Rattle.ks_state.proofs.identity.Identity.redo.Goals as goal

pub returns-then-not-is_next-clause-unfit : goal.returns-then-not-is_next-clause-unfit
returns-then-not-is_next-clause-unfit c = λ is f all may.
    not_next c.args.self.now f c.args.entry c.is_next.result all.stands may c.is_next.ensures c.if-not-is_next.true

pub returns-clause-ok : goal.returns-clause-ok
returns-clause-ok c = λ is f all.
    let next = c.is_next.ensures.0 c.if-not-is_next.false in
    redone_by c.args.self.now c.raise.new.self c.make_if_fit.new.self f c.args.entry c.change_of.result next.0 next.1 next.2 all c.raise.ensures c.change_of.ensures
    (c.make_if_fit.ensures.ok is)

pub returns-clause-ok_follows : goal.returns-clause-ok_follows
returns-clause-ok_follows c = λ is f all.
    let next = c.is_next.ensures.0 c.if-not-is_next.false in omega (arith, next.1, high_is c.args.self.now f all.stands)

pub returns-clause-unfit : goal.returns-clause-unfit
returns-clause-unfit c = λ is f all may.
    unfit_by c.args.self.now c.raise.new.self f c.args.entry c.change_of.result all.stands may c.raise.ensures c.change_of.ensures (c.make_if_fit.ensures.unfit is)
