use Rattle.std.proofs.Common.{◌+◌, Ok, Err, Bool, subst, arith}
use Rattle.std.proofs.lemmas.Result.{err_from_is_err_and}
use Rattle.ks_machine.specs.Fronts.{first_front}
use Rattle.ks_machine.specs.Openings.{PlainOpening}
use Rattle.ks_state.specs.Standing.{StandsWithAllKept}
use Rattle.ks_keep.specs.Books.{seen_by}
use Rattle.ks_keep.specs.Pasts.{entries_of}
use Rattle.ks_keep.specs.Redoing.{AreRedoneSoFar, RedoesAt}
use Rattle.ks_keep.proofs.RedoneLemmas.{all_so_far, bad_there, few_so_far, none_so_far, one_more}
use Rattle.ks_keep.proofs.restoring.redo_all.Goals as goal

pub loop-past-init : goal.loop-past-init
loop-past-init g c = record {
  far = λ opening stands. none_so_far (seen_by g.K.Keeper.kept g.K.Keeper.whole g.K.Keeper.faults) c.args.keeper.now opening c.args.identity.now stands;
  few = omega arith;
  faults = omega arith;
}

pub loop-past-preserved : goal.loop-past-preserved
loop-past-preserved g c =
    let one = subst (λ (more : Bool). RedoesAt (g.K.Keeper.kept c.loop-past.keeper).entries (g.K.Keeper.whole c.redo_at.new.keeper) c.loop-past.number c.loop-past.identity
    (entries_of c.loop-past.past) (Ok more) c.redo_at.new.identity (entries_of c.redo_at.new.past)) c.if-branch.true c.in_ok-redo_at.ensures.redoes in
    let next : (opening : PlainOpening) → StandsWithAllKept c.args.identity.now (first_front opening) →
    AreRedoneSoFar (seen_by g.K.Keeper.kept g.K.Keeper.whole g.K.Keeper.faults) c.args.keeper.now opening (c.loop-past.number + 1) c.redo_at.new.identity c.redo_at.new.keeper (entries_of c.redo_at.new.past) = λ opening stands.
    one_more (seen_by g.K.Keeper.kept g.K.Keeper.whole g.K.Keeper.faults) c.args.keeper.now opening c.loop-past.number c.loop-past.identity c.redo_at.new.identity c.loop-past.keeper c.redo_at.new.keeper (entries_of c.loop-past.past)
    (entries_of c.redo_at.new.past) (c.loop-past.invariant.far opening stands) c.redo_at.ensures.read one in record {
      far = next;
      few = few_so_far (seen_by g.K.Keeper.kept g.K.Keeper.whole g.K.Keeper.faults) c.args.keeper.now c.requires.opened.0 (c.loop-past.number + 1) c.redo_at.new.identity c.redo_at.new.keeper (entries_of c.redo_at.new.past)
          (next c.requires.opened.0 c.requires.opened.1);
      faults = omega (arith, c.loop-past.invariant.faults, c.redo_at.ensures.read.faults);
    }

pub returns-in_err-redo_at-clause-redoes : goal.returns-in_err-redo_at-clause-redoes
returns-in_err-redo_at-clause-redoes g c = λ opening stands.
    let p = err_from_is_err_and c.from_residual.result c.from_residual.ensures.1 in
    rw (p.1, p.2) (bad_there (seen_by g.K.Keeper.kept g.K.Keeper.whole g.K.Keeper.faults) c.args.keeper.now opening c.loop-past.number c.loop-past.identity c.redo_at.new.identity c.loop-past.keeper c.redo_at.new.keeper c.in_err-redo_at.field-0.0
    (entries_of c.loop-past.past) (entries_of c.redo_at.new.past) (c.loop-past.invariant.far opening stands) c.redo_at.ensures.read c.in_err-redo_at.ensures.redoes)
