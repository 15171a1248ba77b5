use Rattle.std.proofs.Common.{◌≡◌, Some, get_or, rules, sym, ap, subst, ◌∙◌}
use Rattle.std.proofs.lemmas.Result.{err_from_is_err_and}
use Rattle.ks_outside.specs.Files.{Stands}
use Rattle.ks_keyfiles.specs.Rotations.{removed}
use Rattle.ks_keyfiles.proofs.RemovalLemmas.{next_removed, next_stands, none_removed, stopped_at}
use Rattle.ks_keyfiles.proofs.WritingLemmas.{told_before}
use Rattle.ks_keyfiles.proofs.rotating.remove_all.Goals as goal

pub files-init : goal.files-init
files-init g c = record {
  so_far = λ files told. told ∙ ap Some (sym (none_removed files));
  untold = search rules;
  faults = search rules;
}

pub remove-requires : goal.remove-requires
remove-requires g c = λ files told.
    let k = c.files.index-index in
    let were = told_before _ _ c.files.invariant.untold files told in
    let is : removed k were.0 ≡ files = cc (sym (c.files.invariant.so_far were.0 were.1) ∙ told) in
    subst (λ l. Stands (get_or c.args.gone.now k 0) l) is (next_stands c.args.gone.now were.0 k (c.requires were.0 were.1) c.files-test.true)

pub returns-in_err-remove-clause-told : goal.returns-in_err-remove-clause-told
returns-in_err-remove-clause-told g c = λ files told.
    let fault = err_from_is_err_and c.from_residual.result c.from_residual.ensures.1 in
    rw fault.1 (stopped_at c.args.gone.now files c.files.index-index _ (c.requires files told) c.files-test.true
    (c.in_err-remove.ensures.told _ (c.files.invariant.so_far files told)))

pub files-preserved : goal.files-preserved
files-preserved g c = record {
  so_far = λ files told.
      c.in_ok-remove.ensures.told _ (c.files.invariant.so_far files told)
      ∙ ap Some (next_removed c.args.gone.now files c.files.index-index (c.requires files told) c.files-test.true);
  untold = search rules;
  faults = search rules;
}
