use Rattle.std.proofs.Common.{refl, Err, Some, IfSome, ap, subst, sym, ◌∙◌, Option}
use Rattle.ks_entries.specs.Changes.{IsEntry}
use Rattle.ks_machine.specs.declared.change.Entry.{Entry}
use Rattle.ks_state.specs.declared.redo.RedoFault.{RedoFault}
use Rattle.ks_state.specs.Restoring.{MayFollow}
use Rattle.ks_keep.proofs.restoring.redo_at.Goals as goal

pub returns-in-Err-Unfit-clause-redoes : goal.returns-in-Err-Unfit-clause-redoes
returns-in-Err-Unfit-clause-redoes g c = (
  refl,
  λ whole.
      let spells = subst (λ (read : Option Entry). IfSome read (λ entry. IsEntry c.as_slice.result.now entry)) c.in-Some-2.is c.in_ok-entry.ensures.some in record {
        bytes = c.as_slice.result.now;
        is = sym (c.in_ok-bytes.ensures.told whole) ∙ c.in-Some.is ∙ ap Some (sym c.as_slice.ensures);
        bad = λ entry also f stands may. c.in-Err-Unfit.ensures.unfit (ap (λ (fault : RedoFault). Err fault) c.in-Err-Unfit.field-0-is) f stands
            (subst (λ (one : Entry). MayFollow f one) (c.entries_differ.ensures c.as_slice.result.now entry c.in-Some-2.entry also spells) may);
      },
)
