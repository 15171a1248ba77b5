use Rattle.std.proofs.Common.{List, length, Err, sym, ap, subst, ◌∙◌, arith, rules}
use Rattle.std.specs.Vec.Iter.{into_iter_items}
use Rattle.ks_machine.specs.declared.change.Entry.{Entry}
use Rattle.ks_state.specs.Restoring.{restored_front}
use Rattle.ks_state.specs.Shown.{Shown}
use Rattle.ks_state.proofs.RestoreLemmas.{HasRedone, all_redone, first_unfit, none_redone, one_redone}
use Rattle.ks_state.proofs.restoring.with_changes.Goals as goal

pub loop-entry-init : goal.loop-entry-init
loop-entry-init c = record {
  count = search rules;
  so_far = λ opening stands. none_redone opening (into_iter_items c.into_iter-entry-iterator.result) c.args.identity stands;
}

pub redo-requires : goal.redo-requires
redo-requires c =
    let so_far = c.loop-entry.invariant.so_far c.requires.0 c.requires.1 in record { stands = (restored_front c.requires.0 so_far.before, so_far.stands) }

pub loop-entry-preserved : goal.loop-entry-preserved
loop-entry-preserved c =
    let all = into_iter_items c.into_iter-entry-iterator.result in
    let steps = c.in-Some.ensures.steps in record {
      count = let was = c.loop-entry.invariant.count in let short = ap length steps.0 in omega (arith, steps.1);
      so_far = λ opening stands.
          let so_far = subst (λ (l : List Entry). HasRedone opening all l c.loop-entry.identity) steps.0 (c.loop-entry.invariant.so_far opening stands) in
          one_redone opening all c.in-Some.entry (into_iter_items c.next.new.self) c.loop-entry.identity c.redo.new.self so_far
          (c.redo.ensures.ok c.in-Ok.is (restored_front opening so_far.before) so_far.stands);
    }

pub returns-in-Err-Unfit : goal.returns-in-Err-Unfit
returns-in-Err-Unfit c = λ opening stands.
    let so_far = subst (λ (l : List Entry). HasRedone opening l (into_iter_items c.loop-entry.entry-iterator) c.loop-entry.identity)
    c.into_iter-entry-iterator.ensures.into_iter_gives.0 (c.loop-entry.invariant.so_far opening stands) in
    let at = subst (λ (l : List Entry). HasRedone opening c.args.entries.items l c.loop-entry.identity) c.in-Some.ensures.steps.0 so_far in
    first_unfit opening c.args.entries.items c.in-Some.entry (into_iter_items c.next.new.self) c.loop-entry.identity c.made-number.result at
    (c.made-number.ensures ∙ ap (λ (v : Shown). v.state.made) c.identity.view_is)
    (c.redo.ensures.unfit (c.in-Err-Unfit.is ∙ ap Err c.in-Err-Unfit.field-0-is) (restored_front opening at.before) at.stands)

pub returns : goal.returns
returns c = λ opening stands.
    let so_far = subst (λ (l : List Entry). HasRedone opening l (into_iter_items c.loop-entry.entry-iterator) c.loop-entry.identity)
    c.into_iter-entry-iterator.ensures.into_iter_gives.0 (c.loop-entry.invariant.so_far opening stands) in
    all_redone opening c.args.entries.items (into_iter_items c.loop-entry.entry-iterator) c.loop-entry.identity so_far
    (sym c.loop-entry.invariant.count ∙ c.in-None.ensures.steps.0)
