use Rattle.std.proofs.Common.{Some, refl, sym, ap, ◌∙◌, option_copied}
use Rattle.ks_auth.specs.Facts.{told}
use Rattle.ks_auth.proofs.OpeningLemmas.{so_far_here, so_far_end, past_none, past_no, past_not_text, at_yes, at_end, opened_first, unopened_first}
use Rattle.ks_auth.proofs.opening.opening.Goals as goal
use Rattle.ks_auth.proofs.opening.opening.Goals.{in-None, in-Some-No, in-Some-NotText}

pub returns-in-Some-Yes-clause-opened : goal.returns-in-Some-Yes-clause-opened
returns-in-Some-Yes-clause-opened c =
    rw c.unless_before.ensures
    (opened_first c.loop-key.lacking c.loop-key.is_text _ _ _
    (at_yes (told c.args.facts.now) c.args.text.now c.args.keys.now _ _ c.loop-key.lacking c.loop-key.is_text c.in-Some-Yes.time c.in-Some-Yes.plain
    (sym c.opened.ensures ∙ ap option_copied c.in-Some-Yes.is ∙ ap Some c.in-Some-Yes.field-0-is)
    (so_far_here (told c.args.facts.now) c.args.text.now c.args.keys.now c.loop-key.key-index _ c.loop-key.lacking c.loop-key.is_text c.loop-key-test.true c.loop-key.invariant))
    refl)

pub returns-in-Some-Yes-clause-unopened : goal.returns-in-Some-Yes-clause-unopened
returns-in-Some-Yes-clause-unopened c =
    rw c.unless_before.ensures
    (unopened_first c.loop-key.lacking c.loop-key.is_text _ _ _
    (at_yes (told c.args.facts.now) c.args.text.now c.args.keys.now _ _ c.loop-key.lacking c.loop-key.is_text c.in-Some-Yes.time c.in-Some-Yes.plain
    (sym c.opened.ensures ∙ ap option_copied c.in-Some-Yes.is ∙ ap Some c.in-Some-Yes.field-0-is)
    (so_far_here (told c.args.facts.now) c.args.text.now c.args.keys.now c.loop-key.key-index _ c.loop-key.lacking c.loop-key.is_text c.loop-key-test.true c.loop-key.invariant))
    refl)

pub loop-key-preserved : goal.loop-key-preserved
loop-key-preserved c =
    let here = so_far_here (told c.args.facts.now) c.args.text.now c.args.keys.now c.loop-key.key-index _ c.loop-key.lacking c.loop-key.is_text c.loop-key-test.true c.loop-key.invariant in
    elim c.match-opened.branch [
      | in-None w ↦
          rw (w.lacking-is, w.is_text-is)
          (past_none (told c.args.facts.now) c.args.text.now c.args.keys.now _ _ c.loop-key.lacking c.loop-key.is_text
          (sym c.opened.ensures ∙ ap option_copied w.in-None.is) here)
      | in-Some-No w ↦
          rw (w.lacking-is, w.is_text-is)
          (past_no (told c.args.facts.now) c.args.text.now c.args.keys.now _ _ c.loop-key.lacking c.loop-key.is_text
          (sym c.opened.ensures ∙ ap option_copied w.in-Some-No.is ∙ ap Some w.in-Some-No.field-0-is) here)
      | in-Some-NotText w ↦
          rw (w.lacking-is, w.is_text-is)
          (past_not_text (told c.args.facts.now) c.args.text.now c.args.keys.now _ _ c.loop-key.lacking c.loop-key.is_text
          (sym c.opened.ensures ∙ ap option_copied w.in-Some-NotText.is ∙ ap Some w.in-Some-NotText.field-0-is) here)
    ]

pub returns-clause-opened : goal.returns-clause-opened
returns-clause-opened c =
    rw c.unless_before-2.ensures
    (opened_first c.loop-key.lacking c.loop-key.is_text _ _ _
    (at_end (told c.args.facts.now) c.args.text.now c.args.keys.now c.loop-key.lacking c.loop-key.is_text
    (so_far_end (told c.args.facts.now) c.args.text.now c.args.keys.now c.loop-key.key-index c.loop-key.lacking c.loop-key.is_text c.loop-key-test.false c.loop-key.invariant))
    refl)

pub returns-clause-unopened : goal.returns-clause-unopened
returns-clause-unopened c =
    rw c.unless_before-2.ensures
    (unopened_first c.loop-key.lacking c.loop-key.is_text _ _ _
    (at_end (told c.args.facts.now) c.args.text.now c.args.keys.now c.loop-key.lacking c.loop-key.is_text
    (so_far_end (told c.args.facts.now) c.args.text.now c.args.keys.now c.loop-key.key-index c.loop-key.lacking c.loop-key.is_text c.loop-key-test.false c.loop-key.invariant))
    refl)
