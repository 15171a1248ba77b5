use Rattle.std.proofs.Common.{◌≡◌, ◌+◌, ◌-◌, ◌≤◌, ◌++◌, ◌∷◌, Some, None, length, drop, arith, sym, ap, ◌∙◌}
use Rattle.std.proofs.lemmas.Result.{err_from_is_err_and}
use Rattle.ks_outside.specs.Files.{indices_of}
use Rattle.ks_keyfiles.specs.Rotations.{highest, promoted, removed, rotation_fault, staged_anew}
use Rattle.ks_keyfiles.proofs.RotationLemmas.{answer_lost, are_rotated, gone_is_excess, left_is, may_be_staged, parts_are, removing_stopped, staged_oldest}
use Rattle.ks_keyfiles.proofs.WritingLemmas.{told_before}
use Rattle.ks_keyfiles.proofs.rotating.rotate_dir.Goals as goal

pub write-requires : goal.write-requires
write-requires g c = λ files told.
    let were = c.in_ok-indices.indices.items in
    let small : highest were + 1 ≤ 999999999 = omega (arith, ap highest c.as_slice.ensures.value, c.in_ok-next.ensures.ok.1, c.in_ok-next.ensures.ok.2) in
    let before = told_before _ _ c.in_ok-promote.ensures.untold files told in
    let listed = c.in_ok-indices.ensures.told before.0 (sym c.list.ensures.looks.files ∙ before.1) in
    let same : promoted before.0 ≡ files = cc (sym (c.in_ok-promote.ensures.told before.0 before.1) ∙ told) in
    may_be_staged before.0 files were c.promote.new.indices.items c.in_ok-indices.ensures.indices small listed c.in_ok-promote.ensures.indices same

pub remove_all-requires : goal.remove_all-requires
remove_all-requires g c = λ files told.
    let were = c.in_ok-indices.indices.items in
    let now = c.promote.new.indices.items in
    let small : highest were + 1 ≤ 999999999 = omega (arith, ap highest c.as_slice.ensures.value, c.in_ok-next.ensures.ok.1, c.in_ok-next.ensures.ok.2) in
    let promoted_before = told_before _ _ c.in_ok-write.ensures.untold files told in
    let before = told_before _ _ c.in_ok-promote.ensures.untold promoted_before.0 promoted_before.1 in
    let listed = c.in_ok-indices.ensures.told before.0 (sym c.list.ensures.looks.files ∙ before.1) in
    let made = c.in_ok-write.ensures.told (promoted before.0) (c.in_ok-promote.ensures.told before.0 before.1) in
    let same : staged_anew c.args.new before.0 ≡ files = cc (sym made ∙ told) in
    let parts : c.split_at.result.0.now ++ c.split_at.result.1.now ≡ now =
    parts_are _ _ _ _ c.saturating_sub-excess.result c.as_slice-2.ensures.value c.split_at.ensures.front c.split_at.ensures.back in
    staged_oldest c.args.new before.0 files were now c.split_at.result.0.now c.split_at.result.1.now
    c.in_ok-indices.ensures.indices small listed c.in_ok-promote.ensures.indices parts same

pub returns-in_err-remove_all-clause-told : goal.returns-in_err-remove_all-clause-told
returns-in_err-remove_all-clause-told g c = λ files told.
    let were = c.in_ok-indices.indices.items in
    let now = c.promote.new.indices.items in
    let gone = c.split_at.result.0.now in
    let small : highest were + 1 ≤ 999999999 = omega (arith, ap highest c.as_slice.ensures.value, c.in_ok-next.ensures.ok.1, c.in_ok-next.ensures.ok.2) in
    let listed = c.in_ok-indices.ensures.told files told in
    let none : rotation_fault (indices_of files) ≡ None = ap rotation_fault (sym (c.as_slice.ensures.value ∙ listed)) ∙ c.in_ok-next.ensures.ok.0 in
    let many : length gone ≡ length now - (c.args.max - 1) = omega (arith, c.split_at.ensures.front_len) in
    let excess = gone_is_excess c.args.new c.args.max files were now gone c.in_ok-indices.ensures.indices small listed c.in_ok-promote.ensures.indices c.requires.least many in
    let made = c.in_ok-write.ensures.told (promoted files) (c.in_ok-promote.ensures.told files (c.list.ensures.looks.files ∙ told)) in
    let fault = err_from_is_err_and c.from_residual-in_err-remove_all.result c.from_residual-in_err-remove_all.ensures.1 in
    rw (fault.1, fault.2) (removing_stopped c.args.new c.args.max (length gone) files _ _ none excess c.in_err-remove_all.ensures.causes
    (c.in_err-remove_all.ensures.told (staged_anew c.args.new files) made))

pub returns-in_err-followed_by-clause-told : goal.returns-in_err-followed_by-clause-told
returns-in_err-followed_by-clause-told g c = λ files told.
    let were = c.in_ok-indices.indices.items in
    let now = c.promote.new.indices.items in
    let gone = c.split_at.result.0.now in
    let small : highest were + 1 ≤ 999999999 = omega (arith, ap highest c.as_slice.ensures.value, c.in_ok-next.ensures.ok.1, c.in_ok-next.ensures.ok.2) in
    let listed = c.in_ok-indices.ensures.told files told in
    let none : rotation_fault (indices_of files) ≡ None = ap rotation_fault (sym (c.as_slice.ensures.value ∙ listed)) ∙ c.in_ok-next.ensures.ok.0 in
    let many : length gone ≡ length now - (c.args.max - 1) = omega (arith, c.split_at.ensures.front_len) in
    let excess = gone_is_excess c.args.new c.args.max files were now gone c.in_ok-indices.ensures.indices small listed c.in_ok-promote.ensures.indices c.requires.least many in
    let made = c.in_ok-write.ensures.told (promoted files) (c.in_ok-promote.ensures.told files (c.list.ensures.looks.files ∙ told)) in
    let fault = err_from_is_err_and c.from_residual-in_err-followed_by.result c.from_residual-in_err-followed_by.ensures.1 in
    rw fault.1 (answer_lost c.args.new c.args.max (length gone) files _ fault.0 none excess fault.2
    (c.in_ok-remove_all.ensures.told (staged_anew c.args.new files) made))

pub returns-clause-told : goal.returns-clause-told
returns-clause-told g c = λ files told.
    let were = c.in_ok-indices.indices.items in
    let now = c.promote.new.indices.items in
    let gone = c.split_at.result.0.now in
    let left = c.split_at.result.1.now in
    let small : highest were + 1 ≤ 999999999 = omega (arith, ap highest c.as_slice.ensures.value, c.in_ok-next.ensures.ok.1, c.in_ok-next.ensures.ok.2) in
    let listed = c.in_ok-indices.ensures.told files told in
    let none : rotation_fault (indices_of files) ≡ None = ap rotation_fault (sym (c.as_slice.ensures.value ∙ listed)) ∙ c.in_ok-next.ensures.ok.0 in
    let many : length gone ≡ length now - (c.args.max - 1) = omega (arith, c.split_at.ensures.front_len) in
    let excess = gone_is_excess c.args.new c.args.max files were now gone c.in_ok-indices.ensures.indices small listed c.in_ok-promote.ensures.indices c.requires.least many in
    let made = c.in_ok-write.ensures.told (promoted files) (c.in_ok-promote.ensures.told files (c.list.ensures.looks.files ∙ told)) in
    let answer = c.in_ok-followed_by.field-0.items in
    let answered : answer ≡ 0 ∷ left = c.in_ok-followed_by.ensures ∙ ap (λ l. l ++ left) c.in_ok-answer.ensures in
    let behind : left ≡ drop (length gone) now =
    c.split_at.ensures.back ∙ ap (drop c.saturating_sub-excess.result) c.as_slice-2.ensures.value ∙ ap (λ n. drop n now) (sym c.split_at.ensures.front_len) in (
      none,
      c.in_ok-remove_all.ensures.told (staged_anew c.args.new files) made ∙ ap (λ n. Some (removed n (staged_anew c.args.new files))) excess,
      left_is c.args.new c.args.max files were now gone left answer c.in_ok-indices.ensures.indices small listed c.in_ok-promote.ensures.indices
          excess (omega (arith, many)) behind answered,
    )

pub returns-clause-indices : goal.returns-clause-indices
returns-clause-indices g c =
    let were = c.in_ok-indices.indices.items in
    let now = c.promote.new.indices.items in
    let left = c.split_at.result.1.now in
    let small : highest were + 1 ≤ 999999999 = omega (arith, ap highest c.as_slice.ensures.value, c.in_ok-next.ensures.ok.1, c.in_ok-next.ensures.ok.2) in
    let answer = c.in_ok-followed_by.field-0.items in
    let answered : answer ≡ 0 ∷ left = c.in_ok-followed_by.ensures ∙ ap (λ l. l ++ left) c.in_ok-answer.ensures in
    let few : length left + 1 ≤ c.args.max = omega (arith, c.split_at.ensures.back_len) in
    are_rotated c.args.max c.saturating_sub-excess.result were now left answer c.in_ok-indices.ensures.indices small c.in_ok-promote.ensures.indices
    (c.split_at.ensures.back ∙ ap (drop c.saturating_sub-excess.result) c.as_slice-2.ensures.value) few answered
