use Rattle.std.proofs.Common.{◌≡◌, length, arith, vec_len, eq-eqb, sym, ◌∙◌, ap, subst}
use Rattle.std.proofs.lemmas.Bool.{eqb-true}
use Rattle.ks_keyfiles.specs.Folders.{ReadsAs}
use Rattle.ks_keyfiles.proofs.ReadingLemmas.{folder_empty, folder_full, folder_read}
use Rattle.ks_keyfiles.proofs.reading.read_dir.Goals as goal

pub returns-then-is_empty-clause-told : goal.returns-then-is_empty-clause-told
returns-then-is_empty-clause-told g c = λ files told.
    let listed = c.in-Ok.ensures.told files told in
    let none : vec_len c.in-Ok.indices ≡ 0 = eqb-true (vec_len c.in-Ok.indices) 0 (sym c.if-is_empty.ensures) in
    folder_empty files (ap length (sym listed) ∙ omega (arith, none))

pub returns-then-len-gt-KEYS-clause-told : goal.returns-then-len-gt-KEYS-clause-told
returns-then-len-gt-KEYS-clause-told g c = λ files told.
    let listed = c.in-Ok.ensures.told files told in
    folder_full files (omega (arith, ap length listed, c.if-len-gt-KEYS.true))

pub returns-clause-told : goal.returns-clause-told
returns-clause-told g c = λ files told.
    let listed = c.in-Ok.ensures.told files told in
    let some : length c.in-Ok.indices.items ≡ 0 → ⊥ = λ e. cc (c.if-is_empty.ensures ∙ eq-eqb (vec_len c.in-Ok.indices) 0 (omega (arith, e))) in
    let now = c.list.ensures.looks.files ∙ told in
    subst (λ folder. ReadsAs folder c.read_files.result) (sym (folder_read files (λ e. some (ap length listed ∙ e)) (omega (arith, ap length listed, c.if-len-gt-KEYS.false)))) (c.read_files.ensures.told files now)
