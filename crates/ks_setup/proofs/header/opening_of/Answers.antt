use Rattle.std.proofs.Common.{Ok, ◌∙◌, ap, length, subst, sym}
use Rattle.ks_setup.specs.Openings.{passwords}
use Rattle.ks_setup.specs.Steps.{Checks}
use Rattle.ks_setup.proofs.header.opening_of.Goals as goal

pub returns-then-salts-passwords : goal.returns-then-salts-passwords
returns-then-salts-passwords c =
    let checked = c.in_ok-checked.checked in
    let header = c.args.header.now in
    let same_keys : Checks c.as_slice.result.now header.keys (Ok checked) =
    subst (λ held. Checks c.as_slice.result.now held (Ok checked)) c.as_slice-2.ensures (c.in_ok-checked.ensures.checks c.as_slice.result.now c.in_ok-file.ensures.form) in
    let h : Checks header.opening header.keys (Ok checked) =
    subst (λ text. Checks text header.keys (Ok checked)) c.as_slice.ensures same_keys in
    let lengths = ap length c.as_slice-salts.ensures in
    let count = c.passwords.ensures ∙ ap passwords c.as_slice-3.ensures in (
      ((checked.written, h.0), (checked.rules, h.1)),
      (checked.written, h.0, (checked.ring, h.2), λ same. c.if-salts-passwords.true (lengths ∙ sym same ∙ sym count)),
    )
