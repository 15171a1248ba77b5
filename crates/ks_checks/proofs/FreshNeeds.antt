-- A new password whose fact is lacking.
use Rattle.std.proofs.Common.{◌≡◌, ℕ, List, None, refl, sym}
use Rattle.ks_base.specs.declared.receipt.Drawn.{Drawn}
use Rattle.ks_base.specs.Rows.{Text}
use Rattle.ks_machine.specs.Attempts.{Fresh, Known, Lacks}
use Rattle.ks_machine.specs.Outcomes.{salt}
use Rattle.ks_machine.specs.Passwords.{derived}
use Rattle.ks_machine.specs.States.{State}

pub lacks_fresh : {E : Type 0} (known : Known) (S : State) (drawn : Drawn) (password : Text) (drawn_salt : List ℕ) (rounds : ℕ) →
    drawn_salt ≡ salt drawn → S.settings.rounds ≡ rounds → known.derive password drawn_salt rounds ≡ None →
    derived {E = E} known S drawn password ≡ Lacks (Fresh drawn_salt rounds)
unfolding derived
lacks_fresh known S drawn password drawn_salt rounds is same none = rw (sym is, same, none) refl
