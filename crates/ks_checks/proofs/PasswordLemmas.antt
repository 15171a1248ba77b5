-- A password that is tested, whose fact is lacking.
use Rattle.std.proofs.Common.{◌≡◌, None, refl}
use Rattle.ks_base.specs.declared.users.PasswordRow.{PasswordRow}
use Rattle.ks_base.specs.Rows.{Text}
use Rattle.ks_machine.specs.Attempts.{Known, Lacks, Stored}
use Rattle.ks_machine.specs.Login.{is_password}

pub lacks_stored : {E : Type 0} (known : Known) (row : PasswordRow) (password : Text) → known.derive password row.salt row.rounds ≡ None →
    is_password {E = E} known row password ≡ Lacks (Stored row.salt row.rounds)
unfolding is_password
lacks_stored known row password none = rw none refl
