-- New passwords, and the change of one's own.
-- Source: Identity API v3, users.
use Rattle.std.specs.Prelude.{Option, Some, None}
use Rattle.ks_base.specs.declared.receipt.Drawn.{Drawn}
use Rattle.ks_base.specs.declared.users.PasswordRow.{PasswordRow}
use Rattle.ks_base.specs.Rows.{Id, Text, user_of}
use Rattle.ks_machine.specs.declared.body_out.BodyOut.TheVariants as body
use Rattle.ks_machine.specs.declared.cause.Cause.{Cause}
use Rattle.ks_machine.specs.declared.change.Change.TheVariants as change
use Rattle.ks_machine.specs.Attempts.{Attempt, Go, Fresh, ◌>>=◌, Known, asked}
use Rattle.ks_machine.specs.Login.{by_password}
use Rattle.ks_machine.specs.Outcomes.{Outcome, changes, salt}
use Rattle.ks_machine.specs.States.{State}

-- what is kept of a new password: it is derived with the drawn salt, by the rounds of the settings
unfoldable pub derived : {E : Type 0} → Known → State → Drawn → Text → Attempt E PasswordRow
derived known S drawn password = do
  digest ← asked (Fresh (salt drawn) S.settings.rounds) (known.derive password (salt drawn) S.settings.rounds)
  Go (record { salt = salt drawn; rounds = S.settings.rounds; digest = digest })

-- the new password, or what was kept where none is given
unfoldable pub derived_or : {E : Type 0} → Known → State → Drawn → Option PasswordRow → Option Text → Attempt E (Option PasswordRow)
derived_or known S drawn kept None = Go kept
derived_or known S drawn kept (Some password) = do
  row ← derived known S drawn password
  Go (Some row)

-- the change of one's own
unfoldable pub change_password : Known → State → Drawn → Id → Text → Text → Attempt Cause Outcome
change_password known S drawn id original password = do
  user ← by_password known S.rows (user_of id S.rows.users) original
  row ← derived known S drawn password
  Go (changes (change.PutUser (record user { password = Some row })) body.Nothing)
