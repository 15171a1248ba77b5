-- Secrets of one-time codes (Identity API v3, credentials of type totp).
-- Source: Identity API v3, credentials of type `totp`.
use Rattle.std.specs.Prelude.{true, false, map, codes}
use Rattle.ks_base.specs.declared.factors.SecretRow.{SecretRow}
use Rattle.ks_base.specs.declared.receipt.Drawn.{Drawn}
use Rattle.ks_base.specs.Factors.{add_secret_fault}
use Rattle.ks_base.specs.Rows.{Id, Text, Rows}
use Rattle.ks_machine.specs.declared.bodies.SecretBody.{SecretBody}
use Rattle.ks_machine.specs.declared.body_out.BodyOut.TheVariants as body
use Rattle.ks_machine.specs.declared.body_out.Row.TheVariants as row
use Rattle.ks_machine.specs.declared.cause.Cause.{Cause}
use Rattle.ks_machine.specs.declared.change.Change.TheVariants as change
use Rattle.ks_machine.specs.Attempts.{Attempt, Go, ◌>>=◌}
use Rattle.ks_machine.specs.Outcomes.{Outcome, changes, made_id, tells}
use Rattle.ks_machine.specs.Tables.{factors, standing_secret, standing_user, unless_row}

-- secrets of codes
unfoldable pub create_secret : Rows → Drawn → SecretBody → Attempt Cause Outcome
create_secret rows drawn asked = do
  _ ← standing_user rows asked.user
  let new : SecretRow = record { id = made_id drawn; user = asked.user; secret = asked.secret }
  _ ← unless_row (add_secret_fault (factors rows) new)
  Go (changes (change.PutSecret new) (body.One (row.Secret new) true))

abbrev pub secrets_path : Text
secrets_path = codes "/v3/credentials"

unfoldable pub list_secrets : Rows → Outcome
list_secrets rows = tells (body.Secrets (map (λ found. row.Secret found) rows.secrets) secrets_path)

unfoldable pub get_secret : Rows → Id → Attempt Cause Outcome
get_secret rows id = do
  secret ← standing_secret rows id
  Go (tells (body.One (row.Secret secret) false))

unfoldable pub delete_secret : Rows → Id → Attempt Cause Outcome
delete_secret rows id = do
  _ ← standing_secret rows id
  Go (changes (change.DropSecret id) body.Nothing)
