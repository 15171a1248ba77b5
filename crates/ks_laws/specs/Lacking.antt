-- What a step that lacks a fact asks for, and of which token, password or secret of its call.
use Rattle.std.specs.Prelude.{◌≡◌, ◌⊎◌, ℕ, ◌≤◌, Bool, List, length, Option, Some, None, IfSome, option_map}
use Rattle.std.specs.Option.{option_and_then}
use Rattle.ks_base.specs.declared.app_creds.AppCredRow.{AppCredRow}
use Rattle.ks_base.specs.declared.users.PasswordRow.{PasswordRow}
use Rattle.ks_base.specs.declared.users.UserRow.{UserRow}
use Rattle.ks_base.specs.Rows.{Id, Rows, Text, user_of}
use Rattle.ks_base.specs.Tables.{Among}
use Rattle.ks_laws.specs.Orderly.{Each}
use Rattle.ks_machine.specs.declared.bodies.AppCredBody.{AppCredBody}
use Rattle.ks_machine.specs.declared.bodies.LoginBody.{LoginBody}
use Rattle.ks_machine.specs.declared.bodies.Made.TheVariants as made
use Rattle.ks_machine.specs.declared.bodies.MfaIn.{MfaIn}
use Rattle.ks_machine.specs.declared.bodies.Proof.{Proof}
use Rattle.ks_machine.specs.declared.bodies.Proof.TheVariants as proof
use Rattle.ks_machine.specs.declared.bodies.ScopeIn.{ScopeIn}
use Rattle.ks_machine.specs.declared.call.Call.{Call}
use Rattle.ks_machine.specs.declared.command.Command.{Command}
use Rattle.ks_machine.specs.declared.command.Command.TheVariants as command
use Rattle.ks_machine.specs.AppCredCommands.{secret_of_draw}
use Rattle.ks_machine.specs.Attempts.{Known, Lack, Keys, Stored, Fresh}
use Rattle.ks_machine.specs.Outcomes as outcomes
use Rattle.ks_machine.specs.Ranges.{AreRounds}
use Rattle.ks_machine.specs.Scopes.{cred_in, user_in}
use Rattle.ks_machine.specs.States.{State}

-- | what is kept of a user's password
abbrev pub password_in : Option UserRow → Option PasswordRow
password_in user = option_and_then (λ row. row.password) user

-- | what is kept of the password, or of the secret of an application credential, that a login shows
abbrev pub kept_of : Rows → Proof → Option PasswordRow
kept_of rows (proof.Password user password) = password_in (user_in rows user)
kept_of rows (proof.AppCred named secret) = option_map (λ cred. cred.secret) (cred_in rows named)
kept_of rows (proof.Both user password coded code) = password_in (user_in rows user)
kept_of rows (proof.Token text) = None
kept_of rows (proof.Totp user code) = None

-- | it is what a command tests against: what a login shows, or the password that is changed
abbrev pub IsTestedRow : Rows → Command → PasswordRow → Type 0
IsTestedRow rows asked row =
    ((body : LoginBody) × (asked ≡ command.Login body) × (kept_of rows body.proof ≡ Some row))
    ⊎ ((id : Id) × (original : Text) × (new : Text) × (asked ≡ command.ChangePassword id original new)
    × (password_in (user_of id rows.users) ≡ Some row))

-- | a row that stands keeps this salt and these rounds of what the command tests
pub record IsKept (rows : Rows) (asked : Command) (salt : List ℕ) (rounds : ℕ) : Type 0 where
  pub row : PasswordRow
  pub tested : IsTestedRow rows asked row
  pub salt_is : row.salt ≡ salt
  pub rounds_are : row.rounds ≡ rounds

-- | it can be found out: there are keys, and each is held; or rounds are in range, of the salt that is kept with them, or of the 16 bytes
-- that were drawn for the rounds of the settings
abbrev pub IsLack : State → Call → Lack → Type 0
IsLack S call (Keys keys) = (1 ≤ length keys) × Each (Among S.ring.held) keys
IsLack S call (Stored salt rounds) = IsKept S.rows call.command salt rounds × AreRounds rounds
IsLack S call (Fresh salt rounds) =
    (salt ≡ outcomes.salt call.draw) × (length salt ≡ 16) × (rounds ≡ S.settings.rounds) × AreRounds rounds

-- | each password and each secret that is kept has a salt of 16 bytes
pub record AreSalted (rows : Rows) : Type 0 where
  pub users : Each (λ (user : UserRow). IfSome user.password (λ (row : PasswordRow). length row.salt ≡ 16)) rows.users
  pub app_creds : Each (λ (cred : AppCredRow). length cred.secret.salt ≡ 16) rows.app_creds

-- texts of tokens, passwords and secrets

-- | the token of who asks, that which is asked about, or that by which a login is
abbrev pub IsTokenOf : Call → Text → Type 0
IsTokenOf call text =
    (call.caller ≡ Some text) ⊎ (call.subject ≡ Some text)
    ⊎ ((scope : ScopeIn) × (call.command ≡ command.Login (record { proof = proof.Token text; scope = scope })))

-- | the password or the secret that a login shows
abbrev pub secret_in : Proof → Option Text
secret_in (proof.Password user password) = Some password
secret_in (proof.AppCred named secret) = Some secret
secret_in (proof.Both user password coded code) = Some password
secret_in (proof.Token text) = None
secret_in (proof.Totp user code) = None

-- | a password or a secret that is tested: that of a login, or the original one of a change
abbrev pub IsTestedOf : Command → Text → Type 0
IsTestedOf asked password =
    ((body : LoginBody) × (asked ≡ command.Login body) × (secret_in body.proof ≡ Some password))
    ⊎ ((id : Id) × (new : Text) × (asked ≡ command.ChangePassword id password new))

-- | a password or a secret that is to be kept: the new one of a change, that of a user who is made or changed, or that of a new
-- application credential, which may be drawn
abbrev pub IsNewOf : Call → Text → Type 0
IsNewOf call password =
    ((id : Id) × (original : Text) × (call.command ≡ command.ChangePassword id original password))
    ⊎ ((given : Option Id) × (name : Option Text) × (domain : Option Id) × (enabled : Option Bool) × (factors : Option MfaIn)
    × (call.command ≡ command.Create (made.User given name domain (Some password) enabled factors)))
    ⊎ ((id : Id) × (given : Option Id) × (name : Option Text) × (domain : Option Id) × (enabled : Option Bool) × (factors : Option MfaIn)
    × (call.command ≡ command.Update id (made.User given name domain (Some password) enabled factors)))
    ⊎ ((user : Id) × (body : AppCredBody) × (call.command ≡ command.CreateAppCred user body)
    × (secret_of_draw call.draw body.secret ≡ password))

-- | it is not known: what the keys make of a token of the call, or what is derived from a password or a secret of it that is tested, or is
-- to be kept
abbrev pub IsUnknown : Known → Call → Lack → Type 0
IsUnknown known call (Keys keys) = (text : Text) × IsTokenOf call text × Each (λ key. known.answer key text ≡ None) keys
IsUnknown known call (Stored salt rounds) = (password : Text) × IsTestedOf call.command password × (known.derive password salt rounds ≡ None)
IsUnknown known call (Fresh salt rounds) = (password : Text) × IsNewOf call password × (known.derive password salt rounds ≡ None)
