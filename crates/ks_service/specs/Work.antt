-- The work that decisions ask for: to open the texts of tokens, and to derive passwords.
use Rattle.std.specs.Prelude.{◌≡◌, ◌⊎◌, ℕ, Bool, true, false, List, [], ◌∷◌, Option, Some, None, IfSome}
use Rattle.ks_base.specs.declared.receipt.Drawn.{Drawn}
use Rattle.ks_base.specs.Rows.{Text}
use Rattle.ks_auth.specs.Facts.{FactsState, has_derived, has_opened}
use Rattle.ks_fernet.specs.declared.opening.OpenAnswer.{OpenAnswer}
use Rattle.ks_fernet.specs.declared.opening.OpenAnswer.TheVariants.{NotText, No, Yes}
use Rattle.ks_fernet.specs.Opening.{open_of}
use Rattle.ks_laws.specs.Lacking.{secret_in}
use Rattle.ks_machine.specs.declared.bodies.Made.{Made}
use Rattle.ks_machine.specs.declared.bodies.Made.TheVariants as made
use Rattle.ks_machine.specs.declared.bodies.Proof.{Proof}
use Rattle.ks_machine.specs.declared.bodies.Proof.TheVariants as proof
use Rattle.ks_machine.specs.declared.call.Call.{Call}
use Rattle.ks_machine.specs.declared.command.Command.{Command}
use Rattle.ks_machine.specs.declared.command.Command.TheVariants as command
use Rattle.ks_machine.specs.AppCredCommands.{secret_of_draw}
use Rattle.ks_machine.specs.Ranges.{AreRounds}
use Rattle.ks_checks.specs.declared.halt.Needs.{Needs}
use Rattle.ks_ring.specs.declared.held_key.HeldKey.{HeldKey}

-- | what a call has that only ciphers can test: the text of the token with which it logs in, the password or the secret that it shows,
-- and the one that it sets, which may be drawn
pub record SecretsState : Type 0 where
  pub token : Option Text
  pub shown : Option Text
  pub set : Option Text

abbrev pub no_secrets : SecretsState
no_secrets = record { token = None; shown = None; set = None }

-- | the text of the token that a login shows
abbrev pub token_in : Proof → Option Text
token_in (proof.Token text) = Some text
token_in (proof.Password user password) = None
token_in (proof.AppCred named secret) = None
token_in (proof.Totp user code) = None
token_in (proof.Both user password coded code) = None

-- what a command has of these
abbrev pub secrets_of_made : Made → SecretsState
secrets_of_made (made.User id name domain password enabled factors) = record { token = None; shown = None; set = password }
secrets_of_made (made.Domain id name description enabled) = no_secrets
secrets_of_made (made.Project id name domain parent description enabled) = no_secrets
secrets_of_made (made.Group id name domain description) = no_secrets
secrets_of_made (made.Role id name description) = no_secrets

abbrev pub secrets_of : Drawn → Command → SecretsState
secrets_of drawn (command.Login body) = record { token = token_in body.proof; shown = secret_in body.proof; set = None }
secrets_of drawn (command.ChangePassword user original password) = record { token = None; shown = Some original; set = Some password }
secrets_of drawn (command.Create made) = secrets_of_made made
secrets_of drawn (command.Update id made) = secrets_of_made made
secrets_of drawn command.Version = no_secrets
secrets_of drawn command.Versions = no_secrets
secrets_of drawn (command.Validate late) = no_secrets
secrets_of drawn (command.Check late) = no_secrets
secrets_of drawn command.RevokeToken = no_secrets
secrets_of drawn (command.List kind filter) = no_secrets
secrets_of drawn (command.Get kind id) = no_secrets
secrets_of drawn (command.Delete kind id) = no_secrets
secrets_of drawn (command.GroupsOf id) = no_secrets
secrets_of drawn (command.ProjectsOf id) = no_secrets
secrets_of drawn (command.MembersOf id) = no_secrets
secrets_of drawn (command.Join row) = no_secrets
secrets_of drawn (command.IsIn row) = no_secrets
secrets_of drawn (command.Leave row) = no_secrets
secrets_of drawn (command.Implied id) = no_secrets
secrets_of drawn (command.Imply row) = no_secrets
secrets_of drawn (command.Implication row) = no_secrets
secrets_of drawn (command.IsImplied row) = no_secrets
secrets_of drawn (command.Unimply row) = no_secrets
secrets_of drawn (command.GrantsOf who at inherited) = no_secrets
secrets_of drawn (command.Grant row) = no_secrets
secrets_of drawn (command.IsGranted row) = no_secrets
secrets_of drawn (command.Ungrant row) = no_secrets
secrets_of drawn (command.Assignments filter) = no_secrets
secrets_of drawn (command.CreateTrust body) = no_secrets
secrets_of drawn (command.Trusts filter) = no_secrets
secrets_of drawn (command.Trust id) = no_secrets
secrets_of drawn (command.DeleteTrust id) = no_secrets
secrets_of drawn (command.TrustRoles id) = no_secrets
secrets_of drawn command.Events = no_secrets
secrets_of drawn command.RotateKeys = no_secrets
secrets_of drawn command.LoadKeys = no_secrets
secrets_of drawn (command.CreateCatalog asked) = no_secrets
secrets_of drawn (command.ListCatalog kind filter) = no_secrets
secrets_of drawn (command.GetCatalog kind id) = no_secrets
secrets_of drawn (command.UpdateCatalog id asked) = no_secrets
secrets_of drawn (command.DeleteCatalog kind id) = no_secrets
secrets_of drawn command.ShowCatalog = no_secrets
secrets_of drawn (command.CreateAppCred user body) = record { token = None; shown = None; set = Some (secret_of_draw drawn body.secret) }
secrets_of drawn (command.ListAppCreds user) = no_secrets
secrets_of drawn (command.GetAppCred user id) = no_secrets
secrets_of drawn (command.DeleteAppCred user id) = no_secrets
secrets_of drawn (command.CreateSecret body) = no_secrets
secrets_of drawn command.ListSecrets = no_secrets
secrets_of drawn (command.GetSecret id) = no_secrets
secrets_of drawn (command.DeleteSecret id) = no_secrets

abbrev pub secrets_in : Call → SecretsState
secrets_in call = secrets_of call.draw call.command

-- facts

-- | no fact is lost: all that was known is known still
pub record AreKept (old new : FactsState) : Type 0 where
  pub opened : (held : HeldKey) (text : Text) → has_opened held text old.opened ≡ true → has_opened held text new.opened ≡ true
  pub derived : (password salt : List ℕ) (rounds : ℕ) → has_derived password salt rounds old.derived ≡ true → has_derived password salt rounds new.derived ≡ true

-- | the key opens the text
abbrev pub is_open : OpenAnswer → Bool
is_open NotText = false
is_open No = false
is_open (Yes time plain) = true

-- | what the keys make of the text is known, in their order, as far as the first that opens it
abbrev pub IsOpened : List HeldKey → FactsState → Text → Type 0
IsOpened [] facts text = Unit {0}
IsOpened (held ∷ keys) facts text =
    (has_opened held text facts.opened ≡ true) × ((is_open (open_of held.key text) ≡ true) ⊎ IsOpened keys facts text)

-- | what is derived of the password is known, with this salt and so many rounds
abbrev pub IsDerived : List ℕ × ℕ → FactsState → Text → Type 0
IsDerived by facts password = has_derived password by.0 by.1 facts.derived ≡ true

-- | the rounds with which passwords are to be derived have their range
pub record AreDerivable (needs : Needs) : Type 0 where
  pub stored : IfSome needs.stored (λ by. AreRounds by.1)
  pub fresh : IfSome needs.fresh (λ by. AreRounds by.1)

-- | the work is done: what the keys make of each token text of the call is known, as far as the first that opens it, and what is
-- derived of its passwords
pub record IsDone (needs : Needs) (call : Call) (facts : FactsState) : Type 0 where
  pub caller : IfSome call.caller (IsOpened needs.keys facts)
  pub subject : IfSome call.subject (IsOpened needs.keys facts)
  pub token : IfSome (secrets_in call).token (IsOpened needs.keys facts)
  pub stored : IfSome needs.stored (λ by. IfSome (secrets_in call).shown (IsDerived by facts))
  pub fresh : IfSome needs.fresh (λ by. IfSome (secrets_in call).set (IsDerived by facts))
