-- What is told of application credentials and of secrets of one-time codes.
-- Source: Identity API v3, application credentials and credentials; RFC 4648, section 6.
use Rattle.std.specs.Prelude.{ℕ, List, [], ◌∷◌, ◌++◌, Option, Some, codes}
use Rattle.serde_json.specs.Data.{Data, boolean, null, string}
use Rattle.ks_base.specs.declared.app_creds.AppCredRow.{AppCredRow}
use Rattle.ks_base.specs.declared.factors.SecretRow.{SecretRow}
use Rattle.ks_totp.specs.Base32.{base32_of}
use Rattle.ks_machine.specs.declared.body_out.Titled.{Titled}
use Rattle.ks_render.specs.Values.{entry_of, moment_value, object_of, or_null}
use Rattle.ks_render.specs.Named.{self_value, titles_value}

-- | where the application credentials of a user stand: below it
abbrev pub app_creds_place : List ℕ → List ℕ
app_creds_place user = codes "/v3/users/" ++ (user ++ codes "/application_credentials/")

-- what is told of one: nothing of what is kept of its secret; the secret itself is given where it is to be told
unfoldable pub app_cred_value : List ℕ → AppCredRow → List Titled → Option (List ℕ) → Data
app_cred_value url cred roles secret =
    object_of (
    (codes "description", string cred.description)
    ∷ (codes "expires_at", or_null moment_value cred.expires)
    ∷ (codes "id", string cred.id)
    ∷ (codes "links", self_value url (app_creds_place cred.user) cred.id)
    ∷ (codes "name", string cred.name)
    ∷ (codes "project_id", string cred.project)
    ∷ (codes "roles", titles_value roles)
    ∷ (entry_of (codes "secret") string secret
    ++ ((codes "unrestricted", boolean cred.unrestricted)
    ∷ (codes "user_id", string cred.user) ∷ [])))

-- {"application_credential": ..} with its secret, which is told this once
unfoldable pub app_cred_made : List ℕ → AppCredRow → List Titled → List ℕ → Data
app_cred_made url cred roles secret = object_of ((codes "application_credential", app_cred_value url cred roles (Some secret)) ∷ [])

-- what is told of a secret of one-time codes, whose text is base32 without padding (RFC 4648, section 6): it is of no project
unfoldable pub secret_value : List ℕ → SecretRow → Data
secret_value url row =
    object_of (
    (codes "blob", string (base32_of row.secret))
    ∷ (codes "id", string row.id)
    ∷ (codes "links", self_value url (codes "/v3/credentials/") row.id)
    ∷ (codes "project_id", null)
    ∷ (codes "type", string (codes "totp"))
    ∷ (codes "user_id", string row.user) ∷ [])
