-- What is told of a token.
-- Source: Identity API v3; RFC 4648, section 5.
use Rattle.std.specs.Prelude.{ℕ, ◌==◌, if◌then◌else◌, Bool, true, false, List, [], ◌∷◌, ◌++◌, Option, Some, None, bit_and, codes}
use Rattle.base64.specs.Engines.{url_safe_no_pad}
use Rattle.base64.specs.GeneralPurpose.{encode_of}
use Rattle.serde_json.specs.Data.{Data, null, boolean, string}
use Rattle.ks_machine.specs.declared.body_out.Homed.{Homed}
use Rattle.ks_machine.specs.declared.body_out.TokenOut.{TokenOut}
use Rattle.ks_machine.specs.declared.body_out.TrustUse.{TrustUse}
use Rattle.ks_time.specs.TimeTexts.{time_text}
use Rattle.ks_render.specs.Catalog.{services_told}
use Rattle.ks_render.specs.Values.{Entry, array_of, entry_of, object_of}
use Rattle.ks_render.specs.Named.{id_value, titled_value, titles_value, homed_value}

-- an audit id: its bytes in base64url (RFC 4648, section 5) without padding
unfoldable pub audit_value : List ℕ → Data
audit_value audit = string (encode_of url_safe_no_pad audit)

-- that of the token with which the chain began, if that is another one
abbrev pub chain_values : Option (List ℕ) → List Data
chain_values None = []
chain_values (Some chain) = audit_value chain ∷ []

-- the token's own, and then the chain's
unfoldable pub audit_ids : TokenOut → Data
audit_ids told = array_of (audit_value told.audit ∷ chain_values told.chain)

-- the word of a method, where its bit is set
unfoldable pub method_values : ℕ → ℕ → List ℕ → List Data
method_values methods bit word = if bit_and methods bit == 0 then [] else string word ∷ []

-- by which methods the user was shown to be who it is
unfoldable pub methods_value : ℕ → Data
methods_value methods =
    array_of (
    method_values methods 1 (codes "password")
    ++ (method_values methods 2 (codes "token")
    ++ (method_values methods 4 (codes "totp")
    ++ method_values methods 8 (codes "application_credential"))))

-- the trust that a token is of
unfoldable pub trust_use_value : TrustUse → Data
trust_use_value trust =
    object_of (
    (codes "id", string trust.id)
    ∷ (codes "impersonation", boolean trust.impersonation)
    ∷ (codes "trustee_user", id_value trust.trustee)
    ∷ (codes "trustor_user", id_value trust.trustor) ∷ [])

-- the user of a token; passwords do not expire
unfoldable pub user_told : Homed → Data
user_told user =
    object_of (
    (codes "domain", titled_value user.domain)
    ∷ (codes "id", string user.id)
    ∷ (codes "name", string user.name)
    ∷ (codes "password_expires_at", null) ∷ [])

-- {"all": true}, where a token is for the whole system
unfoldable pub system_value : Data
system_value = object_of ((codes "all", boolean true) ∷ [])

abbrev pub system_entries : Bool → List Entry
system_entries false = []
system_entries true = (codes "system", system_value) ∷ []

-- | a token with a scope has its catalog and its roles, and one of a project tells that the project is no domain
unfoldable pub token_value : TokenOut → Data
token_value told =
    object_of (
    entry_of (codes "OS-TRUST:trust") trust_use_value told.trust
    ++ ((codes "audit_ids", audit_ids told)
    ∷ (entry_of (codes "catalog") services_told told.catalog
    ++ (entry_of (codes "domain") titled_value told.domain
    ++ ((codes "expires_at", string (time_text told.expires))
    ∷ (entry_of (codes "is_domain") (λ project. boolean false) told.project
    ++ ((codes "issued_at", string (time_text told.issued))
    ∷ (codes "methods", methods_value told.methods)
    ∷ (entry_of (codes "project") homed_value told.project
    ++ (entry_of (codes "roles") titles_value told.roles
    ++ (system_entries told.system
    ++ ((codes "user", user_told told.user) ∷ [])))))))))))

-- {"token": ..}
unfoldable pub token_body : TokenOut → Data
token_body told = object_of ((codes "token", token_value told) ∷ [])
