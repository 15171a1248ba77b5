-- The payload of an identity token: which payloads there are, and the bytes that spell each, in version 2 and in version 1.
use Rattle.std.specs.Prelude.{◌≡◌, ◌⊎◌, ℕ, ◌<◌, ◌≤◌, Bool, ◌||◌, ◌==◌, List, [], ◌∷◌, ◌++◌, length, slice_index, Option, Some, None, is_some, IfSome}
use Rattle.std.specs.Int.{w64, to_be_bytes}
use Rattle.ks_base.specs.declared.limits.TheConstants.{LAST_SECOND}
use Rattle.ks_base.specs.Ids.{IsId}
use Rattle.ks_payload.specs.IdFields.{id_field}
use Rattle.ks_payload.specs.declared.payload.Payload.{Payload}

-- The kinds: 0 is without a scope, 1 a domain, 2 a project, 3 a trust, which names its project too, 4 the system, which names
-- nothing, and 5 an application credential, which names its project too.
abbrev pub has_domain : ℕ → Bool
has_domain kind = kind == 1

abbrev pub has_project : ℕ → Bool
has_project kind = (kind == 2) || ((kind == 3) || (kind == 5))

abbrev pub has_trust : ℕ → Bool
has_trust kind = kind == 3

abbrev pub has_credential : ℕ → Bool
has_credential kind = kind == 5

abbrev pub IsSixteenBytes : List ℕ → Type 0
IsSixteenBytes id = (length id ≡ 16) × ((k : ℕ) → slice_index id k < 256)

-- the last second of the year 9999
abbrev pub last_expiry : ℕ
last_expiry = LAST_SECOND

-- the payloads that have a spelling: a kind from 0 to 5 with exactly its scope's ids, methods from 1 to 15, an expiry up to the year 9999,
-- audit ids of 16 bytes
pub record IsInRange (p : Payload) : Type 0 where
  pub kind : p.kind ≤ 5
  pub some_method : 1 ≤ p.methods
  pub methods : p.methods ≤ 15
  pub user : IsId p.user
  pub has_domain_id : is_some p.domain ≡ has_domain p.kind
  pub domain : IfSome p.domain IsId
  pub has_project_id : is_some p.project ≡ has_project p.kind
  pub project : IfSome p.project IsId
  pub has_trust_id : is_some p.trust ≡ has_trust p.kind
  pub trust : IfSome p.trust IsId
  pub expires : p.expires ≤ last_expiry
  pub audit : IsSixteenBytes p.audit
  pub chain : IfSome p.chain IsSixteenBytes
  pub has_credential_id : is_some p.credential ≡ has_credential p.kind
  pub credential : IfSome p.credential IsId

-- the field of an id that is there
abbrev pub field_if_any : Option (List ℕ) → List ℕ
field_if_any (Some id) = id_field id
field_if_any None = []

-- how many audit ids there are, and the ids
abbrev pub audit_field : List ℕ → Option (List ℕ) → List ℕ
audit_field audit None = 1 ∷ audit
audit_field audit (Some chain) = 2 ∷ (audit ++ chain)

-- nothing; the domain; the project; the project, then the trust; or the project, then the credential
abbrev pub scope_field : Payload → List ℕ
scope_field p = field_if_any p.domain ++ (field_if_any p.project ++ (field_if_any p.trust ++ field_if_any p.credential))

-- what stands behind the version, the same in both: kind, methods, user, scope, expiry, audit ids
abbrev pub fields : Payload → List ℕ
fields p = p.kind ∷ p.methods ∷ (id_field p.user ++ (scope_field p ++ (to_be_bytes w64 p.expires ++ audit_field p.audit p.chain)))

-- the spelling of version 2, the one that is written
unfoldable pub spelling : Payload → List ℕ
spelling p = 2 ∷ fields p

-- | the spelling of version 1, which has the kinds 0 to 3 alone
unfoldable pub old_spelling : Payload → List ℕ
old_spelling p = 1 ∷ fields p

-- the bytes are one of the two spellings
abbrev pub IsPayload : List ℕ → Payload → Type 0
IsPayload bytes p = IsInRange p × ((bytes ≡ spelling p) ⊎ ((p.kind ≤ 3) × (bytes ≡ old_spelling p)))
