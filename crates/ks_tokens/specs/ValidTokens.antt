-- When a text is a valid token, as a relation: nothing of it is a list that is computed.
-- Source: Fernet specification; Keystone's guide to Fernet keys; Identity API v3, tokens, role assignments and application credentials;
-- OS-TRUST; OS-REVOKE.
use Rattle.std.specs.Prelude.{◌≡◌, ◌↔◌, ℕ, ◌+◌, ◌<◌, ◌≤◌, Bool, true, false, List, ◌∷◌, ◌++◌, Option, Some, None}
use Rattle.std.specs.List.{AllByRecursion}
use Rattle.ks_base.specs.declared.app_creds.AppCredRow.{AppCredRow}
use Rattle.ks_base.specs.declared.events.EventRow.{EventRow}
use Rattle.ks_base.specs.declared.grants.Target.TheVariants as target
use Rattle.ks_base.specs.declared.trusts.TrustRow.{TrustRow}
use Rattle.ks_base.specs.AppCreds.{cred_of}
use Rattle.ks_base.specs.Revocation.{matches}
use Rattle.ks_base.specs.Roles.{Effective, IsImplied}
use Rattle.ks_base.specs.Rows.{Id, Text, Rows, trust_of}
use Rattle.ks_base.specs.Tables.{Among, IsAscending, id_cmp}
use Rattle.ks_base.specs.Trusts.{first_trustor}
use Rattle.ks_fernet.specs.declared.opening.OpenAnswer.TheVariants.{No, Yes}
use Rattle.ks_fernet.specs.Opening.{open_of}
use Rattle.ks_machine.specs.States.{State, is_user_on}
use Rattle.ks_machine.specs.TokenLines.{end_of}
use Rattle.ks_machine.specs.Validity.{Valid, holder, is_cred_line, is_scope_on, is_scoped, is_system, is_trust_line}
use Rattle.ks_payload.specs.declared.payload.Payload.{Payload}
use Rattle.ks_payload.specs.Readings.{payload_of}
use Rattle.ks_ring.specs.declared.held_key.HeldKey.{HeldKey}

-- | a held key opens the text, of which those before it in the ring's order make nothing: it was sealed at this time, over these bytes
pub record IsOpened (keys : List HeldKey) (text : Text) (issued : ℕ) (plain : List ℕ) : Type 0 where
  pub before : List HeldKey
  pub held : HeldKey
  pub behind : List HeldKey
  pub are : keys ≡ before ++ held ∷ behind
  pub none_before : AllByRecursion (λ key. open_of key.key text ≡ No) before
  pub opens : open_of held.key text ≡ Yes issued plain

-- | a role of a token, by its trust, its application credential, its project and its domain: one that the roles of the trust or of the
-- credential imply, or one that is effective for its user at its scope
abbrev pub IsRoleBy : Rows → Payload → Option Id → Option Id → Option Id → Option Id → Id → Type 0
IsRoleBy rows payload (Some trust) credential project domain role =
    (row : TrustRow) × (trust_of trust rows.trusts ≡ Some row) × IsImplied rows.implications row.roles role
IsRoleBy rows payload None (Some credential) project domain role =
    (row : AppCredRow) × (cred_of credential rows.app_creds ≡ Some row) × IsImplied rows.implications row.roles role
IsRoleBy rows payload None None (Some project) domain role = Effective rows payload.user (target.Project project) role
IsRoleBy rows payload None None None (Some domain) role = Effective rows payload.user (target.Domain domain) role
IsRoleBy rows payload None None None None role = (is_system payload ≡ true) × Effective rows payload.user target.System role

abbrev pub IsRole : Rows → Payload → Id → Type 0
IsRole rows payload role = IsRoleBy rows payload payload.trust payload.credential payload.project payload.domain role

-- | these are its roles, in their order; there is one where it has a scope, each is still effective for the first trustor of its trust, and
-- each that the roles of its application credential imply is still effective for the credential's user
pub record HasRoles (rows : Rows) (payload : Payload) (roles : List Id) : Type 0 where
  pub order : IsAscending id_cmp (λ id. id) roles
  pub are : (role : Id) → Among roles role ↔ IsRole rows payload role
  pub some : is_scoped payload ≡ true → (role : Id) × IsRole rows payload role
  pub kept : (id : Id) (trust : TrustRow) (role : Id) → payload.trust ≡ Some id → trust_of id rows.trusts ≡ Some trust → IsRole rows payload role
      → Effective rows (first_trustor rows.trusts trust) (target.Project trust.project) role
  pub had : (id : Id) (cred : AppCredRow) (role : Id) → payload.credential ≡ Some id → cred_of id rows.app_creds ≡ Some cred
      → IsImplied rows.implications cred.roles role → Effective rows cred.user (target.Project cred.project) role

-- | the text is a valid token in this state: opened by a held key to its payload, in time, matched by no event of the whole history, with a
-- user, a scope, a trust, an application credential and roles that hold; `late` says whether the request allows an expired one
pub record IsValid (S : State) (moment : ℕ) (late : Bool) (text : Text) (token : Valid) : Type 0 where
  pub plain : List ℕ
  pub opened : IsOpened S.ring.held text token.issued plain
  pub payload : payload_of plain ≡ Some token.payload
  -- it is in time
  pub past : token.issued ≤ moment
  pub unexpired : moment < end_of late token.payload.expires
  pub span : token.payload.expires ≤ token.issued + S.settings.life
  -- no event of the whole history matches it
  pub unmatched : (event : EventRow) → Among S.events event → matches event (holder S.rows token.payload) token.issued ≡ false
  -- its user, its scope, its trust, its application credential and its roles hold
  pub user : is_user_on S.rows token.payload.user ≡ true
  pub scope : is_scope_on S.rows token.payload ≡ true
  pub trust : is_trust_line S.rows moment token.payload ≡ true
  pub credential : is_cred_line S.rows moment token.payload ≡ true
  pub roles : HasRoles S.rows token.payload token.roles
