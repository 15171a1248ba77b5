-- What holds of valid tokens: a trust gives no more than its first trustor has, and what was ended is refused ever after.
-- Source: Identity API v3, application credentials; OS-TRUST; OS-REVOKE.
use Rattle.std.specs.Prelude.{◌≡◌, ◌⊎◌, ℕ, ◌≤◌, Bool, true, false, Some, None}
use Rattle.ks_base.specs.declared.app_creds.AppCredRow.{AppCredRow}
use Rattle.ks_base.specs.declared.grants.Target.TheVariants as target
use Rattle.ks_base.specs.declared.trusts.TrustRow.{TrustRow}
use Rattle.ks_base.specs.AppCreds.{cred_of}
use Rattle.ks_base.specs.Revocation.{is_revoked}
use Rattle.ks_base.specs.Roles.{Effective}
use Rattle.ks_base.specs.Rows.{Id, Text, trust_of}
use Rattle.ks_base.specs.Tables.{Among}
use Rattle.ks_base.specs.Trusts.{first_trustor}
use Rattle.ks_machine.specs.declared.call.Call.{Call}
use Rattle.ks_machine.specs.declared.change.Change.{Change}
use Rattle.ks_machine.specs.declared.change.Change.TheVariants as change
use Rattle.ks_machine.specs.declared.reply.Reply.{Reply}
use Rattle.ks_machine.specs.Admission.{caller_of}
use Rattle.ks_machine.specs.Attempts.{Go, Known}
use Rattle.ks_machine.specs.Fronts.{Front, ◌⊑◌, replay}
use Rattle.ks_machine.specs.Lawful.{IsLawful}
use Rattle.ks_machine.specs.States.{State, raised}
use Rattle.ks_machine.specs.Steps.{Replies, step_at}
use Rattle.ks_machine.specs.Validity.{Valid, cred_in_payload, holder, validity}
use Rattle.ks_payload.specs.declared.payload.Payload.{Payload}

-- the trust of a valid token stands
abbrev pub HasItsTrust : Type 0
HasItsTrust =
    (known : Known) (S : State) (moment : ℕ) (late : Bool) (text : Text) (token : Valid) (id : Id)
    → validity known S moment late text ≡ Go token
    → token.payload.trust ≡ Some id
    → (trust : TrustRow) × (trust_of id S.rows.trusts ≡ Some trust)

-- law: and each of the token's roles is effective for the trust's first trustor at the trust's project
abbrev pub IsTrustBound : Type 0
IsTrustBound =
    (known : Known) (S : State) (moment : ℕ) (late : Bool) (text : Text) (token : Valid) (id : Id) (trust : TrustRow) (role : Id)
    → validity known S moment late text ≡ Go token
    → token.payload.trust ≡ Some id
    → trust_of id S.rows.trusts ≡ Some trust
    → Among token.roles role
    → Effective S.rows (first_trustor S.rows.trusts trust) (target.Project trust.project) role

-- law: the application credential of a valid token stands, and each of the token's roles is effective for its user on its project
abbrev pub IsCredBound : Type 0
IsCredBound =
    (known : Known) (S : State) (moment : ℕ) (late : Bool) (text : Text) (token : Valid) (id : Id) (role : Id)
    → validity known S moment late text ≡ Go token
    → token.payload.trust ≡ None
    → token.payload.credential ≡ Some id
    → Among token.roles role
    → (cred : AppCredRow) × (cred_of id S.rows.app_creds ≡ Some cred) × (cred.user ≡ token.payload.user)
    × Effective S.rows cred.user (target.Project cred.project) role

-- | what a token of a restricted credential may not do: it makes no trust and no credential, and ends none
abbrev pub IsForUnrestricted : Change → Type 0
IsForUnrestricted what =
    ((row : TrustRow) × (what ≡ change.PutTrust row)) ⊎ (((row : AppCredRow) × (what ≡ change.PutAppCred row)) ⊎ ((id : Id) × (what ≡ change.DropAppCred id)))

-- law: no call by a token whose application credential is restricted makes such a change
abbrev pub AreRestrictedHeldBack : Type 0
AreRestrictedHeldBack =
    (known : Known) (S : State) (moment : ℕ) (call : Call) (caller : Valid) (cred : AppCredRow) (told : Reply) (what : Change)
    → caller_of known (raised S moment) moment call.caller ≡ Go caller
    → cred_in_payload S.rows caller.payload ≡ Some cred
    → cred.unrestricted ≡ false
    → step_at known S moment call ≡ Replies told (Some what)
    → IsForUnrestricted what → ⊥

-- law: what a revocation of the whole history ends in a front is valid in no front that goes on from it, with and without the window for
-- expired tokens, also where its user, project, domain or trust went and the id was drawn again
abbrev pub IsRefusedEverAfter : Type 0
IsRefusedEverAfter =
    (f g : Front) (payload : Payload) (issued : ℕ)
    → IsLawful g → f ⊑ g → issued ≤ f.high
    → is_revoked (replay f).events (holder (replay f).rows payload) issued ≡ true
    → (known : Known) (moment : ℕ) (late : Bool) (text : Text) (token : Valid)
    → validity known (replay g) moment late text ≡ Go token
    → token.payload ≡ payload → token.issued ≡ issued → ⊥
