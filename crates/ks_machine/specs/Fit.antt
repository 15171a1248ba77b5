-- What is asked of a call: what was drawn and read for it, and the ranges of its fields.
use Rattle.std.specs.Prelude.{◌≡◌, ℕ, ◌≤◌, Bool, true, false, not, ◌||◌, List, length, Option, Some, None, IfSome, is_some}
use Rattle.std.specs.List.{AllByRecursion}
use Rattle.ks_base.specs.declared.catalog.CatalogIn.{CatalogIn}
use Rattle.ks_base.specs.declared.catalog.CatalogKind.{CatalogKind}
use Rattle.ks_base.specs.declared.catalog.CatalogKind.TheVariants as of
use Rattle.ks_base.specs.declared.faults.KeysFault.TheVariants as keys
use Rattle.ks_base.specs.declared.grants.GrantRow.{GrantRow}
use Rattle.ks_base.specs.declared.grants.Target.{Target}
use Rattle.ks_base.specs.declared.grants.Target.TheVariants as target
use Rattle.ks_base.specs.declared.limits.TheConstants.{TRUST_ROLES}
use Rattle.ks_base.specs.declared.receipt.Drawn.{Drawn}
use Rattle.ks_base.specs.declared.receipt.Drawn.TheVariants.{Unused, Bytes, Failed}
use Rattle.ks_machine.specs.declared.bodies.AppCredBody.{AppCredBody}
use Rattle.ks_machine.specs.declared.bodies.CredNamed.{CredNamed}
use Rattle.ks_machine.specs.declared.bodies.CredNamed.TheVariants as cred_named
use Rattle.ks_machine.specs.declared.bodies.Made.{Made}
use Rattle.ks_machine.specs.declared.bodies.Made.TheVariants as made
use Rattle.ks_machine.specs.declared.bodies.Named.{Named}
use Rattle.ks_machine.specs.declared.bodies.Named.TheVariants as named
use Rattle.ks_machine.specs.declared.bodies.ProjectNamed.{ProjectNamed}
use Rattle.ks_machine.specs.declared.bodies.ProjectNamed.TheVariants as project_named
use Rattle.ks_machine.specs.declared.bodies.Proof.{Proof}
use Rattle.ks_machine.specs.declared.bodies.Proof.TheVariants as proof
use Rattle.ks_machine.specs.declared.bodies.ScopeIn.{ScopeIn}
use Rattle.ks_machine.specs.declared.bodies.ScopeIn.TheVariants as scope_in
use Rattle.ks_machine.specs.declared.bodies.TrustBody.{TrustBody}
use Rattle.ks_machine.specs.declared.bodies.UserNamed.{UserNamed}
use Rattle.ks_machine.specs.declared.bodies.UserNamed.TheVariants as user_named
use Rattle.ks_machine.specs.declared.call.Call.{Call}
use Rattle.ks_machine.specs.declared.call.FolderRead.{FolderRead}
use Rattle.ks_machine.specs.declared.call.FolderRead.TheVariants as folder
use Rattle.ks_machine.specs.declared.command.Command.{Command}
use Rattle.ks_machine.specs.declared.command.Command.TheVariants as command
use Rattle.ks_machine.specs.Actions.{requirements}
use Rattle.ks_machine.specs.Ranges.{AreMfaRules, AreUses, IsCode, IsCredSecret, IsDescription, IsEndpointUrl, IsExpiry, IsName, IsPassable, IsPassword, IsServiceText, IsTotpSecret}
use Rattle.ks_ring.specs.Rings.{refusal_of}

-- a command that draws has 64 bytes, or its draw failed
abbrev pub IsDraw : Drawn → Type 0
IsDraw (Bytes bytes) = length bytes ≡ 64
IsDraw Failed = Unit {0}
IsDraw Unused = ⊥

abbrev pub IsDrawFor : Bool → Drawn → Type 0
IsDrawFor true drawn = IsDraw drawn
IsDrawFor false drawn = Unit {0}

-- the folder was read: a list that is a ring, or a fault of reading
abbrev pub IsFolder : FolderRead → Type 0
IsFolder (folder.Keys found) = refusal_of found ≡ None
IsFolder (folder.Fault keys.Failed) = Unit {0}
IsFolder (folder.Fault keys.NoKeys) = Unit {0}
IsFolder (folder.Fault (keys.BadKey index)) = Unit {0}
IsFolder (folder.Fault keys.TooMany) = Unit {0}
IsFolder (folder.Fault keys.AlreadySet) = ⊥
IsFolder (folder.Fault keys.IndexEnd) = ⊥
IsFolder (folder.Fault keys.Memory) = ⊥
IsFolder folder.Unused = ⊥

abbrev pub IsFolderFor : Bool → FolderRead → Type 0
IsFolderFor true read = IsFolder read
IsFolderFor false read = Unit {0}

-- fields

abbrev pub IsNamed : Named → Type 0
IsNamed (named.Id id) = Unit {0}
IsNamed (named.Name name) = IsName name

abbrev pub IsUserNamed : UserNamed → Type 0
IsUserNamed (user_named.Id id) = Unit {0}
IsUserNamed (user_named.Name name domain) = IsName name × IsNamed domain

abbrev pub IsProjectNamed : ProjectNamed → Type 0
IsProjectNamed (project_named.Id id) = Unit {0}
IsProjectNamed (project_named.Name name domain) = IsName name × IsNamed domain

abbrev pub IsCredNamed : CredNamed → Type 0
IsCredNamed (cred_named.Id id) = Unit {0}
IsCredNamed (cred_named.Name name user) = IsName name × IsUserNamed user

abbrev pub IsProof : Proof → Type 0
IsProof (proof.Password user password) = IsUserNamed user × IsPassword password
IsProof (proof.Token text) = Unit {0}
IsProof (proof.AppCred named secret) = IsCredNamed named × IsCredSecret secret
IsProof (proof.Totp user code) = IsUserNamed user × IsCode code
IsProof (proof.Both user password coded code) = IsUserNamed user × IsPassword password × IsUserNamed coded × IsCode code

abbrev pub IsScope : ScopeIn → Type 0
IsScope scope_in.Nothing = Unit {0}
IsScope scope_in.Unscoped = Unit {0}
IsScope (scope_in.Domain domain) = IsNamed domain
IsScope (scope_in.Project project) = IsProjectNamed project
IsScope scope_in.System = Unit {0}
IsScope (scope_in.Trust id) = Unit {0}

-- no grant on the system is inherited
abbrev pub IsPlace : Target → Bool → Type 0
IsPlace (target.Project id) inherited = Unit {0}
IsPlace (target.Domain id) inherited = Unit {0}
IsPlace target.System inherited = inherited ≡ false

abbrev pub IsGrant : GrantRow → Type 0
IsGrant row = IsPlace row.target row.inherited

-- a body of a creation has its name, and no id
abbrev pub IsMadeName : Bool → Option (List ℕ) → Option (List ℕ) → Type 0
IsMadeName true id (Some name) = (id ≡ None) × IsName name
IsMadeName true id None = ⊥
IsMadeName false id name = IfSome name IsName

abbrev pub IsMade : Bool → Made → Type 0
IsMade new (made.Domain id name description enabled) = IsMadeName new id name × IfSome description IsDescription
IsMade new (made.Project id name domain parent description enabled) = IsMadeName new id name × IfSome description IsDescription
IsMade new (made.User id name domain password enabled factors) =
    IsMadeName new id name × IfSome password IsPassword × IfSome factors (λ said. AreMfaRules said.rules)
IsMade new (made.Group id name domain description) = IsMadeName new id name × IfSome description IsDescription
IsMade new (made.Role id name description) = IsMadeName new id name × IfSome description IsDescription

abbrev pub IsTrustBody : TrustBody → Type 0
IsTrustBody body =
    AllByRecursion IsNamed body.roles × (length body.roles ≤ TRUST_ROLES) × IfSome body.expires IsExpiry × IfSome body.remaining AreUses
    × IsPassable body.redelegate body.remaining

abbrev pub IsAppCredBody : AppCredBody → Type 0
IsAppCredBody body =
    IsName body.name × IfSome body.secret IsCredSecret × IsDescription body.description × IfSome body.expires IsExpiry
    × IfSome body.roles (λ roles. AllByRecursion IsNamed roles × (length roles ≤ TRUST_ROLES))

-- what a row can't do without is there in a body of a creation
abbrev pub IsGiven : {X : Type 0} → Bool → Option X → Type 0
IsGiven new field = (is_some field || not new) ≡ true

-- the id of a region is the one that a creation may give
abbrev pub IsRegionBody : CatalogIn → Type 0
IsRegionBody asked = IfSome asked.description IsDescription

abbrev pub IsServiceBody : Bool → CatalogIn → Type 0
IsServiceBody new asked =
    IsGiven new asked.kind × IfSome asked.kind IsServiceText × IfSome asked.name IsServiceText
    × IfSome asked.description IsDescription

abbrev pub IsEndpointBody : Bool → CatalogIn → Type 0
IsEndpointBody new asked =
    IsGiven new asked.service × IsGiven new asked.interface × IsGiven new asked.url × IfSome asked.url IsEndpointUrl

abbrev pub IsCatalogBody : Bool → CatalogKind → CatalogIn → Type 0
IsCatalogBody new of.Region asked = IsRegionBody asked
IsCatalogBody new of.Service asked = IsServiceBody new asked
IsCatalogBody new of.Endpoint asked = IsEndpointBody new asked

-- | the fields of a call are in their ranges
abbrev pub AreFields : Command → Type 0
AreFields (command.Login body) = IsProof body.proof × IsScope body.scope
AreFields (command.Create made) = IsMade true made
AreFields (command.Update id made) = IsMade false made
AreFields (command.ChangePassword user original password) = IsPassword original × IsPassword password
AreFields (command.CreateTrust body) = IsTrustBody body
AreFields (command.GrantsOf who at inherited) = IsPlace at inherited
AreFields (command.Grant row) = IsGrant row
AreFields (command.IsGranted row) = IsGrant row
AreFields (command.Ungrant row) = IsGrant row
AreFields command.Version = Unit {0}
AreFields command.Versions = Unit {0}
AreFields (command.Validate late) = Unit {0}
AreFields (command.Check late) = Unit {0}
AreFields command.RevokeToken = Unit {0}
AreFields (command.List kind filter) = Unit {0}
AreFields (command.Get kind id) = Unit {0}
AreFields (command.Delete kind id) = Unit {0}
AreFields (command.GroupsOf id) = Unit {0}
AreFields (command.ProjectsOf id) = Unit {0}
AreFields (command.MembersOf id) = Unit {0}
AreFields (command.Join row) = Unit {0}
AreFields (command.IsIn row) = Unit {0}
AreFields (command.Leave row) = Unit {0}
AreFields (command.Implied id) = Unit {0}
AreFields (command.Imply row) = Unit {0}
AreFields (command.Implication row) = Unit {0}
AreFields (command.IsImplied row) = Unit {0}
AreFields (command.Unimply row) = Unit {0}
AreFields (command.Assignments filter) = Unit {0}
AreFields (command.Trusts filter) = Unit {0}
AreFields (command.Trust id) = Unit {0}
AreFields (command.DeleteTrust id) = Unit {0}
AreFields (command.TrustRoles id) = Unit {0}
AreFields command.Events = Unit {0}
AreFields command.RotateKeys = Unit {0}
AreFields command.LoadKeys = Unit {0}
AreFields (command.CreateCatalog asked) = IsCatalogBody true asked.of asked
AreFields (command.ListCatalog kind filter) = Unit {0}
AreFields (command.GetCatalog kind id) = Unit {0}
AreFields (command.UpdateCatalog id asked) = IsCatalogBody false asked.of asked
AreFields (command.DeleteCatalog kind id) = Unit {0}
AreFields command.ShowCatalog = Unit {0}
AreFields (command.CreateAppCred user body) = IsAppCredBody body
AreFields (command.ListAppCreds user) = Unit {0}
AreFields (command.GetAppCred user id) = Unit {0}
AreFields (command.DeleteAppCred user id) = Unit {0}
AreFields (command.CreateSecret body) = IsTotpSecret body.secret
AreFields command.ListSecrets = Unit {0}
AreFields (command.GetSecret id) = Unit {0}
AreFields (command.DeleteSecret id) = Unit {0}

-- what is asked of a call: its draw, its reading of the folder, its fields in their ranges
pub record Fit (call : Call) : Type 0 where
  pub draw : IsDrawFor (requirements call.command).draws call.draw
  pub folder : IsFolderFor (requirements call.command).loads call.folder
  pub fields : AreFields call.command
