-- Trusts: making one, and what is told of them.
-- Source: OS-TRUST.
use Rattle.std.specs.Prelude.{ℕ, ◌-◌, ◌==◌, Bool, true, false, ◌&&◌, if◌then◌else◌, nat_lt, nat_le, List, [], ◌∷◌, ◌++◌, length, Option, Some, None, codes, filter, map, option_map, unwrap_or}
use Rattle.std.specs.Option.{option_and_then, option_map_or, option_or}
use Rattle.ks_base.specs.declared.faults.TrustFault.{TrustFault}
use Rattle.ks_base.specs.declared.faults.TrustFault.TheVariants as fault
use Rattle.ks_base.specs.declared.grants.Target.TheVariants as target
use Rattle.ks_base.specs.declared.kinds.Kind.TheVariants as kind
use Rattle.ks_base.specs.declared.receipt.Drawn.{Drawn}
use Rattle.ks_base.specs.declared.limits.TheConstants.{REDELEGATIONS}
use Rattle.ks_base.specs.declared.rows.RoleRow.{RoleRow}
use Rattle.ks_base.specs.declared.shapes.Filter.{Filter}
use Rattle.ks_base.specs.declared.shapes.ShapeFault.TheVariants as shape
use Rattle.ks_base.specs.declared.trusts.TrustRow.{TrustRow}
use Rattle.ks_base.specs.Rows.{Id, Text, Rows, same, trust_of, has_id}
use Rattle.ks_base.specs.Trusts.{creation_fault, first_of_new}
use Rattle.ks_machine.specs.declared.bodies.Named.{Named}
use Rattle.ks_machine.specs.declared.bodies.Named.TheVariants as named
use Rattle.ks_machine.specs.declared.bodies.TrustBody.{TrustBody}
use Rattle.ks_machine.specs.declared.body_out.BodyOut.TheVariants as body
use Rattle.ks_machine.specs.declared.body_out.Row.{Row}
use Rattle.ks_machine.specs.declared.body_out.Row.TheVariants as row
use Rattle.ks_machine.specs.declared.cause.Cause.{Cause}
use Rattle.ks_machine.specs.declared.cause.Cause.TheVariants as cause
use Rattle.ks_machine.specs.declared.change.Change.TheVariants as change
use Rattle.ks_rule.specs.Kinds.{Fields}
use Rattle.ks_machine.specs.Assignments.{agrees}
use Rattle.ks_machine.specs.Attempts.{Attempt, Go, ◌>>=◌, blame, found, need, unless}
use Rattle.ks_machine.specs.Effective.{in_order, roles_at}
use Rattle.ks_machine.specs.Outcomes.{Outcome, changes, made_id, tells}
use Rattle.ks_machine.specs.Scopes.{role_in, titled_roles}
use Rattle.ks_machine.specs.Tables.{standing_project, standing_trust, standing_user}
use Rattle.ks_machine.specs.Validity.{Valid, cred_in_payload}

-- the causes that have a place of their own are named there
abbrev pub trust_cause : TrustFault → Cause
trust_cause (fault.Full kind) = cause.Full kind
trust_cause (fault.IdTaken id) = cause.IdTaken id
trust_cause fault.Memory = cause.Memory
trust_cause fault.NotTrustor = cause.Trust fault.NotTrustor
trust_cause fault.NotParent = cause.Trust fault.NotParent
trust_cause fault.NoRoles = cause.Trust fault.NoRoles
trust_cause fault.DepthOut = cause.Trust fault.DepthOut
trust_cause (fault.RoleNotInParent role) = cause.Trust (fault.RoleNotInParent role)
trust_cause fault.Impersonation = cause.Trust fault.Impersonation
trust_cause fault.UsesSet = cause.Trust fault.UsesSet
trust_cause fault.LaterThanParent = cause.Trust fault.LaterThanParent
trust_cause (fault.RoleLost role) = cause.Trust (fault.RoleLost role)
trust_cause fault.Expired = cause.Trust fault.Expired
trust_cause (fault.Absent id) = cause.Trust (fault.Absent id)
trust_cause fault.NotTrustee = cause.Trust fault.NotTrustee
trust_cause fault.Spent = cause.Trust fault.Spent
trust_cause (fault.UserOff id) = cause.Trust (fault.UserOff id)

abbrev pub unless_trust : Option TrustFault → Attempt Cause (Unit {0})
unless_trust why = blame trust_cause (unless why)

-- a check that a refusal of trusts tells
abbrev pub needs : Bool → TrustFault → Attempt Cause (Unit {0})
needs holds why = need holds (cause.Trust why)

-- a token whose application credential is restricted makes no trust and no credential, and ends none
abbrev pub unrestricted : Rows → Valid → Attempt Cause (Unit {0})
unrestricted rows caller = need (option_map_or (λ cred. cred.unrestricted) (cred_in_payload rows caller.payload) true) cause.Prohibited

-- the parent of a new trust

-- the caller's token is of the trust that is passed on, which the body may name; it passes on its own project
abbrev pub is_passed_on : TrustBody → TrustRow → Bool
is_passed_on asked trust = option_map_or (same trust.id) asked.parent true && same trust.project asked.project

abbrev pub parent_by : Rows → TrustBody → Option Id → Attempt Cause (Option TrustRow)
parent_by rows asked None = need (option_map_or (λ id. false) asked.parent true) (cause.Trust fault.NotParent) >>= (λ _. Go None)
parent_by rows asked (Some id) = do
  trust ← found (trust_of id rows.trusts) (cause.Trust fault.NotParent)
  _ ← needs (is_passed_on asked trust) fault.NotParent
  Go (Some trust)

-- its roles

-- a role that the field of a body names
abbrev pub role_asked : Rows → Text → Named → Attempt Cause RoleRow
role_asked rows field (named.Id id) = found (role_in rows (named.Id id)) (cause.Absent kind.Role id)
role_asked rows field (named.Name name) = found (role_in rows (named.Name name)) (cause.Shape (shape.Range field))

-- the roles that a field of a body names
unfoldable pub roles_asked : Rows → Text → List Named → Attempt Cause (List Id)
roles_asked rows field [] = Go []
roles_asked rows field (name ∷ names) = do
  role ← role_asked rows field name
  roles ← roles_asked rows field names
  Go (role.id ∷ roles)

-- how many trusts may follow below it

-- under a parent the count that is given, if any, is the parent's less one
abbrev pub count_under : TrustBody → TrustRow → Bool
count_under asked parent = option_map_or (λ count. count == parent.count - 1) asked.count true

abbrev pub count_for : TrustBody → Option TrustRow → ℕ
count_for asked parent =
    if asked.redelegate then option_map_or (λ above. above.count - 1) parent (unwrap_or asked.count REDELEGATIONS) else 0

-- the count that is asked for can be had
abbrev pub may_count : TrustBody → Option TrustRow → Bool
may_count asked None = nat_le (count_for asked None) REDELEGATIONS
may_count asked (Some parent) = count_under asked parent

-- the row

unfoldable pub new_trust : Id → TrustBody → Option TrustRow → List Id → TrustRow
new_trust id asked parent roles = record {
  id = id;
  trustor = asked.trustor;
  trustee = asked.trustee;
  project = asked.project;
  roles = roles;
  impersonation = asked.impersonation;
  expires = option_or asked.expires (option_and_then (λ above. above.expires) parent);
  remaining = asked.remaining;
  count = count_for asked parent;
  parent = option_map (λ above. above.id) parent;
}

-- the roles of the first trustor at the project of a new trust
abbrev pub roles_to_give : Rows → TrustRow → List Id
roles_to_give rows trust = roles_at rows (first_of_new rows.trusts trust) (target.Project trust.project)

abbrev pub told_trust : Rows → TrustRow → Row
told_trust rows trust = row.Trust trust (titled_roles rows trust.roles)

-- a new trust
unfoldable pub create_trust : Rows → ℕ → Drawn → Valid → TrustBody → Attempt Cause Outcome
create_trust rows moment drawn caller asked = do
  _ ← unrestricted rows caller
  _ ← needs (same caller.payload.user asked.trustor) fault.NotTrustor
  _ ← standing_user rows asked.trustee
  _ ← standing_project rows asked.project
  parent ← parent_by rows asked caller.payload.trust
  _ ← needs (nat_lt 0 (length asked.roles)) fault.NoRoles
  roles ← roles_asked rows (codes "trust.roles") asked.roles
  _ ← needs (may_count asked parent) fault.DepthOut
  let new : TrustRow = new_trust (made_id drawn) asked parent (in_order roles)
  _ ← unless_trust (creation_fault rows.trusts (roles_to_give rows new) moment new)
  Go (changes (change.PutTrust new) (body.One (told_trust rows new) true))

-- what is told of trusts

abbrev pub trusts_path : Text
trusts_path = codes "/v3/OS-TRUST/trusts"

abbrev pub is_trust_listed : Fields → TrustRow → Bool
is_trust_listed filters trust =
    agrees filters (codes "trustor_user_id") (Some trust.trustor) && agrees filters (codes "trustee_user_id") (Some trust.trustee)

unfoldable pub list_trusts : Rows → Filter → Outcome
list_trusts rows filters =
    tells (body.Trusts (map (told_trust rows) (filter (is_trust_listed filters.fields) rows.trusts)) trusts_path)

unfoldable pub get_trust : Rows → Id → Attempt Cause Outcome
get_trust rows id = do
  trust ← standing_trust rows id
  Go (tells (body.One (told_trust rows trust) false))

unfoldable pub delete_trust : Rows → Id → Attempt Cause Outcome
delete_trust rows id = do
  _ ← standing_trust rows id
  Go (changes (change.DropTrust id) body.Nothing)

unfoldable pub roles_of_trust : Rows → Id → Attempt Cause Outcome
roles_of_trust rows id = do
  trust ← standing_trust rows id
  Go (tells (body.TrustRoles
      (filter (λ role. has_id trust.roles role.id) rows.roles)
      (trusts_path ++ (codes "/" ++ (id ++ codes "/roles")))))
