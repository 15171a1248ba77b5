-- The body that makes a trust.
-- Source: OS-TRUST.
use Rattle.std.specs.Prelude.{ℕ, ◌-◌, ◌^◌, ◌&&◌, false, not, is_some, List, Result, Ok, codes, unwrap_or}
use Rattle.ks_base.specs.declared.limits.TheConstants.{TRUST_ROLES, USES}
use Rattle.ks_base.specs.declared.shapes.ShapeFault.{ShapeFault}
use Rattle.ks_base.specs.declared.shapes.ShapeFault.TheVariants as fault
use Rattle.ks_base.specs.Results.{need, ◌>>=◌}
use Rattle.ks_machine.specs.declared.bodies.Named.{Named}
use Rattle.ks_machine.specs.declared.bodies.TrustBody.{TrustBody}
use Rattle.ks_shape.specs.declared.trust.Limits.{Limits}
use Rattle.ks_shape.specs.Places.{Place, names, path_at}
use Rattle.ks_shape.specs.Fields.{needed, optional}
use Rattle.ks_shape.specs.Types.{id_text, list_of, time_text, truth, whole}
use Rattle.ks_shape.specs.Names.{all_named}

-- a role has the path of the list
unfoldable pub roles_at : List (List ℕ) → Place → Result (List Named) ShapeFault
roles_at names body = do
  roles ← needed (list_of TRUST_ROLES) names body
  all_named (path_at names body) roles

-- how long, how often and how far down a trust is to serve
unfoldable pub limits_asked : Place → Result Limits ShapeFault
limits_asked body = do
  expires ← optional time_text (names (codes "trust.expires_at")) body
  remaining ← optional (whole 1 USES) (names (codes "trust.remaining_uses")) body
  redelegate ← optional truth (names (codes "trust.allow_redelegation")) body
  count ← optional (whole 0 (2 ^ 32 - 1)) (names (codes "trust.redelegation_count")) body
  parent ← optional id_text (names (codes "trust.redelegated_trust_id")) body
  Ok (record {
    expires = expires;
    remaining = remaining;
    redelegate = unwrap_or redelegate false;
    count = count;
    parent = parent;
  })

-- | how long, how often and how far down a trust is to serve, where one that counts its uses isn't passed on
unfoldable pub limits_of : Place → Result Limits ShapeFault
limits_of body = do
  limits ← limits_asked body
  _ ← need (not (is_some limits.remaining && limits.redelegate)) (fault.Range (path_at (names (codes "trust.remaining_uses")) body))
  Ok limits

-- the body that makes a trust
unfoldable pub trust_of : Place → Result TrustBody ShapeFault
trust_of body = do
  trustor ← needed id_text (names (codes "trust.trustor_user_id")) body
  trustee ← needed id_text (names (codes "trust.trustee_user_id")) body
  project ← needed id_text (names (codes "trust.project_id")) body
  impersonation ← needed truth (names (codes "trust.impersonation")) body
  roles ← roles_at (names (codes "trust.roles")) body
  limits ← limits_of body
  Ok (record {
    trustor = trustor;
    trustee = trustee;
    project = project;
    impersonation = impersonation;
    roles = roles;
    expires = limits.expires;
    remaining = limits.remaining;
    redelegate = limits.redelegate;
    count = limits.count;
    parent = limits.parent;
  })
