-- The body that makes an application credential.
-- Source: Identity API v3, application credentials.
use Rattle.std.specs.Prelude.{ℕ, false, List, [], Option, Some, None, Result, Ok, codes, unwrap_or}
use Rattle.serde_json.specs.Data.{Items}
use Rattle.ks_base.specs.declared.limits.TheConstants.{TRUST_ROLES}
use Rattle.ks_base.specs.declared.shapes.ShapeFault.{ShapeFault}
use Rattle.ks_base.specs.Results.{◌>>=◌}
use Rattle.ks_machine.specs.declared.bodies.AppCredBody.{AppCredBody}
use Rattle.ks_machine.specs.declared.bodies.Named.{Named}
use Rattle.ks_shape.specs.Places.{Place, names, path_at}
use Rattle.ks_shape.specs.Fields.{needed, optional}
use Rattle.ks_shape.specs.Types.{cred_secret, description_text, list_of, name_text, time_text, truth}
use Rattle.ks_shape.specs.Names.{all_named}

abbrev pub roles_from : Option Items → List ℕ → Result (Option (List Named)) ShapeFault
roles_from None path = Ok None
roles_from (Some items) path = do
  roles ← all_named path items
  Ok (Some roles)

-- roles that may be absent; one has the path of the list
unfoldable pub roles_given : List (List ℕ) → Place → Result (Option (List Named)) ShapeFault
roles_given names body = do
  items ← optional (list_of TRUST_ROLES) names body
  roles_from items (path_at names body)

-- the body that makes an application credential, whose roles may be absent
unfoldable pub app_cred_of : Place → Result AppCredBody ShapeFault
app_cred_of body = do
  name ← needed name_text (names (codes "application_credential.name")) body
  secret ← optional cred_secret (names (codes "application_credential.secret")) body
  description ← optional description_text (names (codes "application_credential.description")) body
  expires ← optional time_text (names (codes "application_credential.expires_at")) body
  roles ← roles_given (names (codes "application_credential.roles")) body
  unrestricted ← optional truth (names (codes "application_credential.unrestricted")) body
  -- rules that would narrow what its tokens may ask for are refused where there are any: passed over, they would widen it
  _ ← optional (list_of 0) (names (codes "application_credential.access_rules")) body
  Ok (record {
    name = name;
    secret = secret;
    description = unwrap_or description [];
    expires = expires;
    roles = roles;
    unrestricted = unwrap_or unrestricted false;
  })
