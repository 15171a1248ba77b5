-- Limits, and chains of tokens, on the state of the machine's examples, computed.
use Rattle.std.proofs.Common.{◌≡◌, ℕ, ◌+◌, List, [], ◌∷◌, ◌++◌, Option, Some, None, true, false, refl}
use Rattle.std.specs.Prelude.{replicate, codes}
use Rattle.ks_base.specs.declared.app_creds.AppCredRow.{AppCredRow}
use Rattle.ks_base.specs.declared.catalog.CatalogIn.{CatalogIn}
use Rattle.ks_base.specs.declared.catalog.CatalogKind.{CatalogKind}
use Rattle.ks_base.specs.declared.catalog.CatalogKind.TheVariants as of
use Rattle.ks_base.specs.declared.catalog.EndpointRow.{EndpointRow}
use Rattle.ks_base.specs.declared.catalog.Interface.TheVariants as interface
use Rattle.ks_base.specs.declared.catalog.RegionRow.{RegionRow}
use Rattle.ks_base.specs.declared.catalog.ServiceRow.{ServiceRow}
use Rattle.ks_base.specs.declared.events.EventRow.{EventRow}
use Rattle.ks_base.specs.declared.events.Revoke.TheVariants as revoke
use Rattle.ks_base.specs.declared.factors.SecretRow.{SecretRow}
use Rattle.ks_base.specs.declared.kinds.Kind.TheVariants as kind
use Rattle.ks_base.specs.declared.rows.RoleRow.{RoleRow}
use Rattle.ks_base.specs.Rows.{Id, Text}
use Rattle.ks_machine.specs.declared.bodies.Made.TheVariants as made
use Rattle.ks_machine.specs.declared.bodies.Proof.TheVariants as proof
use Rattle.ks_machine.specs.declared.bodies.ScopeIn.TheVariants as scope_in
use Rattle.ks_machine.specs.declared.body_out.BodyOut.TheVariants as body
use Rattle.ks_machine.specs.declared.cause.Cause.TheVariants as cause
use Rattle.ks_machine.specs.declared.command.Command.{Command}
use Rattle.ks_machine.specs.declared.command.Command.TheVariants as command
use Rattle.ks_machine.specs.declared.reply.Reply.TheVariants as reply
use Rattle.ks_machine.specs.States.{State}
use Rattle.ks_machine.specs.Steps.{Stepped, Replies, Needs, step}
use Rattle.ks_machine.proofs.Examples.{ann, call, cause_of, drawn_id, known, moment, start}
use Rattle.ks_machine.proofs.TheMachine.{the_machine}

-- a table at its limit

abbrev role_called : Id → Text → RoleRow
role_called id name = record { id = id; name = name; description = [] }

-- the example's two roles, and as many more
abbrev with_roles : ℕ → Id → State
with_roles more id = record start { rows = record start.rows { roles = start.rows.roles ++ replicate more (role_called id (codes "other")) } }

abbrev made_role : Text → Command
made_role name = command.Create (made.Role None (Some name) None)

-- the 1,024th role has room, and the 1,025th has none; a name that is taken is told before, and a drawn id that stands behind
roles_at_their_limit :
    cause_of (step known (with_roles 1021 (codes "zz")) (call (made_role (codes "new")) ann))
    ∷ cause_of (step known (with_roles 1022 (codes "zz")) (call (made_role (codes "new")) ann))
    ∷ cause_of (step known (with_roles 1022 (codes "zz")) (call (made_role (codes "admin")) ann))
    ∷ cause_of (step known (with_roles 1022 drawn_id) (call (made_role (codes "new")) ann))
    ∷ cause_of (step known (with_roles 1021 drawn_id) (call (made_role (codes "new")) ann))
    ∷ []
    ≡ None
    ∷ Some (cause.Full kind.Role)
    ∷ Some (cause.NameTaken (codes "r-admin"))
    ∷ Some (cause.Full kind.Role)
    ∷ Some (cause.IdTaken drawn_id)
    ∷ []
unfolding the_machine
roles_at_their_limit = refl

-- the catalog's tables at theirs

abbrev without_fields : CatalogKind → CatalogIn
without_fields what = record {
  of = what;
  id = None;
  parent = None;
  service = None;
  region = None;
  kind = None;
  name = None;
  description = None;
  interface = None;
  url = None;
  enabled = None;
}

abbrev region_called : Id → RegionRow
region_called id = record { id = id; parent = None; description = [] }

abbrev with_regions : ℕ → Id → State
with_regions count id = record start { rows = record start.rows { regions = replicate count (region_called id) } }

abbrev made_region : Option Id → Option Id → Command
made_region id parent = command.CreateCatalog (record (without_fields of.Region) { id = id; parent = parent })

-- the 256th region has room, and the 257th has none; a region above that does not stand and a given id that stands are told before, and
-- a drawn id that stands behind
regions_at_their_limit :
    cause_of (step known (with_regions 255 (codes "r")) (call (made_region None None) ann))
    ∷ cause_of (step known (with_regions 256 (codes "r")) (call (made_region None None) ann))
    ∷ cause_of (step known (with_regions 256 (codes "r")) (call (made_region (Some (codes "r")) (Some (codes "x"))) ann))
    ∷ cause_of (step known (with_regions 256 (codes "r")) (call (made_region (Some (codes "r")) None) ann))
    ∷ cause_of (step known (with_regions 256 drawn_id) (call (made_region None None) ann))
    ∷ cause_of (step known (with_regions 255 drawn_id) (call (made_region None None) ann))
    ∷ []
    ≡ None
    ∷ Some (cause.Full kind.Region)
    ∷ Some (cause.Absent kind.Region (codes "x"))
    ∷ Some (cause.NameTaken (codes "r"))
    ∷ Some (cause.Full kind.Region)
    ∷ Some (cause.IdTaken drawn_id)
    ∷ []
unfolding the_machine
regions_at_their_limit = refl

abbrev service_called : Id → ServiceRow
service_called id = record { id = id; kind = codes "compute"; name = []; description = []; enabled = true }

abbrev with_services : ℕ → Id → State
with_services count id = record start { rows = record start.rows { services = replicate count (service_called id) } }

abbrev made_service : Command
made_service = command.CreateCatalog (record (without_fields of.Service) { kind = Some (codes "compute") })

-- the 1,024th service has room, and the 1,025th has none
services_at_their_limit :
    cause_of (step known (with_services 1023 (codes "s")) (call made_service ann))
    ∷ cause_of (step known (with_services 1024 (codes "s")) (call made_service ann))
    ∷ cause_of (step known (with_services 1024 drawn_id) (call made_service ann))
    ∷ cause_of (step known (with_services 1023 drawn_id) (call made_service ann))
    ∷ []
    ≡ None ∷ Some (cause.Full kind.Service) ∷ Some (cause.Full kind.Service) ∷ Some (cause.IdTaken drawn_id) ∷ []
unfolding the_machine
services_at_their_limit = refl

abbrev endpoint_called : Id → EndpointRow
endpoint_called id = record { id = id; service = codes "s"; region = None; interface = interface.Public; url = codes "http://c"; enabled = true }

abbrev with_endpoints : ℕ → Id → State
with_endpoints count id =
    record start { rows = record start.rows { services = service_called (codes "s") ∷ []; endpoints = replicate count (endpoint_called id) } }

abbrev made_endpoint : Id → Command
made_endpoint service =
    command.CreateCatalog (record (without_fields of.Endpoint) {
      service = Some service;
      interface = Some interface.Admin;
      url = Some (codes "http://c");
    })

-- the 8,192nd endpoint has room, and the 8,193rd has none; a service that does not stand is told before
endpoints_at_their_limit :
    cause_of (step known (with_endpoints 8191 (codes "e")) (call (made_endpoint (codes "s")) ann))
    ∷ cause_of (step known (with_endpoints 8192 (codes "e")) (call (made_endpoint (codes "s")) ann))
    ∷ cause_of (step known (with_endpoints 8192 (codes "e")) (call (made_endpoint (codes "x")) ann))
    ∷ cause_of (step known (with_endpoints 8191 drawn_id) (call (made_endpoint (codes "s")) ann))
    ∷ []
    ≡ None ∷ Some (cause.Full kind.Endpoint) ∷ Some (cause.Absent kind.Service (codes "x")) ∷ Some (cause.IdTaken drawn_id) ∷ []
unfolding the_machine
endpoints_at_their_limit = refl

-- secrets of codes, and application credentials, at theirs

abbrev secret_called : Id → SecretRow
secret_called id = record { id = id; user = codes "bobby"; secret = replicate 10 0 }

abbrev with_secrets : ℕ → Id → State
with_secrets count id = record start { rows = record start.rows { secrets = replicate count (secret_called id) } }

abbrev made_secret : Id → Command
made_secret user = command.CreateSecret (record { user = user; secret = replicate 10 1 })

-- the 65,536th secret has room, and the 65,537th has none; a user that does not stand is told before
secrets_at_their_limit :
    cause_of (step known (with_secrets 65535 (codes "s")) (call (made_secret (codes "bobby")) ann))
    ∷ cause_of (step known (with_secrets 65536 (codes "s")) (call (made_secret (codes "bobby")) ann))
    ∷ cause_of (step known (with_secrets 65536 (codes "s")) (call (made_secret (codes "x")) ann))
    ∷ cause_of (step known (with_secrets 65535 drawn_id) (call (made_secret (codes "bobby")) ann))
    ∷ []
    ≡ None ∷ Some (cause.Full kind.Secret) ∷ Some (cause.Absent kind.User (codes "x")) ∷ Some (cause.IdTaken drawn_id) ∷ []
unfolding the_machine
secrets_at_their_limit = refl

abbrev cred_called : Id → Text → AppCredRow
cred_called id name = record {
  id = id;
  user = codes "ann";
  project = codes "demo-id";
  name = name;
  description = [];
  roles = codes "r-admin" ∷ [];
  secret = record { salt = []; rounds = 1; digest = [] };
  expires = None;
  unrestricted = false;
}

abbrev with_creds : ℕ → Id → State
with_creds count id = record start { rows = record start.rows { app_creds = replicate count (cred_called id (codes "other")) } }

abbrev made_cred : Text → Command
made_cred name =
    command.CreateAppCred (codes "ann") (record {
      name = name;
      secret = Some (codes "s3cret");
      description = [];
      expires = None;
      roles = None;
      unrestricted = false;
    })

-- the 65,536th credential has room, and the 65,537th has none; a name that its user has given is told before, and a drawn id that stands
-- behind
creds_at_their_limit :
    cause_of (step known (with_creds 65535 (codes "c")) (call (made_cred (codes "new")) ann))
    ∷ cause_of (step known (with_creds 65536 (codes "c")) (call (made_cred (codes "new")) ann))
    ∷ cause_of (step known (with_creds 65536 (codes "c")) (call (made_cred (codes "other")) ann))
    ∷ cause_of (step known (with_creds 65536 drawn_id) (call (made_cred (codes "new")) ann))
    ∷ cause_of (step known (with_creds 65535 drawn_id) (call (made_cred (codes "new")) ann))
    ∷ []
    ≡ None
    ∷ Some (cause.Full kind.AppCred)
    ∷ Some (cause.NameTaken (codes "c"))
    ∷ Some (cause.Full kind.AppCred)
    ∷ Some (cause.IdTaken drawn_id)
    ∷ []
unfolding the_machine
creds_at_their_limit = refl

-- room for revocations

abbrev an_event : EventRow
an_event = record { what = revoke.Domain (codes "gone"); moment = moment }

abbrev with_events : ℕ → State
with_events count = record start { events = replicate count an_event }

-- what users do for themselves has room for the 131,072nd live revocation, and for none more
own_revocations_at_their_limit :
    cause_of (step known (with_events 131071) (call command.RevokeToken ann))
    ∷ cause_of (step known (with_events 131072) (call command.RevokeToken ann))
    ∷ []
    ≡ None ∷ Some (cause.Full kind.Event) ∷ []
unfolding the_machine
own_revocations_at_their_limit = refl

abbrev disabled : Command
disabled = command.Update (codes "bobby") (made.User None None None None (Some false) None)

-- who is disabled is disabled all the same: the 262,144th has room, and one more has none
revocations_at_their_limit :
    cause_of (step known (with_events 131072) (call disabled ann))
    ∷ cause_of (step known (with_events 262143) (call disabled ann))
    ∷ cause_of (step known (with_events 262144) (call disabled ann))
    ∷ []
    ≡ None ∷ None ∷ Some (cause.Full kind.Event) ∷ []
unfolding the_machine
revocations_at_their_limit = refl

-- a creation needs no room for revocations, so that a drawn id that stands is told though there is none

abbrev with_drawn_user : State → State
with_drawn_user S = record S { rows = record S.rows { users = record { id = drawn_id; name = codes "drawn"; domain = codes "default"; enabled = true; password = None } ∷ S.rows.users } }

creations_need_no_room :
    cause_of (step known (with_drawn_user (with_events 262144)) (call (command.Create (made.User None (Some (codes "new")) None None None None)) ann))
    ≡ Some (cause.IdTaken drawn_id)
unfolding the_machine
creations_need_no_room = refl

-- a token that is got by a token keeps its expiry and the audit id of the first, and adds its method

pub record Chained : Type 0 where
  methods : ℕ
  expires : ℕ
  audit : List ℕ
  chain : Option (List ℕ)

abbrev chained : Stepped → Option Chained
chained (Replies (reply.Ok (body.Token told)) what) = Some (record { methods = told.methods; expires = told.expires; audit = told.audit; chain = told.chain })
chained (Replies other what) = None
chained (Needs lack) = None

by_token :
    chained (step known start (record (call (command.Login (record { proof = proof.Token (codes "bob-token"); scope = scope_in.Unscoped })) None) { reading = moment + 60 }))
    ≡ Some (record { methods = 3; expires = moment + 3600; audit = replicate 16 9; chain = Some (replicate 16 5) })
unfolding the_machine
by_token = refl
