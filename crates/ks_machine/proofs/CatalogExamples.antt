-- The plain machine's catalog, computed: what is refused, and what goes with a token.
use Rattle.std.proofs.Common.{◌≡◌, refl}
use Rattle.std.specs.Prelude.{true, false, List, [], ◌∷◌, Option, Some, None, codes}
use Rattle.ks_base.specs.declared.catalog.CatalogIn.{CatalogIn}
use Rattle.ks_base.specs.declared.catalog.CatalogKind.{CatalogKind}
use Rattle.ks_base.specs.declared.catalog.CatalogKind.TheVariants as of
use Rattle.ks_base.specs.declared.catalog.EndpointRow.{EndpointRow}
use Rattle.ks_base.specs.declared.catalog.Interface.TheVariants as interface
use Rattle.ks_base.specs.declared.catalog.RegionRow.{RegionRow}
use Rattle.ks_base.specs.declared.catalog.ServiceRow.{ServiceRow}
use Rattle.ks_base.specs.declared.faults.TreeFault.TheVariants as tree
use Rattle.ks_base.specs.declared.kinds.Kind.TheVariants as kind
use Rattle.ks_base.specs.Rows.{Id}
use Rattle.ks_catalog.specs.declared.offers.EndpointOut.{EndpointOut}
use Rattle.ks_catalog.specs.declared.offers.ServiceOut.{ServiceOut}
use Rattle.ks_machine.specs.declared.body_out.BodyOut.{BodyOut}
use Rattle.ks_machine.specs.declared.body_out.BodyOut.TheVariants as body
use Rattle.ks_machine.specs.declared.cause.Cause.TheVariants as cause
use Rattle.ks_machine.specs.declared.command.Command.{Command}
use Rattle.ks_machine.specs.declared.command.Command.TheVariants as command
use Rattle.ks_machine.specs.declared.reply.Reply.TheVariants as reply
use Rattle.ks_machine.specs.declared.settings.OpenFault.TheVariants as open_fault_is
use Rattle.ks_machine.specs.Login.{catalog_with}
use Rattle.ks_machine.specs.Opened.{open_fault}
use Rattle.ks_machine.specs.States.{State}
use Rattle.ks_machine.specs.Steps.{Stepped, Replies, Needs, step}
use Rattle.ks_machine.proofs.Examples.{ann, bob, call, id_of_9, known, o1, password_login, payload_for, replies, run, start}
use Rattle.ks_machine.proofs.TheMachine.{the_machine}

abbrev without_fields : CatalogKind → CatalogIn
without_fields what = record {
  of = what;
  id = None;
  parent = None;
  service = None;
  region = None;
  kind = None;
  name = None;
  description = None;
  interface = None;
  url = None;
  enabled = None;
}

abbrev new_service : Command
new_service = command.CreateCatalog (record (without_fields of.Service) { kind = Some (codes "compute"); name = Some (codes "nova") })

abbrev new_region : Command
new_region = command.CreateCatalog (record (without_fields of.Region) { id = Some (codes "r1") })

abbrev new_endpoint : Option Id → Command
new_endpoint region =
    command.CreateCatalog (record (without_fields of.Endpoint) {
      service = Some id_of_9;
      region = region;
      interface = Some interface.Public;
      url = Some (codes "http://c:8774/$(project_id)s");
    })

abbrev updated : Id → CatalogIn → Command
updated id asked = command.UpdateCatalog id asked

-- an endpoint needs its service and its region; a region's given id has to be free; a region goes only when nothing lies in it; a
-- service goes with its endpoints; bob may not
refusals :
    replies start (
    call (new_endpoint None) ann ∷
    call new_service bob ∷
    call new_service ann ∷
    call (new_endpoint (Some (codes "r1"))) ann ∷
    call new_region ann ∷
    call new_region ann ∷
    call (new_endpoint (Some (codes "r1"))) ann ∷
    call (command.DeleteCatalog of.Region (codes "r1")) ann ∷
    call (updated id_of_9 (record (without_fields of.Endpoint) { service = Some (codes "other") })) ann ∷
    call (updated (codes "r1") (record (without_fields of.Region) { parent = Some (codes "r2") })) ann ∷
    call (updated (codes "r1") (record (without_fields of.Service) { enabled = Some false })) ann ∷
    call (command.DeleteCatalog of.Service id_of_9) ann ∷
    call (command.GetCatalog of.Endpoint id_of_9) ann ∷
    call (command.DeleteCatalog of.Region (codes "r1")) ann ∷
    call (command.ListCatalog of.Region (record { fields = [] })) bob ∷
    call command.ShowCatalog bob ∷
    call command.ShowCatalog None ∷ [])
    ≡ Some (cause.Absent kind.Service id_of_9)
    ∷ Some (cause.Rule (codes "identity:create_service"))
    ∷ None
    ∷ Some (cause.Absent kind.Region (codes "r1"))
    ∷ None
    ∷ Some (cause.NameTaken (codes "r1"))
    ∷ None
    ∷ Some (cause.Tree (tree.HasChildren id_of_9))
    ∷ Some (cause.Immutable (codes "service_id"))
    ∷ Some (cause.Immutable (codes "parent_region_id"))
    ∷ Some (cause.Absent kind.Service (codes "r1"))
    ∷ None
    ∷ Some (cause.Absent kind.Endpoint id_of_9)
    ∷ None
    ∷ Some (cause.Rule (codes "identity:list_regions"))
    ∷ None
    ∷ Some cause.NoToken
    ∷ []
unfolding the_machine
refusals = refl

-- what is told of services
abbrev services_in : BodyOut → Option (List ServiceOut)
services_in (body.Token told) = told.catalog
services_in (body.Catalog services path) = Some services
services_in other = None

abbrev services_told : Stepped → Option (List ServiceOut)
services_told (Replies (reply.Ok told) change) = services_in told
services_told (Replies (reply.Refused why) change) = None
services_told (Needs lack) = None

abbrev with_compute : State
with_compute = run (run start (call new_service ann)) (call (new_endpoint None) ann)

abbrev compute_at : List EndpointOut → ServiceOut
compute_at endpoints = record { id = id_of_9; kind = codes "compute"; name = codes "nova"; endpoints = endpoints }

abbrev demo_endpoint : EndpointOut
demo_endpoint = record { id = id_of_9; interface = interface.Public; region = None; url = codes "http://c:8774/demo-id" }

-- a token of a project has its URL filled, and the caller's own catalog is the same
of_project :
    services_told (step known with_compute (call (password_login (codes "ann") (codes "secret")) None))
    ∷ services_told (step known with_compute (call (command.Validate false) ann))
    ∷ services_told (step known with_compute (call command.ShowCatalog bob)) ∷ []
    ≡ Some (compute_at (demo_endpoint ∷ []) ∷ [])
    ∷ Some (compute_at (demo_endpoint ∷ []) ∷ [])
    ∷ Some (compute_at (demo_endpoint ∷ []) ∷ []) ∷ []
unfolding the_machine
of_project = refl

-- that of a domain has no URL for a project, and one without a scope has no catalog
of_other_scopes :
    catalog_with with_compute.rows (record (payload_for (codes "ann")) { kind = 1; domain = Some (codes "default"); project = None })
    ∷ catalog_with with_compute.rows (record (payload_for (codes "ann")) { kind = 0; project = None }) ∷ []
    ≡ Some (compute_at [] ∷ []) ∷ None ∷ []
unfolding the_machine
of_other_scopes = refl

-- a service that is disabled is told no more
of_disabled :
    services_told
    (step known (run with_compute (call (updated id_of_9 (record (without_fields of.Service) { enabled = Some false })) ann)) (call command.ShowCatalog ann))
    ≡ Some []
unfolding the_machine
of_disabled = refl

-- openings: an id comes twice; a region above comes later, and earlier; an endpoint's service, and its region, are not there

abbrev region_under : Id → Option Id → RegionRow
region_under id parent = record { id = id; parent = parent; description = [] }

abbrev compute : ServiceRow
compute = record { id = codes "s1"; kind = codes "compute"; name = codes "nova"; description = []; enabled = true }

abbrev endpoint_in : Option Id → EndpointRow
endpoint_in region = record { id = codes "e1"; service = codes "s1"; region = region; interface = interface.Admin; url = codes "http://c"; enabled = true }

openings :
    open_fault (record o1 { regions = region_under (codes "r1") None ∷ region_under (codes "r1") None ∷ [] })
    ∷ open_fault (record o1 { regions = region_under (codes "r2") (Some (codes "r1")) ∷ region_under (codes "r1") None ∷ [] })
    ∷ open_fault (record o1 { regions = region_under (codes "r1") None ∷ region_under (codes "r2") (Some (codes "r1")) ∷ [] })
    ∷ open_fault (record o1 { endpoints = endpoint_in None ∷ [] })
    ∷ open_fault (record o1 { services = compute ∷ []; endpoints = endpoint_in (Some (codes "r9")) ∷ [] })
    ∷ open_fault (record o1 { services = compute ∷ []; endpoints = endpoint_in None ∷ [] }) ∷ []
    ≡ Some (open_fault_is.IdRepeated kind.Region (codes "r1"))
    ∷ Some (open_fault_is.Absent kind.Region (codes "r1"))
    ∷ None
    ∷ Some (open_fault_is.Absent kind.Service (codes "s1"))
    ∷ Some (open_fault_is.Absent kind.Region (codes "r9"))
    ∷ None
    ∷ []
unfolding the_machine
openings = refl
