-- A new service behind the checks that went on, and a change of a region that its parent stops.
use Rattle.std.proofs.Common.{◌≡◌, true, Some, Result, Ok, Err, IsErrAnd, refl, unwrap_or}
use Rattle.std.specs.Prelude.{codes}
use Rattle.ks_base.specs.declared.catalog.CatalogIn.{CatalogIn}
use Rattle.ks_base.specs.declared.catalog.RegionRow.{RegionRow}
use Rattle.ks_base.specs.declared.catalog.ServiceRow.{ServiceRow}
use Rattle.ks_base.specs.CatalogFaults.{add_service_fault}
use Rattle.ks_base.specs.Rows.{Id, Rows, Text}
use Rattle.ks_machine.specs.declared.body_out.BodyOut.TheVariants as body
use Rattle.ks_machine.specs.declared.body_out.Row.TheVariants as row
use Rattle.ks_machine.specs.declared.cause.Cause.{Cause}
use Rattle.ks_machine.specs.declared.change.Change.TheVariants as change
use Rattle.ks_machine.specs.Attempts.{Attempt, Go, ◌>>=◌}
use Rattle.ks_machine.specs.CatalogCommands.{create_service, unchanged_if_any, update_region}
use Rattle.ks_machine.specs.Creations.{text_or_empty}
use Rattle.ks_machine.specs.Outcomes.{Outcome, changes}
use Rattle.ks_machine.specs.Tables.{catalogs, standing_region, unless_catalog}
use Rattle.ks_machine.specs.Updates.{unchanged}
use Rattle.ks_checks.specs.Plans.{Passes, Plans}
use Rattle.ks_checks.specs.declared.halt.Halt.{Halt}
use Rattle.ks_checks.specs.declared.plan.Plan.{Plan}
use Rattle.ks_checks.proofs.Halts.{halted}

pub service_created : (rows : Rows) (drawn : Id) (asked : CatalogIn) (kind : Text) (new : ServiceRow) → asked.kind ≡ Some kind →
    new ≡ record { id = drawn; kind = kind; name = text_or_empty asked.name; description = text_or_empty asked.description; enabled = unwrap_or asked.enabled true } →
    unless_catalog (add_service_fault (catalogs rows) new) ≡ Go tt →
    create_service rows drawn asked ≡ Go (changes (change.PutService new) (body.One (row.Service new) true))
unfolding create_service
service_created rows drawn asked kind new given is passes = rw (given, ← is, passes) refl

stopped_by : (result : Result Plan Halt) (halt : Halt) (said : Attempt Cause (Unit {0})) (next : Unit {0} → Attempt Cause Outcome) →
    IsErrAnd result (λ other. other ≡ halt) → Passes (Err halt) said → Plans result (said >>= next)
stopped_by (Ok plan) halt said next is stops = absurd is
stopped_by (Err other) halt said next is stops = rw is (halted halt said next stops)

pub parent_stops : (rows : Rows) (id : Id) (asked : CatalogIn) (old : RegionRow) (halt : Halt) (result : Result Plan Halt) →
    standing_region rows id ≡ Go old → unchanged (codes "id") asked.id id ≡ Go tt →
    Passes (Err halt) (unchanged_if_any (codes "parent_region_id") asked.parent old.parent) → IsErrAnd result (λ other. other ≡ halt) →
    Plans result (update_region rows id asked)
unfolding update_region
parent_stops rows id asked old halt result stands same stops is =
    rw (stands, same) (stopped_by result halt (unchanged_if_any (codes "parent_region_id") asked.parent old.parent) _ is stops)
