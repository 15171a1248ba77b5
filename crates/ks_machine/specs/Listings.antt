-- One row, listings and deletions of the kinds of rows that have routes of their own.
-- Source: Identity API v3; OS-REVOKE.
use Rattle.std.specs.Prelude.{ℕ, Bool, true, false, not, ◌&&◌, ◌||◌, List, ◌++◌, codes, filter, map}
use Rattle.std.specs.Option.{option_map_or}
use Rattle.std.specs.Str.{bytes_eq}
use Rattle.ks_base.specs.declared.rows.DomainRow.{DomainRow}
use Rattle.ks_base.specs.declared.rows.GroupRow.{GroupRow}
use Rattle.ks_base.specs.declared.rows.ProjectRow.{ProjectRow}
use Rattle.ks_base.specs.declared.rows.RoleRow.{RoleRow}
use Rattle.ks_base.specs.declared.shapes.Filter.{Filter}
use Rattle.ks_base.specs.declared.users.UserRow.{UserRow}
use Rattle.ks_base.specs.Revocation.{live}
use Rattle.ks_base.specs.CatalogFaults.{drop_region_fault}
use Rattle.ks_base.specs.CatalogLists.{is_endpoint_listed, is_region_listed, is_service_listed}
use Rattle.ks_base.specs.Rows.{Id, Text, Rows}
use Rattle.ks_machine.specs.declared.body_out.BodyOut.TheVariants as body
use Rattle.ks_machine.specs.declared.body_out.Row.{Row}
use Rattle.ks_machine.specs.declared.body_out.Row.TheVariants as row
use Rattle.ks_machine.specs.declared.cause.Cause.{Cause}
use Rattle.ks_machine.specs.declared.change.Change.TheVariants as change
use Rattle.ks_machine.specs.declared.row_kind.RowKind.{RowKind}
use Rattle.ks_machine.specs.declared.row_kind.RowKind.TheVariants as kind
use Rattle.ks_rule.specs.Kinds.{Fields, value_in}
use Rattle.ks_base.specs.TreeFaults.{drop_domain_fault, drop_project_fault}
use Rattle.ks_machine.specs.Actions.{row_words}
use Rattle.ks_machine.specs.Attempts.{Attempt, Go, ◌>>=◌}
use Rattle.ks_machine.specs.Outcomes.{Outcome, changes, tells}
use Rattle.ks_machine.specs.States.{State}
use Rattle.ks_machine.specs.Tables.{catalogs, standing_domain, standing_endpoint, standing_group, standing_project, standing_region, standing_role, standing_service, standing_user, trees, unless_catalog, unless_tree}

-- a row of a kind

unfoldable pub row_at : Rows → RowKind → Id → Attempt Cause Row
row_at rows kind.Domain id = standing_domain rows id >>= (λ found. Go (row.Domain found))
row_at rows kind.Project id = standing_project rows id >>= (λ found. Go (row.Project found))
row_at rows kind.User id = standing_user rows id >>= (λ found. Go (row.User found))
row_at rows kind.Group id = standing_group rows id >>= (λ found. Go (row.Group found))
row_at rows kind.Role id = standing_role rows id >>= (λ found. Go (row.Role found))
row_at rows kind.Region id = standing_region rows id >>= (λ found. Go (row.Region found))
row_at rows kind.Service id = standing_service rows id >>= (λ found. Go (row.Service found))
row_at rows kind.Endpoint id = standing_endpoint rows id >>= (λ found. Go (row.Endpoint found))

unfoldable pub get : Rows → RowKind → Id → Attempt Cause Outcome
get rows kind id = row_at rows kind id >>= (λ found. Go (tells (body.One found false)))

-- listings: a row is listed where all filters that are given agree

abbrev pub has_text : Fields → Text → Text → Bool
has_text filters name value = option_map_or (bytes_eq value) (value_in filters name) true

-- what a text says of a truth
abbrev pub says_no : Text → Bool
says_no text = bytes_eq text (codes "false") || (bytes_eq text (codes "False") || bytes_eq text (codes "0"))

abbrev pub same_truth : Bool → Bool → Bool
same_truth true b = b
same_truth false b = not b

abbrev pub has_truth : Fields → Text → Bool → Bool
has_truth filters name value = option_map_or (λ text. same_truth value (not (says_no text))) (value_in filters name) true

-- the filters of a listing
abbrev pub passes_name : Fields → Text → Bool
passes_name filters name = has_text filters (codes "name") name

abbrev pub passes_domain : Fields → Id → Bool
passes_domain filters domain = has_text filters (codes "domain_id") domain

abbrev pub passes_enabled : Fields → Bool → Bool
passes_enabled filters enabled = has_truth filters (codes "enabled") enabled

abbrev pub is_domain_listed : Fields → DomainRow → Bool
is_domain_listed filters row = passes_name filters row.name && passes_enabled filters row.enabled

abbrev pub is_project_listed : Fields → ProjectRow → Bool
is_project_listed filters row =
    passes_name filters row.name
    && (passes_domain filters row.domain && (has_text filters (codes "parent_id") row.parent && passes_enabled filters row.enabled))

abbrev pub is_user_listed : Fields → UserRow → Bool
is_user_listed filters row = passes_name filters row.name && (passes_domain filters row.domain && passes_enabled filters row.enabled)

abbrev pub is_group_listed : Fields → GroupRow → Bool
is_group_listed filters row = passes_name filters row.name && passes_domain filters row.domain

abbrev pub is_role_listed : Fields → RoleRow → Bool
is_role_listed filters row = passes_name filters row.name

unfoldable pub rows_listed : Rows → RowKind → Fields → List Row
rows_listed rows kind.Domain filters = map (λ found. row.Domain found) (filter (is_domain_listed filters) rows.domains)
rows_listed rows kind.Project filters = map (λ found. row.Project found) (filter (is_project_listed filters) rows.projects)
rows_listed rows kind.User filters = map (λ found. row.User found) (filter (is_user_listed filters) rows.users)
rows_listed rows kind.Group filters = map (λ found. row.Group found) (filter (is_group_listed filters) rows.groups)
rows_listed rows kind.Role filters = map (λ found. row.Role found) (filter (is_role_listed filters) rows.roles)
rows_listed rows kind.Region filters = map (λ found. row.Region found) (filter (is_region_listed filters) rows.regions)
rows_listed rows kind.Service filters = map (λ found. row.Service found) (filter (is_service_listed filters) rows.services)
rows_listed rows kind.Endpoint filters = map (λ found. row.Endpoint found) (filter (is_endpoint_listed filters) rows.endpoints)

abbrev pub path_of_kind : RowKind → Text
path_of_kind kind = codes "/v3/" ++ row_words kind

-- the rows that pass all given filters
unfoldable pub list : Rows → RowKind → Filter → Outcome
list rows kind filters = tells (body.Many kind (rows_listed rows kind filters.fields) (path_of_kind kind))

-- the revocations that are live
unfoldable pub events : State → ℕ → Outcome
events S moment = tells (body.Events (live S.settings.life moment S.events) (codes "/v3/OS-REVOKE/events"))

-- deletions

unfoldable pub delete : Rows → RowKind → Id → Attempt Cause Outcome
delete rows kind.Domain id =
    unless_tree (drop_domain_fault (trees rows) id) >>= (λ _. Go (changes (change.DropDomain id) body.Nothing))
delete rows kind.Project id =
    unless_tree (drop_project_fault (trees rows) id) >>= (λ _. Go (changes (change.DropProject id) body.Nothing))
delete rows kind.User id = standing_user rows id >>= (λ _. Go (changes (change.DropUser id) body.Nothing))
delete rows kind.Group id = standing_group rows id >>= (λ _. Go (changes (change.DropGroup id) body.Nothing))
delete rows kind.Role id = standing_role rows id >>= (λ _. Go (changes (change.DropRole id) body.Nothing))
delete rows kind.Region id =
    unless_catalog (drop_region_fault (catalogs rows) id) >>= (λ _. Go (changes (change.DropRegion id) body.Nothing))
delete rows kind.Service id = standing_service rows id >>= (λ _. Go (changes (change.DropService id) body.Nothing))
delete rows kind.Endpoint id = standing_endpoint rows id >>= (λ _. Go (changes (change.DropEndpoint id) body.Nothing))
