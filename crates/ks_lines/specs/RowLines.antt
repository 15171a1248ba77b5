-- The line that a person reads for each fault of the rows of an opening file.
use Rattle.std.specs.Prelude.{ℕ, Bool, not, ◌&&◌, if◌then◌else◌, List, [], ◌∷◌, ◌++◌, length, find, position, Option, Some, None, option_map, codes, decimal}
use Rattle.std.specs.List.{concat, list_any}
use Rattle.std.specs.Option.{option_or}
use Rattle.ks_base.specs.declared.catalog.RegionRow.{RegionRow}
use Rattle.ks_base.specs.declared.faults.LoadFault.{LoadFault}
use Rattle.ks_base.specs.declared.faults.LoadFault.TheVariants as load
use Rattle.ks_base.specs.declared.grants.Actor.TheVariants as actor
use Rattle.ks_base.specs.declared.grants.ImplyRow.{ImplyRow}
use Rattle.ks_base.specs.declared.grants.Target.TheVariants as target
use Rattle.ks_base.specs.declared.kinds.Kind.{Kind}
use Rattle.ks_base.specs.declared.kinds.Kind.TheVariants as kind
use Rattle.ks_base.specs.declared.limits.TheConstants.{KEYS, LEVELS}
use Rattle.ks_base.specs.declared.rows.ProjectRow.{ProjectRow}
use Rattle.ks_base.specs.Catalog.{is_below, is_in_region, is_of_service}
use Rattle.ks_base.specs.Limits.{limit}
use Rattle.ks_base.specs.Rows.{Id, same}
use Rattle.ks_base.specs.Tree.{is_child_of}
use Rattle.ks_base.specs.RoleLists.{names_role}
use Rattle.ks_base.specs.Grants.{is_of_actor, is_at_target}
use Rattle.ks_machine.specs.declared.settings.OpenFault.{OpenFault}
use Rattle.ks_machine.specs.declared.settings.OpenFault.TheVariants as fault
use Rattle.ks_lines.specs.declared.spot.Field.{Field}
use Rattle.ks_lines.specs.declared.spot.Field.TheVariants as field
use Rattle.ks_lines.specs.declared.spot.Spot.{Spot}
use Rattle.ks_written.specs.declared.written.Written.{Written}
use Rattle.ks_lines.specs.Meetings.{NamedRow, domain_named, first_place, group_named, has_id, id_meeting, name_meeting, project_named, role_named, user_named}
use Rattle.ks_lines.specs.Spots.{list_name, located, quoted, row_name, row_path, spot_at}

-- two rows with one id

abbrev pub id_line : Kind → Id → Option (ℕ × ℕ) → List ℕ
id_line kind id None = concat (codes "two " ∷ list_name kind ∷ codes " have the id " ∷ quoted id ∷ [])
id_line kind id (Some places) =
    located (spot_at kind field.Id (Some places.1)) (concat (quoted id ∷ codes " is the id of " ∷ row_path kind places.0 ∷ codes " too" ∷ []))

abbrev pub ids_meeting : Written → Kind → Id → Option (ℕ × ℕ)
ids_meeting written kind.Domain id = id_meeting (λ row. row.id) id written.domains
ids_meeting written kind.Project id = id_meeting (λ row. row.id) id written.projects
ids_meeting written kind.User id = id_meeting (λ row. row.id) id written.users
ids_meeting written kind.Group id = id_meeting (λ row. row.id) id written.groups
ids_meeting written kind.Role id = id_meeting (λ row. row.id) id written.roles
ids_meeting written kind.Implication id = None
ids_meeting written kind.Grant id = None
ids_meeting written kind.Member id = None
ids_meeting written kind.Trust id = None
ids_meeting written kind.Event id = None
ids_meeting written kind.Region id = id_meeting (λ row. row.id) id written.regions
ids_meeting written kind.Service id = id_meeting (λ row. row.id) id written.services
ids_meeting written kind.Endpoint id = id_meeting (λ row. row.id) id written.endpoints
ids_meeting written kind.AppCred id = None
ids_meeting written kind.Secret id = None

-- two rows with one name, the first of which has this id

abbrev pub in_domain : Option Id → List ℕ
in_domain None = []
in_domain (Some domain) = concat (codes " in the domain " ∷ quoted domain ∷ [])

abbrev pub name_unplaced : Kind → Id → List ℕ
name_unplaced kind id = concat (codes "two " ∷ list_name kind ∷ codes " have the name of the one with the id " ∷ quoted id ∷ [])

abbrev pub name_at : Kind → NamedRow → ℕ → ℕ → List ℕ
name_at kind row first later = located (spot_at kind field.Name (Some later))
    (concat (quoted row.name ∷ codes " is the name of " ∷ row_path kind first ∷ in_domain row.domain ∷ codes " too" ∷ []))

abbrev pub name_placed : Kind → Id → Option NamedRow → Option (ℕ × ℕ) → List ℕ
name_placed kind id None places = name_unplaced kind id
name_placed kind id (Some row) None = name_unplaced kind id
name_placed kind id (Some row) (Some places) = name_at kind row places.0 places.1

abbrev pub name_line_in : {R : Type 0} → (R → Id) → (R → NamedRow) → Kind → Id → List R → List ℕ
name_line_in key named kind id rows = name_placed kind id (option_map named (find (has_id key id) rows)) (name_meeting key named id rows)

abbrev pub name_line : Written → Kind → Id → List ℕ
name_line written kind.Domain id = name_line_in (λ row. row.id) domain_named kind.Domain id written.domains
name_line written kind.Project id = name_line_in (λ row. row.id) project_named kind.Project id written.projects
name_line written kind.User id = name_line_in (λ row. row.id) user_named kind.User id written.users
name_line written kind.Group id = name_line_in (λ row. row.id) group_named kind.Group id written.groups
name_line written kind.Role id = name_line_in (λ row. row.id) role_named kind.Role id written.roles
name_line written kind.Implication id = name_unplaced kind.Implication id
name_line written kind.Grant id = name_unplaced kind.Grant id
name_line written kind.Member id = name_unplaced kind.Member id
name_line written kind.Trust id = name_unplaced kind.Trust id
name_line written kind.Event id = name_unplaced kind.Event id
name_line written kind.Region id = name_unplaced kind.Region id
name_line written kind.Service id = name_unplaced kind.Service id
name_line written kind.Endpoint id = name_unplaced kind.Endpoint id
name_line written kind.AppCred id = name_unplaced kind.AppCred id
name_line written kind.Secret id = name_unplaced kind.Secret id

-- rows that name what does not stand

abbrev pub role_field : Id → ImplyRow → Field
role_field id row = if same row.prior id then field.Prior else field.Implied

abbrev pub implication_at : Id → Option ℕ → Option ImplyRow → Option Spot
implication_at id place None = None
implication_at id place (Some row) = spot_at kind.Implication (role_field id row) place

-- the first row of each list that names the domain, the lists in the order in which they are tested
abbrev pub domain_spot : Written → Id → Option Spot
domain_spot written id =
    option_or (spot_at kind.Project field.DomainId (position (λ row. same row.domain id) written.projects))
    (option_or (spot_at kind.User field.DomainId (position (λ row. same row.domain id) written.users))
    (option_or (spot_at kind.Group field.DomainId (position (λ row. same row.domain id) written.groups))
    (spot_at kind.Grant field.Domain (position (is_at_target (target.Domain id)) written.assignments))))

abbrev pub user_spot : Written → Id → Option Spot
user_spot written id =
    option_or (spot_at kind.Member field.User (position (λ row. same row.user id) written.members))
    (spot_at kind.Grant field.User (position (is_of_actor (actor.User id)) written.assignments))

abbrev pub group_spot : Written → Id → Option Spot
group_spot written id =
    option_or (spot_at kind.Member field.Group (position (λ row. same row.group id) written.members))
    (spot_at kind.Grant field.Group (position (is_of_actor (actor.Group id)) written.assignments))

abbrev pub role_spot : Written → Id → Option Spot
role_spot written id =
    option_or (implication_at id (position (names_role id) written.implications) (find (names_role id) written.implications))
    (spot_at kind.Grant field.Role (position (λ row. same row.role id) written.assignments))

abbrev pub absent_at : Option Spot → Kind → Id → List ℕ
absent_at place kind id = located place (concat (codes "no " ∷ row_name kind ∷ codes " has the id " ∷ quoted id ∷ []))

-- a row below one that does not stand before it

abbrev pub is_orphan : Id → List ProjectRow → ProjectRow → Bool
is_orphan id before row =
    is_child_of id row && not (list_any (λ other. same other.id id && same other.domain row.domain) before)

abbrev pub is_region_orphan : Id → List RegionRow → RegionRow → Bool
is_region_orphan id before row = is_below id row && not (list_any (λ other. same other.id id) before)

unfoldable pub orphan_place : {R : Type 0} → (List R → R → Bool) → List R → List R → Option ℕ
orphan_place orphan before [] = None
orphan_place orphan before (row ∷ rows) =
    if orphan before row then Some (length before) else orphan_place orphan (before ++ row ∷ []) rows

-- the line for such a row
abbrev pub orphan_line : Spot → List ℕ → Id → List ℕ
orphan_line spot said id = located (Some spot) (concat (said ∷ quoted id ∷ []))

abbrev pub orphan_or : Option Spot → List ℕ → Id → List ℕ → List ℕ
orphan_or None said id other = other
orphan_or (Some spot) said id other = orphan_line spot said id

-- the first project below one that does not stand before it in its domain, and the first region below one that does not stand before it
abbrev pub orphan_project : Written → Id → Option Spot
orphan_project written id = spot_at kind.Project field.ParentId (orphan_place (is_orphan id) [] written.projects)

abbrev pub orphan_region : Written → Id → Option Spot
orphan_region written id = spot_at kind.Region field.ParentRegionId (orphan_place (is_region_orphan id) [] written.regions)

-- the first row that names a row of the kind
abbrev pub project_spot : Written → Id → Option Spot
project_spot written id = spot_at kind.Grant field.Project (position (is_at_target (target.Project id)) written.assignments)

abbrev pub region_spot : Written → Id → Option Spot
region_spot written id = spot_at kind.Endpoint field.RegionId (position (is_in_region id) written.endpoints)

abbrev pub service_spot : Written → Id → Option Spot
service_spot written id = spot_at kind.Endpoint field.ServiceId (position (is_of_service id) written.endpoints)

-- the line for a row that is named and absent
abbrev pub absent_line : Written → Kind → Id → List ℕ
absent_line written kind.Domain id = absent_at (domain_spot written id) kind.Domain id
absent_line written kind.Project id =
    orphan_or (orphan_project written id) (codes "no project before it in its domain has the id ") id (absent_at (project_spot written id) kind.Project id)
absent_line written kind.User id = absent_at (user_spot written id) kind.User id
absent_line written kind.Group id = absent_at (group_spot written id) kind.Group id
absent_line written kind.Role id = absent_at (role_spot written id) kind.Role id
absent_line written kind.Implication id = absent_at None kind.Implication id
absent_line written kind.Grant id = absent_at None kind.Grant id
absent_line written kind.Member id = absent_at None kind.Member id
absent_line written kind.Trust id = absent_at None kind.Trust id
absent_line written kind.Event id = absent_at None kind.Event id
absent_line written kind.Region id =
    orphan_or (orphan_region written id) (codes "no region before it has the id ") id (absent_at (region_spot written id) kind.Region id)
absent_line written kind.Service id = absent_at (service_spot written id) kind.Service id
absent_line written kind.Endpoint id = absent_at None kind.Endpoint id
absent_line written kind.AppCred id = absent_at None kind.AppCred id
absent_line written kind.Secret id = absent_at None kind.Secret id

-- the tree, roles, room and keys

abbrev pub deep_line : List ProjectRow → Id → List ℕ
deep_line projects id = located (spot_at kind.Project field.ParentId (first_place (λ row. row.id) id projects))
    (concat (codes "the project " ∷ quoted id ∷ codes " lies more than " ∷ decimal LEVELS ∷ codes " levels below its domain" ∷ []))

abbrev pub disabled_line : List ProjectRow → Id → List ℕ
disabled_line projects id = located (spot_at kind.Project field.ParentId (position (is_child_of id) projects))
    (concat (codes "the project " ∷ quoted id ∷ codes " above it is disabled" ∷ []))

abbrev pub prohibited_line : List ImplyRow → Id → List ℕ
prohibited_line rows id = located (spot_at kind.Implication field.Implied (position (λ row. same row.implied id) rows))
    (concat (codes "the role " ∷ quoted id ∷ codes " is named admin and may not be implied" ∷ []))

abbrev pub full_line : Kind → List ℕ
full_line kind = concat (list_name kind ∷ codes ": more than " ∷ decimal (limit kind) ∷ codes " " ∷ list_name kind ∷ [])

abbrev pub ring_line : LoadFault → List ℕ
ring_line load.Empty = concat (codes "keys: there is none" ∷ [])
ring_line (load.Repeated index) = concat (codes "keys: two have the index " ∷ decimal index ∷ [])
ring_line load.TooMany = concat (codes "keys: more than " ∷ decimal KEYS ∷ [])

-- | the line for a fault of the rows that are written: the place of the row that has it, and what is wrong there
unfoldable pub row_line : Written → OpenFault → List ℕ
row_line written (fault.IdRepeated kind id) = id_line kind id (ids_meeting written kind id)
row_line written (fault.Name kind id) = name_line written kind id
row_line written (fault.Absent kind id) = absent_line written kind id
row_line written (fault.TooDeep id) = deep_line written.projects id
row_line written (fault.DisabledAbove id) = disabled_line written.projects id
row_line written (fault.Prohibited id) = prohibited_line written.implications id
row_line written (fault.Full kind) = full_line kind
row_line written (fault.Ring why) = ring_line why
row_line written fault.Memory = concat (codes "out of memory" ∷ [])
