-- What an opening file says, apart from its policy. Its members, the entries of each list and the fields of each entry are
-- read in the order in which they stand here, and the first fault is the file's. Null counts as absent for a member of the
-- file and for a field that is not needed.
-- Source: Identity API v3; own limits; own.
use Rattle.std.specs.Prelude.{ℕ, ◌==◌, ◌&&◌, ◌||◌, Bool, true, false, nat_lt, nat_le, List, [], ◌∷◌, length, Option, Some, None, option_map, Result, Ok, Err, codes, unwrap_or}
use Rattle.std.specs.List.{list_all, starts_with}
use Rattle.std.specs.Str.{bytes_eq}
use Rattle.serde_json.specs.Data.{Data, Items}
use Rattle.serde_json.specs.Find.{as_array}
use Rattle.ks_base.specs.declared.catalog.EndpointRow.{EndpointRow}
use Rattle.ks_base.specs.declared.catalog.RegionRow.{RegionRow}
use Rattle.ks_base.specs.declared.catalog.ServiceRow.{ServiceRow}
use Rattle.ks_base.specs.declared.grants.Actor.{Actor}
use Rattle.ks_base.specs.declared.grants.Actor.TheVariants as actor
use Rattle.ks_base.specs.declared.grants.Target.{Target}
use Rattle.ks_base.specs.declared.grants.Target.TheVariants as target
use Rattle.ks_base.specs.declared.grants.GrantRow.{GrantRow}
use Rattle.ks_base.specs.declared.grants.ImplyRow.{ImplyRow}
use Rattle.ks_base.specs.declared.limits.TheConstants.{DEFAULT_KEYS, DEFAULT_LIFE, DEFAULT_ROUNDS, FEWEST_KEYS, KEYS, LONGEST_LIFE, OPENING_BYTES, ROUNDS, SHORTEST_LIFE, URL_BYTES}
use Rattle.ks_base.specs.declared.rows.DomainRow.{DomainRow}
use Rattle.ks_base.specs.declared.rows.GroupRow.{GroupRow}
use Rattle.ks_base.specs.declared.rows.ProjectRow.{ProjectRow}
use Rattle.ks_base.specs.declared.rows.RoleRow.{RoleRow}
use Rattle.ks_base.specs.declared.shapes.ShapeFault.{ShapeFault}
use Rattle.ks_base.specs.declared.shapes.ShapeFault.TheVariants as fault
use Rattle.ks_base.specs.declared.users.MemberRow.{MemberRow}
use Rattle.ks_base.specs.declared.users.PasswordRow.{PasswordRow}
use Rattle.ks_base.specs.Results.{found, need, ◌>>=◌}
use Rattle.ks_machine.specs.declared.settings.Settings.{Settings}
use Rattle.ks_shape.specs.declared.misfit.Misfit.TheVariants as misfit
use Rattle.ks_shape.specs.Bodies.{document, whole_document}
use Rattle.ks_shape.specs.Fields.{FieldType, needed, optional, optional_value}
use Rattle.ks_shape.specs.Places.{Place, names, path_at}
use Rattle.ks_shape.specs.Types.{affirmation, any_text, count_of, description_text, endpoint_url, falsehood, id_text, interface_text, list_of, name_text, password_text, service_text, text_of, truth, whole}
use Rattle.ks_written.specs.declared.written.KeysFrom.{KeysFrom}
use Rattle.ks_written.specs.declared.written.KeysFrom.TheVariants as keys
use Rattle.ks_written.specs.declared.written.Written.{Written}
use Rattle.ks_written.specs.declared.written.WrittenPassword.{WrittenPassword}
use Rattle.ks_written.specs.declared.written.WrittenPassword.TheVariants as password
use Rattle.ks_written.specs.declared.written.WrittenUser.{WrittenUser}
use Rattle.ks_written.specs.Entries.{Entry, entries, entries_from, listed}
use Rattle.ks_written.specs.Records.{record_in}

-- settings

abbrev pub default_settings : Settings
default_settings = record { url = codes "http://127.0.0.1:5000"; life = DEFAULT_LIFE; rounds = DEFAULT_ROUNDS; max_keys = DEFAULT_KEYS; folder = true }

-- a visible character of ASCII
abbrev pub is_visible : ℕ → Bool
is_visible b = nat_lt 32 b && nat_lt b 127

-- one line of visible ASCII that begins with the scheme of HTTP: it stands in fields of responses, where a line's end would begin another
abbrev pub is_url : List ℕ → Bool
is_url text = list_all is_visible text
    && (starts_with (λ a b. a == b) text (codes "http://") || starts_with (λ a b. a == b) text (codes "https://"))

unfoldable pub url_text : FieldType (List ℕ)
url_text value = do
  text ← text_of 1 URL_BYTES value
  _ ← need (is_url text) misfit.Range
  Ok text

unfoldable pub settings_at : Place → Result Settings ShapeFault
settings_at place = do
  url ← optional url_text (names (codes "url")) place
  life ← optional (whole SHORTEST_LIFE LONGEST_LIFE) (names (codes "life")) place
  rounds ← optional (whole 1 ROUNDS) (names (codes "rounds")) place
  most ← optional (whole FEWEST_KEYS KEYS) (names (codes "max_active_keys")) place
  Ok (record {
    url = unwrap_or url default_settings.url;
    life = unwrap_or life default_settings.life;
    rounds = unwrap_or rounds default_settings.rounds;
    max_keys = unwrap_or most default_settings.max_keys;
    folder = default_settings.folder;
  })

abbrev pub settings_in : Option Data → Result Settings ShapeFault
settings_in None = Ok default_settings
settings_in (Some value) = settings_at (record { path = codes "settings"; value = Some value })

-- | the settings that an opening file says
unfoldable pub settings_of : Place → Result Settings ShapeFault
settings_of file = do
  value ← optional_value (names (codes "settings")) file
  settings_in value

-- keys: the text `folder`, for which an absent member stands too, or a list of 1 to 32 texts

unfoldable pub folder_text : FieldType KeysFrom
folder_text value = do
  text ← any_text value
  _ ← need (bytes_eq text (codes "folder")) misfit.Range
  Ok keys.Folder

unfoldable pub key_in : Entry (List ℕ)
key_in entry = needed any_text [] entry

unfoldable pub key_texts : Place → Result KeysFrom ShapeFault
key_texts file = do
  items ← needed (list_of KEYS) (names (codes "keys")) file
  _ ← need (nat_lt 0 (count_of items)) (fault.Range (path_at (names (codes "keys")) file))
  texts ← entries_from key_in (names (codes "keys")) file 0 items
  Ok (keys.File texts)

abbrev pub folder_named : Place → Result KeysFrom ShapeFault
folder_named file = needed folder_text (names (codes "keys")) file

abbrev pub listed_or_named : Option Items → Place → Result KeysFrom ShapeFault
listed_or_named (Some items) file = key_texts file
listed_or_named None file = folder_named file

abbrev pub keys_from : Option Data → Place → Result KeysFrom ShapeFault
keys_from None file = Ok keys.Folder
keys_from (Some value) file = listed_or_named (as_array value) file

-- | its keys: the text `folder`, for which an absent member stands too, or a list of 1 to 32 texts
unfoldable pub keys_of : Place → Result KeysFrom ShapeFault
keys_of file = do
  value ← optional_value (names (codes "keys")) file
  keys_from value file

-- rows

-- | a domain of the file
unfoldable pub domain_in : Entry DomainRow
domain_in entry = do
  id ← needed id_text (names (codes "id")) entry
  name ← needed name_text (names (codes "name")) entry
  description ← optional description_text (names (codes "description")) entry
  enabled ← optional truth (names (codes "enabled")) entry
  Ok (record { id = id; name = name; description = unwrap_or description []; enabled = unwrap_or enabled true })

-- | the parent of a top project is its domain
unfoldable pub project_in : Entry ProjectRow
project_in entry = do
  id ← needed id_text (names (codes "id")) entry
  domain ← needed id_text (names (codes "domain_id")) entry
  parent ← optional id_text (names (codes "parent_id")) entry
  name ← needed name_text (names (codes "name")) entry
  description ← optional description_text (names (codes "description")) entry
  enabled ← optional truth (names (codes "enabled")) entry
  Ok (record {
    id = id;
    domain = domain;
    parent = unwrap_or parent domain;
    name = name;
    description = unwrap_or description [];
    enabled = unwrap_or enabled true;
  })

-- no value fits a field that may not be given
abbrev pub nothing : FieldType (Unit {0})
nothing value = Err misfit.Range

-- nothing stands there, or null
unfoldable pub absent : List (List ℕ) → Place → Result (Unit {0}) ShapeFault
absent names entry = do
  _ ← optional nothing names entry
  Ok tt

-- a plain password, or the record of one, or neither

unfoldable pub password_record : FieldType PasswordRow
password_record value = do
  text ← any_text value
  record_in text

abbrev pub plain_or_record : Option (List ℕ) → Entry (Option WrittenPassword)
plain_or_record (Some plain) entry = do
  _ ← absent (names (codes "password_record")) entry
  Ok (Some (password.Plain plain))
plain_or_record None entry = do
  row ← optional password_record (names (codes "password_record")) entry
  Ok (option_map password.Record row)

unfoldable pub password_in : Entry (Option WrittenPassword)
password_in entry = do
  plain ← optional password_text (names (codes "password")) entry
  plain_or_record plain entry

-- | a user, with a plain password, or the record of one, or neither
unfoldable pub user_in : Entry WrittenUser
user_in entry = do
  id ← needed id_text (names (codes "id")) entry
  domain ← needed id_text (names (codes "domain_id")) entry
  name ← needed name_text (names (codes "name")) entry
  enabled ← optional truth (names (codes "enabled")) entry
  password ← password_in entry
  Ok (record { id = id; domain = domain; name = name; enabled = unwrap_or enabled true; password = password })

-- | the other rows of the file, by kind
unfoldable pub group_in : Entry GroupRow
group_in entry = do
  id ← needed id_text (names (codes "id")) entry
  domain ← needed id_text (names (codes "domain_id")) entry
  name ← needed name_text (names (codes "name")) entry
  description ← optional description_text (names (codes "description")) entry
  Ok (record { id = id; domain = domain; name = name; description = unwrap_or description [] })

unfoldable pub member_in : Entry MemberRow
member_in entry = do
  group ← needed id_text (names (codes "group")) entry
  user ← needed id_text (names (codes "user")) entry
  Ok (record { group = group; user = user })

unfoldable pub role_in : Entry RoleRow
role_in entry = do
  id ← needed id_text (names (codes "id")) entry
  name ← needed name_text (names (codes "name")) entry
  description ← optional description_text (names (codes "description")) entry
  Ok (record { id = id; name = name; description = unwrap_or description [] })

unfoldable pub implication_in : Entry ImplyRow
implication_in entry = do
  prior ← needed id_text (names (codes "prior")) entry
  implied ← needed id_text (names (codes "implied")) entry
  Ok (record { prior = prior; implied = implied })

unfoldable pub region_in : Entry RegionRow
region_in entry = do
  id ← needed id_text (names (codes "id")) entry
  parent ← optional id_text (names (codes "parent_region_id")) entry
  description ← optional description_text (names (codes "description")) entry
  Ok (record { id = id; parent = parent; description = unwrap_or description [] })

unfoldable pub service_in : Entry ServiceRow
service_in entry = do
  id ← needed id_text (names (codes "id")) entry
  kind ← needed service_text (names (codes "type")) entry
  name ← optional service_text (names (codes "name")) entry
  description ← optional description_text (names (codes "description")) entry
  enabled ← optional truth (names (codes "enabled")) entry
  Ok (record {
    id = id;
    kind = kind;
    name = unwrap_or name [];
    description = unwrap_or description [];
    enabled = unwrap_or enabled true;
  })

unfoldable pub endpoint_in : Entry EndpointRow
endpoint_in entry = do
  id ← needed id_text (names (codes "id")) entry
  service ← needed id_text (names (codes "service_id")) entry
  interface ← needed interface_text (names (codes "interface")) entry
  url ← needed endpoint_url (names (codes "url")) entry
  region ← optional id_text (names (codes "region_id")) entry
  enabled ← optional truth (names (codes "enabled")) entry
  Ok (record {
    id = id;
    service = service;
    region = region;
    interface = interface;
    url = url;
    enabled = unwrap_or enabled true;
  })

-- | exactly one of a user and a group; where neither is given, the user is needed

abbrev pub group_or_needed : Option (List ℕ) → Entry Actor
group_or_needed (Some id) entry = Ok (actor.Group id)
group_or_needed None entry = do
  id ← needed id_text (names (codes "user")) entry
  Ok (actor.User id)

abbrev pub user_or_group : Option (List ℕ) → Entry Actor
user_or_group (Some id) entry = do
  _ ← absent (names (codes "group")) entry
  Ok (actor.User id)
user_or_group None entry = do
  group ← optional id_text (names (codes "group")) entry
  group_or_needed group entry

unfoldable pub actor_in : Entry Actor
actor_in entry = do
  user ← optional id_text (names (codes "user")) entry
  user_or_group user entry

-- | exactly one of a project, a domain and the system, which true alone names; where none is given, the project is needed

abbrev pub system_or_needed : Option Bool → Entry Target
system_or_needed (Some all) entry = Ok target.System
system_or_needed None entry = do
  id ← needed id_text (names (codes "project")) entry
  Ok (target.Project id)

abbrev pub domain_or_system : Option (List ℕ) → Entry Target
domain_or_system (Some id) entry = do
  _ ← absent (names (codes "system")) entry
  Ok (target.Domain id)
domain_or_system None entry = do
  system ← optional affirmation (names (codes "system")) entry
  system_or_needed system entry

abbrev pub project_or_other : Option (List ℕ) → Entry Target
project_or_other (Some id) entry = do
  _ ← absent (names (codes "domain")) entry
  _ ← absent (names (codes "system")) entry
  Ok (target.Project id)
project_or_other None entry = do
  domain ← optional id_text (names (codes "domain")) entry
  domain_or_system domain entry

unfoldable pub target_in : Entry Target
target_in entry = do
  project ← optional id_text (names (codes "project")) entry
  project_or_other project entry

-- | no grant on the system is inherited
abbrev pub inherited_at : Target → Place → Result (Option Bool) ShapeFault
inherited_at (target.Project id) entry = optional truth (names (codes "inherited")) entry
inherited_at (target.Domain id) entry = optional truth (names (codes "inherited")) entry
inherited_at target.System entry = optional falsehood (names (codes "inherited")) entry

unfoldable pub grant_in : Entry GrantRow
grant_in entry = do
  actor ← actor_in entry
  target ← target_in entry
  role ← needed id_text (names (codes "role")) entry
  inherited ← inherited_at target entry
  Ok (record { actor = actor; target = target; inherited = unwrap_or inherited false; role = role })

-- the whole file

-- the keys are those of the folder
abbrev pub is_folder : KeysFrom → Bool
is_folder keys.Folder = true
is_folder (keys.File texts) = false

-- the domain that there is where the file lists none
abbrev pub default_domain : DomainRow
default_domain = record { id = codes "default"; name = codes "Default"; description = []; enabled = true }

-- what a document says, or its first fault
unfoldable pub written_in : Place → Result Written ShapeFault
written_in file = do
  settings ← settings_of file
  keys ← keys_of file
  domains ← listed domain_in (names (codes "domains")) file
  projects ← entries project_in (names (codes "projects")) file
  users ← entries user_in (names (codes "users")) file
  groups ← entries group_in (names (codes "groups")) file
  members ← entries member_in (names (codes "members")) file
  roles ← entries role_in (names (codes "roles")) file
  implications ← entries implication_in (names (codes "implications")) file
  regions ← entries region_in (names (codes "regions")) file
  services ← entries service_in (names (codes "services")) file
  endpoints ← entries endpoint_in (names (codes "endpoints")) file
  assignments ← entries grant_in (names (codes "assignments")) file
  Ok (record {
    settings = record settings { folder = is_folder keys };
    keys = keys;
    domains = unwrap_or domains (default_domain ∷ []);
    projects = projects;
    users = users;
    groups = groups;
    members = members;
    roles = roles;
    implications = implications;
    regions = regions;
    services = services;
    endpoints = endpoints;
    assignments = assignments;
  })

-- the JSON document that a file is, of 16 MiB at most
unfoldable pub document_of : List ℕ → Result Data ShapeFault
document_of text = do
  _ ← need (nat_le (length text) OPENING_BYTES) (fault.Range [])
  found (document text) fault.NotJson

-- | what an opening file says apart from its policy, or its first fault in the order of its members, entries and fields
unfoldable pub file_of : List ℕ → Result Written ShapeFault
file_of text = do
  value ← document_of text
  written_in (whole_document value)

-- whether the keys come from the folder
unfoldable pub folder_wanted : List ℕ → Result Bool ShapeFault
folder_wanted text = do
  written ← file_of text
  Ok (is_folder written.keys)
