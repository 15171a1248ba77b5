-- What a file of the right form opens with is in range.
use Rattle.std.proofs.Common.{◌≡◌, ℕ, suc, Bool, true, false, if◌then◌else◌, List, [], ◌∷◌, Option, Some, None, Ok, refl, sym, subst, arith}
use Rattle.std.specs.Prelude.{Result, IfOk, IfSome, codes, decimal, option_and_then, option_map, take, unwrap_or}
use Rattle.std.specs.Int.{IsInRange}
use Rattle.std.specs.List.{AllByRecursion}
use Rattle.std.specs.Str.{bytes_eq}
use Rattle.serde_json.specs.Data.{Data, Items, no_items, item}
use Rattle.ks_base.specs.declared.limits.TheConstants.{OPENING_BYTES}
use Rattle.ks_base.specs.declared.shapes.ShapeFault.{ShapeFault}
use Rattle.ks_base.specs.declared.users.PasswordRow.{PasswordRow}
use Rattle.ks_base.specs.Results.{found, need}
use Rattle.ks_machine.specs.declared.settings.Settings.{Settings}
use Rattle.ks_machine.specs.Ranges.{AreRounds, IsDescription, IsDomainInRange, IsEndpointInRange, IsEndpointUrl, IsGroupInRange, IsName, IsProjectInRange, IsRegionInRange, IsRoleInRange, IsServiceInRange, IsServiceText, IsSettings, IsUserInRange}
use Rattle.ks_shape.specs.Bodies.{whole_document}
use Rattle.ks_shape.specs.Fields.{needed, optional, optional_value}
use Rattle.ks_shape.specs.Places.{Place, entry_at, names}
use Rattle.ks_shape.specs.declared.misfit.Misfit.{Misfit}
use Rattle.ks_shape.specs.declared.misfit.Misfit.TheVariants as misfit
use Rattle.ks_shape.specs.Types.{any_text, description_text, endpoint_url, id_text, interface_text, list_of, name_text, password_text, service_text, truth, whole}
use Rattle.ks_shape.proofs.CatalogLemmas.{service_text_in, url_in}
use Rattle.ks_shape.proofs.PropertyLemmas.{If, needed_in, optional_in, skip, step}
use Rattle.ks_shape.proofs.RangeLemmas.{described, name_in, whole_in}
use Rattle.ks_written.specs.declared.written.Written.{Written}
use Rattle.ks_written.specs.declared.written.WrittenPassword.{WrittenPassword}
use Rattle.ks_written.specs.declared.written.WrittenPassword.TheVariants as password
use Rattle.ks_written.specs.declared.written.WrittenUser.{WrittenUser}
use Rattle.ks_written.specs.Entries.{Entry, entries, entries_from, if_listed, listed}
use Rattle.ks_setup.specs.Openings.{password_row, users_from}
use Rattle.ks_setup.specs.Ranges.{OpensInRange}
use Rattle.ks_written.specs.Records.{counted_in, cut, record_in, rounds_in, salted_in, scheme, written_as, bytes_in}
use Rattle.ks_words.specs.Words.{number_between}
use Rattle.ks_words.proofs.NumberLemmas.{number_within}
use Rattle.ks_written.specs.Written.{absent, default_domain, default_settings, document_of, domain_in, endpoint_in, file_of, grant_in, group_in, implication_in, is_folder, keys_of, member_in, password_in, password_record, plain_or_record, project_in, region_in, role_in, service_in, settings_at, settings_in, settings_of, url_text, user_in, written_in}

-- fields

-- what stands for an absent field has the property too
or_else : {A : Type 0} (P : A → Type 0) (value : Option A) (other : A) → IfSome value P → P other → P (unwrap_or value other)
or_else P (Some a) other is stands = is
or_else P None other is stands = stands

-- settings

default_in : IsSettings default_settings
default_in = record {
  life_least = omega arith;
  life_most = omega arith;
  rounds = (omega arith, omega arith);
  keys_least = omega arith;
  keys_most = omega arith;
}

settings_in_range : (place : Place) → IfOk (settings_at place) IsSettings
unfolding settings_at
settings_in_range place =
    skip IsSettings (optional url_text (names (codes "url")) place) _ (λ url.
    step IsSettings (If (IsInRange 60 604800)) (optional (whole 60 604800) (names (codes "life")) place) _
    (optional_in (IsInRange 60 604800) (whole 60 604800) (whole_in 60 604800) (names (codes "life")) place) (λ life is_life.
    step IsSettings (If (IsInRange 1 100000)) (optional (whole 1 100000) (names (codes "rounds")) place) _
    (optional_in (IsInRange 1 100000) (whole 1 100000) (whole_in 1 100000) (names (codes "rounds")) place) (λ rounds are_rounds.
    step IsSettings (If (IsInRange 2 32)) (optional (whole 2 32) (names (codes "max_active_keys")) place) _
    (optional_in (IsInRange 2 32) (whole 2 32) (whole_in 2 32) (names (codes "max_active_keys")) place) (λ most are_most.
    let long = or_else (IsInRange 60 604800) life 3600 is_life (omega arith, omega arith) in
    let many = or_else (IsInRange 1 100000) rounds 10000 are_rounds (omega arith, omega arith) in
    let few = or_else (IsInRange 2 32) most 3 are_most (omega arith, omega arith) in
    record { life_least = long.0; life_most = long.1; rounds = many; keys_least = few.0; keys_most = few.1 }))))

given_settings : (value : Option Data) → IfOk (settings_in value) IsSettings
given_settings None = default_in
given_settings (Some value) = settings_in_range (record { path = codes "settings"; value = Some value })

settings_are : (file : Place) → IfOk (settings_of file) IsSettings
unfolding settings_of
settings_are file = skip IsSettings (optional_value (names (codes "settings")) file) _ (λ value. given_settings value)

-- rows

domain_is : (entry : Place) → IfOk (domain_in entry) IsDomainInRange
unfolding domain_in
domain_is entry =
    skip IsDomainInRange (needed id_text (names (codes "id")) entry) _ (λ id.
    step IsDomainInRange IsName (needed name_text (names (codes "name")) entry) _ (needed_in IsName name_text name_in _ entry) (λ name is_name.
    step IsDomainInRange (If IsDescription) (optional description_text (names (codes "description")) entry) _ (described _ entry) (λ description is.
    skip IsDomainInRange (optional truth (names (codes "enabled")) entry) _ (λ enabled.
    (is_name, or_else IsDescription description [] is (omega arith))))))

project_is : (entry : Place) → IfOk (project_in entry) IsProjectInRange
unfolding project_in
project_is entry =
    skip IsProjectInRange (needed id_text (names (codes "id")) entry) _ (λ id.
    skip IsProjectInRange (needed id_text (names (codes "domain_id")) entry) _ (λ domain.
    skip IsProjectInRange (optional id_text (names (codes "parent_id")) entry) _ (λ parent.
    step IsProjectInRange IsName (needed name_text (names (codes "name")) entry) _ (needed_in IsName name_text name_in _ entry) (λ name is_name.
    step IsProjectInRange (If IsDescription) (optional description_text (names (codes "description")) entry) _ (described _ entry) (λ description is.
    skip IsProjectInRange (optional truth (names (codes "enabled")) entry) _ (λ enabled.
    (is_name, or_else IsDescription description [] is (omega arith))))))))

-- the rounds of a record
abbrev AreCounted : PasswordRow → Type 0
AreCounted row = AreRounds row.rounds

abbrev IsRecorded : WrittenPassword → Type 0
IsRecorded (password.Plain text) = Unit {0}
IsRecorded (password.Record row) = AreCounted row

written_within : (word : List ℕ) (number : Option ℕ) → ((n : ℕ) → number ≡ Some n → AreRounds n) → IfSome (option_and_then (written_as word) number) AreRounds
written_within word None within = tt
written_within word (Some n) within = spelled (bytes_eq (decimal n) word)
  where
    spelled : (b : Bool) → IfSome (if b then Some n else None) AreRounds
    spelled true = within n refl
    spelled false = tt

rounds_are : (word : List ℕ) → IfSome (rounds_in word) AreRounds
unfolding rounds_in
rounds_are word = written_within word (number_between 1 100000 word) (number_within 1 100000 word)

found_are : {A : Type 0} (P : A → Type 0) (value : Option A) (fault : Misfit) → IfSome value P → IfOk (found value fault) P
found_are P None fault is = tt
found_are P (Some a) fault is = is

salted_is : (rounds : ℕ) (text : List ℕ) → AreRounds rounds → IfOk (salted_in rounds text) AreCounted
unfolding salted_in
salted_is rounds text are =
    skip AreCounted (found (cut text) misfit.Range) _ (λ parts.
    skip AreCounted (found (bytes_in 16 parts.0) misfit.Range) _ (λ salt.
    skip AreCounted (found (bytes_in 32 parts.1) misfit.Range) _ (λ digest. are)))

counted_is : (text : List ℕ) → IfOk (counted_in text) AreCounted
unfolding counted_in
counted_is text =
    skip AreCounted (found (cut text) misfit.Range) _ (λ parts.
    step AreCounted AreRounds (found (rounds_in parts.0) misfit.Range) _ (found_are AreRounds (rounds_in parts.0) misfit.Range (rounds_are parts.0)) (λ rounds are.
    salted_is rounds parts.1 are))

record_is : (text : List ℕ) → IfOk (record_in text) AreCounted
unfolding record_in
record_is text =
    skip AreCounted (found (cut text) misfit.Range) _ (λ parts.
    skip AreCounted (need (bytes_eq parts.0 scheme) misfit.Range) _ (λ known. counted_is parts.1))

password_record_is : (value : Data) → IfOk (password_record value) AreCounted
unfolding password_record
password_record_is value = skip AreCounted (any_text value) _ (λ text. record_is text)

recorded : (row : Option PasswordRow) → If AreCounted row → If IsRecorded (option_map password.Record row)
recorded None are = tt
recorded (Some row) are = are

plain_or_is : (plain : Option (List ℕ)) (entry : Place) → IfOk (plain_or_record plain entry) (If IsRecorded)
plain_or_is (Some text) entry = skip (If IsRecorded) (absent (names (codes "password_record")) entry) _ (λ nothing. tt)
plain_or_is None entry =
    step (If IsRecorded) (If AreCounted) (optional password_record (names (codes "password_record")) entry) _
    (optional_in AreCounted password_record password_record_is (names (codes "password_record")) entry) (λ row are. recorded row are)

password_is : (entry : Place) → IfOk (password_in entry) (If IsRecorded)
unfolding password_in
password_is entry = skip (If IsRecorded) (optional password_text (names (codes "password")) entry) _ (λ plain. plain_or_is plain entry)

abbrev IsUser : WrittenUser → Type 0
IsUser user = IsName user.name × If IsRecorded user.password

user_is : (entry : Place) → IfOk (user_in entry) IsUser
unfolding user_in
user_is entry =
    skip IsUser (needed id_text (names (codes "id")) entry) _ (λ id.
    skip IsUser (needed id_text (names (codes "domain_id")) entry) _ (λ domain.
    step IsUser IsName (needed name_text (names (codes "name")) entry) _ (needed_in IsName name_text name_in _ entry) (λ name is_name.
    skip IsUser (optional truth (names (codes "enabled")) entry) _ (λ enabled.
    step IsUser (If IsRecorded) (password_in entry) _ (password_is entry) (λ given is_recorded. (is_name, is_recorded))))))

group_is : (entry : Place) → IfOk (group_in entry) IsGroupInRange
unfolding group_in
group_is entry =
    skip IsGroupInRange (needed id_text (names (codes "id")) entry) _ (λ id.
    skip IsGroupInRange (needed id_text (names (codes "domain_id")) entry) _ (λ domain.
    step IsGroupInRange IsName (needed name_text (names (codes "name")) entry) _ (needed_in IsName name_text name_in _ entry) (λ name is_name.
    step IsGroupInRange (If IsDescription) (optional description_text (names (codes "description")) entry) _ (described _ entry) (λ description is.
    (is_name, or_else IsDescription description [] is (omega arith))))))

role_is : (entry : Place) → IfOk (role_in entry) IsRoleInRange
unfolding role_in
role_is entry =
    skip IsRoleInRange (needed id_text (names (codes "id")) entry) _ (λ id.
    step IsRoleInRange IsName (needed name_text (names (codes "name")) entry) _ (needed_in IsName name_text name_in _ entry) (λ name is_name.
    step IsRoleInRange (If IsDescription) (optional description_text (names (codes "description")) entry) _ (described _ entry) (λ description is.
    (is_name, or_else IsDescription description [] is (omega arith)))))

region_is : (entry : Place) → IfOk (region_in entry) IsRegionInRange
unfolding region_in
region_is entry =
    skip IsRegionInRange (needed id_text (names (codes "id")) entry) _ (λ id.
    skip IsRegionInRange (optional id_text (names (codes "parent_region_id")) entry) _ (λ parent.
    step IsRegionInRange (If IsDescription) (optional description_text (names (codes "description")) entry) _ (described _ entry) (λ description is.
    or_else IsDescription description [] is (omega arith))))

service_is : (entry : Place) → IfOk (service_in entry) IsServiceInRange
unfolding service_in
service_is entry =
    skip IsServiceInRange (needed id_text (names (codes "id")) entry) _ (λ id.
    step IsServiceInRange IsServiceText (needed service_text (names (codes "type")) entry) _ (needed_in IsServiceText service_text service_text_in _ entry) (λ kind is_kind.
    step IsServiceInRange (If IsServiceText) (optional service_text (names (codes "name")) entry) _ (optional_in IsServiceText service_text service_text_in _ entry) (λ name is_name.
    step IsServiceInRange (If IsDescription) (optional description_text (names (codes "description")) entry) _ (described _ entry) (λ description is.
    skip IsServiceInRange (optional truth (names (codes "enabled")) entry) _ (λ enabled.
    (is_kind, or_else IsServiceText name [] is_name (omega arith), or_else IsDescription description [] is (omega arith)))))))

endpoint_is : (entry : Place) → IfOk (endpoint_in entry) IsEndpointInRange
unfolding endpoint_in
endpoint_is entry =
    skip IsEndpointInRange (needed id_text (names (codes "id")) entry) _ (λ id.
    skip IsEndpointInRange (needed id_text (names (codes "service_id")) entry) _ (λ service.
    skip IsEndpointInRange (needed interface_text (names (codes "interface")) entry) _ (λ interface.
    step IsEndpointInRange IsEndpointUrl (needed endpoint_url (names (codes "url")) entry) _ (needed_in IsEndpointUrl endpoint_url url_in _ entry) (λ url is_url.
    skip IsEndpointInRange (optional id_text (names (codes "region_id")) entry) _ (λ region.
    skip IsEndpointInRange (optional truth (names (codes "enabled")) entry) _ (λ enabled. is_url))))))

-- lists

abbrev Are : {A : Type 0} → (A → Type 0) → List A → Type 0
Are P rows = AllByRecursion P rows

from_in : {A : Type 0} (P : A → Type 0) (entry : Entry A) → ((place : Place) → IfOk (entry place) P)
    → (names : List (List ℕ)) (file : Place) (number : ℕ) (items : Items) → IfOk (entries_from entry names file number items) (Are P)
unfolding entries_from
from_in P entry each names file number no_items = tt
from_in P entry each names file number (item value items) =
    step (Are P) P (entry (entry_at names number value file)) _ (each _) (λ first is.
    step (Are P) (Are P) (entries_from entry names file (suc number) items) _ (from_in P entry each names file (suc number) items) (λ others are.
    (is, are)))

if_in : {A : Type 0} (P : A → Type 0) (entry : Entry A) → ((place : Place) → IfOk (entry place) P)
    → (names : List (List ℕ)) (file : Place) (items : Option Items) → IfOk (if_listed entry names file items) (If (Are P))
if_in P entry each names file None = tt
if_in P entry each names file (Some items) =
    step (If (Are P)) (Are P) (entries_from entry names file 0 items) (λ rows. Ok (Some rows)) (from_in P entry each names file 0 items) (λ rows are. are)

listed_in : {A : Type 0} (P : A → Type 0) (entry : Entry A) → ((place : Place) → IfOk (entry place) P)
    → (names : List (List ℕ)) (file : Place) → IfOk (listed entry names file) (If (Are P))
unfolding listed
listed_in P entry each names file =
    skip (If (Are P)) (optional (list_of OPENING_BYTES) names file) _ (λ items. if_in P entry each names file items)

entries_in : {A : Type 0} (P : A → Type 0) (entry : Entry A) → ((place : Place) → IfOk (entry place) P)
    → (names : List (List ℕ)) (file : Place) → IfOk (entries entry names file) (Are P)
unfolding entries
entries_in P entry each names file =
    step (Are P) (If (Are P)) (listed entry names file) (λ rows. Ok (unwrap_or rows [])) (listed_in P entry each names file)
    (λ rows are. or_else (Are P) rows [] are tt)

-- the file

record AreInRange (written : Written) : Type 0 where
  settings : IsSettings written.settings
  domains : Are IsDomainInRange written.domains
  projects : Are IsProjectInRange written.projects
  users : Are IsUser written.users
  groups : Are IsGroupInRange written.groups
  roles : Are IsRoleInRange written.roles
  regions : Are IsRegionInRange written.regions
  services : Are IsServiceInRange written.services
  endpoints : Are IsEndpointInRange written.endpoints

with_folder : (settings : Settings) (folder : Bool) → IsSettings settings → IsSettings (record settings { folder = folder })
with_folder settings folder is = record {
  life_least = is.life_least;
  life_most = is.life_most;
  rounds = is.rounds;
  keys_least = is.keys_least;
  keys_most = is.keys_most;
}

default_domain_is : Are IsDomainInRange (default_domain ∷ [])
default_domain_is = (((omega arith, omega arith), omega arith), tt)

written_are : (file : Place) → IfOk (written_in file) AreInRange
unfolding written_in
written_are file =
    step AreInRange IsSettings (settings_of file) _ (settings_are file) (λ settings are_settings.
    skip AreInRange (keys_of file) _ (λ keys.
    step AreInRange (If (Are IsDomainInRange)) (listed domain_in (names (codes "domains")) file) _ (listed_in IsDomainInRange domain_in domain_is _ file) (λ domains are_domains.
    step AreInRange (Are IsProjectInRange) (entries project_in (names (codes "projects")) file) _ (entries_in IsProjectInRange project_in project_is _ file) (λ projects are_projects.
    step AreInRange (Are IsUser) (entries user_in (names (codes "users")) file) _ (entries_in IsUser user_in user_is _ file) (λ users are_users.
    step AreInRange (Are IsGroupInRange) (entries group_in (names (codes "groups")) file) _ (entries_in IsGroupInRange group_in group_is _ file) (λ groups are_groups.
    skip AreInRange (entries member_in (names (codes "members")) file) _ (λ members.
    step AreInRange (Are IsRoleInRange) (entries role_in (names (codes "roles")) file) _ (entries_in IsRoleInRange role_in role_is _ file) (λ roles are_roles.
    skip AreInRange (entries implication_in (names (codes "implications")) file) _ (λ implications.
    step AreInRange (Are IsRegionInRange) (entries region_in (names (codes "regions")) file) _ (entries_in IsRegionInRange region_in region_is _ file) (λ regions are_regions.
    step AreInRange (Are IsServiceInRange) (entries service_in (names (codes "services")) file) _ (entries_in IsServiceInRange service_in service_is _ file) (λ services are_services.
    step AreInRange (Are IsEndpointInRange) (entries endpoint_in (names (codes "endpoints")) file) _ (entries_in IsEndpointInRange endpoint_in endpoint_is _ file) (λ endpoints are_endpoints.
    skip AreInRange (entries grant_in (names (codes "assignments")) file) _ (λ assignments.
    record {
      settings = with_folder settings (is_folder keys) are_settings;
      domains = or_else (Are IsDomainInRange) domains (default_domain ∷ []) are_domains default_domain_is;
      projects = are_projects;
      users = are_users;
      groups = are_groups;
      roles = are_roles;
      regions = are_regions;
      services = are_services;
      endpoints = are_endpoints;
    })))))))))))))

file_are : (text : List ℕ) → IfOk (file_of text) AreInRange
unfolding file_of
file_are text = skip AreInRange (document_of text) _ (λ value. written_are (whole_document value))

-- the opening

row_is : (rounds : ℕ) (given : Option WrittenPassword) (salt : List ℕ) → AreRounds rounds → If IsRecorded given → IfSome (password_row rounds given salt) AreCounted
row_is rounds None salt are is = tt
row_is rounds (Some (password.Plain text)) salt are is = are
row_is rounds (Some (password.Record row)) salt are is = is

users_are : (rounds : ℕ) (users : List WrittenUser) (drawn : List ℕ) → AreRounds rounds → Are IsUser users → Are IsUserInRange (users_from rounds users drawn)
unfolding users_from
users_are rounds [] drawn many are = tt
users_are rounds (user ∷ users) drawn many are =
    ((are.0.0, row_is rounds user.password (take 16 drawn) many are.0.1), users_are rounds users _ many are.1)

pub opens_in_range : OpensInRange
opens_in_range text held drawn opening opens =
    let written = opens.written in
    let said : AreInRange written = subst (λ (r : Result Written ShapeFault). IfOk r AreInRange) opens.form (file_are text) in
    record {
      settings = subst IsSettings (sym opens.settings) said.settings;
      domains = subst (Are IsDomainInRange) (sym opens.domains) said.domains;
      projects = subst (Are IsProjectInRange) (sym opens.projects) said.projects;
      users = subst (Are IsUserInRange) (sym opens.users) (users_are written.settings.rounds written.users drawn said.settings.rounds said.users);
      groups = subst (Are IsGroupInRange) (sym opens.groups) said.groups;
      roles = subst (Are IsRoleInRange) (sym opens.roles) said.roles;
      regions = subst (Are IsRegionInRange) (sym opens.regions) said.regions;
      services = subst (Are IsServiceInRange) (sym opens.services) said.services;
      endpoints = subst (Are IsEndpointInRange) (sym opens.endpoints) said.endpoints;
    }
