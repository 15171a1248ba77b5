-- What a drill opens with: a domain, a project, its administrator, and sixteen roles that imply each other in a ring.
use Rattle.std.specs.Prelude.{ℕ, zero, suc, ◌+◌, ◌%◌, true, false, List, [], ◌∷◌, ◌++◌, replicate, Some, codes, decimal}
use Rattle.ks_base.specs.declared.grants.Actor.TheVariants as actor
use Rattle.ks_base.specs.declared.grants.GrantRow.{GrantRow}
use Rattle.ks_base.specs.declared.grants.ImplyRow.{ImplyRow}
use Rattle.ks_base.specs.declared.grants.Target.TheVariants as target
use Rattle.ks_base.specs.declared.key.Key.{Key}
use Rattle.ks_base.specs.declared.limits.TheConstants.{DEFAULT_KEYS, DEFAULT_LIFE}
use Rattle.ks_base.specs.declared.rows.DomainRow.{DomainRow}
use Rattle.ks_base.specs.declared.rows.ProjectRow.{ProjectRow}
use Rattle.ks_base.specs.declared.rows.RoleRow.{RoleRow}
use Rattle.ks_base.specs.declared.users.PasswordRow.{PasswordRow}
use Rattle.ks_base.specs.declared.users.UserRow.{UserRow}
use Rattle.ks_base.specs.Rows.{Id, Text}
use Rattle.ks_hmac.specs.Pbkdf2.{pbkdf2_of}
use Rattle.ks_machine.specs.declared.settings.Settings.{Settings}
use Rattle.ks_machine.specs.Openings.{NamedRule, PlainOpening}

-- | a word with a number behind it, as `p0`
abbrev pub numbered : Text → ℕ → Text
numbered word number = word ++ decimal number

-- what is made of each number below this one
unfoldable pub each_below : {A : Type 0} → (ℕ → A) → ℕ → List A
each_below f zero = []
each_below f (suc n) = each_below f n ++ f n ∷ []

-- the id and the name of the project, the user and the user's password
abbrev pub root : Text
root = codes "root"

abbrev pub admin : Text
admin = codes "admin"

abbrev pub home : Id
home = codes "default"

-- rows

abbrev pub drill_settings : Settings
drill_settings = record { url = codes "http://127.0.0.1:5000"; life = DEFAULT_LIFE; rounds = 1; max_keys = DEFAULT_KEYS; folder = false }

abbrev pub first_key : Key
first_key = record {
  signing = 0 ∷ 1 ∷ 2 ∷ 3 ∷ 4 ∷ 5 ∷ 6 ∷ 7 ∷ 8 ∷ 9 ∷ 10 ∷ 11 ∷ 12 ∷ 13 ∷ 14 ∷ 15 ∷ [];
  encryption = 16 ∷ 17 ∷ 18 ∷ 19 ∷ 20 ∷ 21 ∷ 22 ∷ 23 ∷ 24 ∷ 25 ∷ 26 ∷ 27 ∷ 28 ∷ 29 ∷ 30 ∷ 31 ∷ [];
}

abbrev pub second_key : Key
second_key = record {
  signing = 115 ∷ 15 ∷ 244 ∷ 199 ∷ 175 ∷ 61 ∷ 70 ∷ 146 ∷ 62 ∷ 142 ∷ 212 ∷ 81 ∷ 238 ∷ 129 ∷ 60 ∷ 135 ∷ [];
  encryption = 247 ∷ 144 ∷ 176 ∷ 162 ∷ 38 ∷ 188 ∷ 150 ∷ 169 ∷ 45 ∷ 228 ∷ 155 ∷ 94 ∷ 156 ∷ 5 ∷ 225 ∷ 238 ∷ [];
}

abbrev pub home_row : DomainRow
home_row = record { id = home; name = codes "Default"; description = []; enabled = true }

abbrev pub root_project : ProjectRow
root_project = record { id = root; domain = home; parent = home; name = root; description = []; enabled = true }

abbrev pub no_salt : List ℕ
no_salt = replicate 16 0

abbrev pub root_password : PasswordRow
root_password = record { salt = no_salt; rounds = 1; digest = pbkdf2_of root no_salt 1 }

abbrev pub root_user : UserRow
root_user = record { id = root; domain = home; name = root; enabled = true; password = Some root_password }

abbrev pub role_named : Text → RoleRow
role_named name = record { id = name; name = name; description = [] }

abbrev pub role_id : ℕ → Id
role_id number = numbered (codes "r") number

-- how many roles imply each other
abbrev pub ring_roles : ℕ
ring_roles = 16

-- each role of the ring implies the next, and the last one the first
abbrev pub ring_link : ℕ → ImplyRow
ring_link number = record { prior = role_id number; implied = role_id ((number + 1) % ring_roles) }

abbrev pub root_grant : GrantRow
root_grant = record { actor = actor.User root; target = target.Project root; inherited = false; role = admin }

-- | what a drill opens with, by these rules: a domain, a project with its administrator, and sixteen roles of which each implies the next,
-- in a ring
unfoldable pub drill_opening : List NamedRule → PlainOpening
drill_opening rules = record {
  settings = drill_settings;
  rules = rules;
  ring = (0, first_key) ∷ (1, second_key) ∷ [];
  domains = home_row ∷ [];
  projects = root_project ∷ [];
  users = root_user ∷ [];
  groups = [];
  members = [];
  roles = role_named admin ∷ each_below (λ number. role_named (role_id number)) ring_roles;
  implications = each_below ring_link ring_roles;
  regions = [];
  services = [];
  endpoints = [];
  assignments = root_grant ∷ [];
}
