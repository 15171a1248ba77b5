-- The line that a person reads for each fault of an opening file: where it is, and what is wrong there.
use Rattle.std.specs.Prelude.{ℕ, ◌==◌, Bool, if◌then◌else◌, List, [], ◌∷◌, codes, decimal, Result, Ok, Err}
use Rattle.std.specs.List.{concat, ends_with, list_any, starts_with}
use Rattle.ks_base.specs.declared.limits.TheConstants.{OPENING_BYTES}
use Rattle.ks_base.specs.declared.shapes.ShapeFault.{ShapeFault}
use Rattle.ks_base.specs.declared.shapes.ShapeFault.TheVariants as fault
use Rattle.ks_machine.specs.declared.settings.OpenFault.{OpenFault}
use Rattle.ks_policy.specs.declared.fault.PolicyFault.{PolicyFault}
use Rattle.ks_policy.specs.declared.fault.PolicyFault.TheVariants as policy
use Rattle.ks_setup.specs.declared.opening.OpeningFault.{OpeningFault}
use Rattle.ks_setup.specs.declared.opening.OpeningFault.TheVariants.{Shape, Policy, BadKey, Random, Memory}
use Rattle.ks_written.specs.declared.written.Written.{Written}
use Rattle.ks_lines.specs.RowLines.{row_line}
use Rattle.ks_lines.specs.Spots.{quoted}
use Rattle.ks_written.specs.Written.{file_of}

-- what is wanted at a path

abbrev pub begins : List ℕ → List ℕ → Bool
begins path front = starts_with (λ a b. a == b) path front

abbrev pub ends : List ℕ → List ℕ → Bool
ends path back = ends_with (λ a b. a == b) path back

-- of an assignment exactly one actor and one target stand
abbrev pub grant_wanted : List ℕ → List ℕ
grant_wanted path =
    if ends path (codes ".user") then codes "an id, of a user or else of a group," else
    (if ends path (codes ".group") then codes "an id, of a user or else of a group," else
    (if ends path (codes ".project") then codes "an id, of a project or else of a domain, or else \"system\": true," else
    (if ends path (codes ".domain") then codes "an id, of a project or else of a domain, or else \"system\": true," else
    (if ends path (codes ".system") then codes "true, in place of a project or a domain," else
    codes "an id of 1 to 64 of the characters 0-9 A-Z a-z _ -"))))

abbrev pub id_wanted : List ℕ → List ℕ
id_wanted path =
    if begins path (codes "assignments[") then grant_wanted path
    else codes "an id of 1 to 64 of the characters 0-9 A-Z a-z _ -"

abbrev pub row_wanted : List ℕ → List ℕ
row_wanted path =
    if ends path (codes ".name") then codes "a text of 1 to 255 bytes" else
    (if ends path (codes ".description") then codes "a text of at most 4096 bytes" else
    (if ends path (codes ".password") then codes "a text of 1 to 4096 bytes" else
    (if ends path (codes ".password_record") then codes "a text pbkdf2_sha256$ROUNDS$SALT$DIGEST in place of a password" else
    (if ends path (codes ".enabled") then codes "true or false" else
    (if ends path (codes ".inherited") then codes "true or false, and not true on the system," else id_wanted path)))))

abbrev pub service_wanted : List ℕ → List ℕ
service_wanted path =
    if ends path (codes ".type") then codes "a text of at most 255 bytes" else
    (if ends path (codes ".name") then codes "a text of at most 255 bytes" else row_wanted path)

abbrev pub endpoint_wanted : List ℕ → List ℕ
endpoint_wanted path =
    if ends path (codes ".interface") then codes "the text \"public\", \"internal\" or \"admin\"" else
    (if ends path (codes ".url") then codes "a text of 1 to 2048 bytes" else row_wanted path)

abbrev pub field_wanted : List ℕ → List ℕ
field_wanted path =
    if begins path (codes "services[") then service_wanted path else
    (if begins path (codes "endpoints[") then endpoint_wanted path else row_wanted path)

abbrev pub url_wanted : List ℕ
url_wanted = codes "a URL of at most 1024 visible characters that begins with http:// or https://"

abbrev pub setting_wanted : List ℕ → List ℕ
setting_wanted path =
    if ends path (codes ".life") then codes "a whole number from 60 to 604800" else
    (if ends path (codes ".rounds") then codes "a whole number from 1 to 100000" else
    (if ends path (codes ".max_active_keys") then codes "a whole number from 2 to 32" else url_wanted))

-- of the file itself, its members and their entries
abbrev pub member_wanted : List ℕ → List ℕ
member_wanted [] = codes "an object"
member_wanted (b ∷ path) =
    if ends (b ∷ path) (codes "settings") then codes "an object" else
    (if ends (b ∷ path) (codes "keys") then codes "the text \"folder\" or a list of 1 to 32 texts" else
    (if begins (b ∷ path) (codes "keys[") then codes "a text" else
    (if ends (b ∷ path) (codes "]") then codes "an object" else codes "a list")))

abbrev pub has_stop : List ℕ → Bool
has_stop path = list_any (λ b. b == 46) path

-- | what is wanted at a path: of the file itself, its members and their entries
unfoldable pub wanted : List ℕ → List ℕ
wanted path =
    if begins path (codes "settings.") then setting_wanted path else
    (if has_stop path then field_wanted path else member_wanted path)

-- the form, the policy and the keys

-- the whole file has the empty path
abbrev pub at_path : List ℕ → List ℕ → List ℕ
at_path [] said = concat (said ∷ [])
at_path (b ∷ path) said = concat ((b ∷ path) ∷ codes ": " ∷ said ∷ [])

abbrev pub wanted_at : List ℕ → List ℕ → List ℕ
wanted_at path fault = at_path path (concat (fault ∷ codes "; " ∷ wanted path ∷ codes " is wanted" ∷ []))

abbrev pub range_line : List ℕ → List ℕ
range_line [] = concat (codes "more than " ∷ decimal OPENING_BYTES ∷ codes " bytes" ∷ [])
range_line (b ∷ path) = wanted_at (b ∷ path) (codes "out of its limits")

-- | the line for a fault of the form
unfoldable pub shape_line : ShapeFault → List ℕ
shape_line fault.NotJson = concat (codes "not a JSON text of at most 127 levels" ∷ [])
shape_line (fault.Missing path) = wanted_at path (codes "missing")
shape_line (fault.Kind path) = wanted_at path (codes "of another type")
shape_line (fault.Range path) = range_line path

-- | the line for a fault of the policy
unfoldable pub policy_line : PolicyFault → List ℕ
policy_line policy.NotObject = concat (codes "policy: of another type; an object is wanted" ∷ [])
policy_line (policy.NotText rule) = concat (codes "policy: the rule " ∷ quoted rule ∷ codes " is not a text" ∷ [])
policy_line (policy.Cycle rule) = concat (codes "policy: the rule " ∷ quoted rule ∷ codes " reaches itself" ∷ [])
policy_line policy.TooMany = concat (codes "policy: more than 1024 rules, the default ones among them" ∷ [])
policy_line policy.Memory = concat (codes "out of memory" ∷ [])

-- the line for any fault before the rows: of the form, the policy or the keys
unfoldable pub opening_line : OpeningFault → List ℕ
opening_line (Shape fault) = shape_line fault
opening_line (Policy fault) = policy_line fault
opening_line (BadKey path) = concat (path ∷ codes ": not the text of a Fernet key" ∷ [])
opening_line Random = concat (codes "no random bytes" ∷ [])
opening_line Memory = concat (codes "out of memory" ∷ [])

-- the rows, as the file has them; of a file that has none the fault of its form
abbrev pub line_in : Result Written ShapeFault → OpenFault → List ℕ
line_in (Ok written) fault = row_line written fault
line_in (Err shape) fault = shape_line shape

unfoldable pub state_line : List ℕ → OpenFault → List ℕ
state_line file fault = line_in (file_of file) fault
