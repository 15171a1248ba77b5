-- What an opening file opens with. Its form is tested first, then its policy, then its keys; then the passwords are derived.
use Rattle.std.specs.Prelude.{◌≡◌, ◌⊎◌, ◌≤◌, ◌<◌, ℕ, suc, ◌+◌, ◌*◌, Bool, true, false, if◌then◌else◌, List, [], ◌∷◌, ◌++◌, length, take, drop, replicate, Option, Some, None, Result, Ok, Err, unwrap_or, codes, decimal}
use Rattle.serde_json.specs.Data.{Data, object, no_members}
use Rattle.serde_json.specs.Find.{get}
use Rattle.ks_base.specs.declared.key.Key.{Key}
use Rattle.ks_base.specs.declared.users.PasswordRow.{PasswordRow}
use Rattle.ks_base.specs.declared.users.UserRow.{UserRow}
use Rattle.ks_hmac.specs.Pbkdf2.{pbkdf2_of}
use Rattle.ks_fernet.specs.KeyText.{key_of}
use Rattle.ks_outside.specs.Counts.{Rose}
use Rattle.ks_outside.specs.declared.desk_call.DeskCall.{DeskCall}
use Rattle.ks_outside.specs.declared.desk_call.DeskCall.TheVariants as call
use Rattle.ks_outside.specs.Desks.{DeskState, Makes}
use Rattle.ks_machine.specs.Openings.{NamedRule, PlainOpening}
use Rattle.ks_policy.specs.declared.fault.PolicyFault.{PolicyFault}
use Rattle.ks_policy.specs.declared.fault.PolicyFault.TheVariants as policy
use Rattle.ks_policy.specs.declared.opening.Opening.{Opening}
use Rattle.ks_policy.specs.Loading.{Loads}
use Rattle.ks_policy.specs.Openings.{plain}
use Rattle.ks_shape.specs.Fields.{unless_null}
use Rattle.ks_setup.specs.declared.opening.OpeningFault.{OpeningFault}
use Rattle.ks_setup.specs.declared.opening.OpeningFault.TheVariants.{Shape, Policy, BadKey, Random, Memory}
use Rattle.ks_written.specs.declared.written.KeysFrom.{KeysFrom}
use Rattle.ks_written.specs.declared.written.KeysFrom.TheVariants.{Folder, File}
use Rattle.ks_written.specs.declared.written.Written.{Written}
use Rattle.ks_written.specs.declared.written.WrittenPassword.{WrittenPassword}
use Rattle.ks_written.specs.declared.written.WrittenPassword.TheVariants.{Plain, Record}
use Rattle.ks_written.specs.declared.written.WrittenUser.{WrittenUser}
use Rattle.ks_written.specs.Written.{document_of, file_of, folder_wanted}

-- the policy

-- the policy of a file: where there is none, an object without members
abbrev pub policy_in : Data → Data
policy_in file = unwrap_or (unless_null (get (codes "policy") file)) (object no_members)

-- what the policy of the file loads as
abbrev pub LoadsPolicy : List ℕ → Result (List NamedRule) PolicyFault → Type 0
LoadsPolicy text loaded = (file : Data) × (document_of text ≡ Ok file) × Loads (policy_in file) loaded

-- the keys

-- each text is the text of a key, and each key stands at the place of its text, counted from this number on
abbrev pub AreKeys : ℕ → List (List ℕ) → List (ℕ × Key) → Type 0
AreKeys number [] [] = Unit {0}
AreKeys number [] (held ∷ ring) = ⊥
AreKeys number (text ∷ texts) [] = ⊥
AreKeys number (text ∷ texts) (held ∷ ring) = (held.0 ≡ number) × (key_of text ≡ Some held.1) × AreKeys (suc number) texts ring

-- the keys are those of the file, or those that the folder holds
abbrev pub IsRing : KeysFrom → List (ℕ × Key) → List (ℕ × Key) → Type 0
IsRing Folder held ring = ring ≡ held
IsRing (File texts) held ring = AreKeys 0 texts ring

-- the first text that is no key has this place, counted from this number on
abbrev pub IsFirstBad : ℕ → List (List ℕ) → ℕ → Type 0
IsFirstBad number [] at = ⊥
IsFirstBad number (text ∷ texts) at =
    ((key_of text ≡ None) × (at ≡ number)) ⊎ ((key : Key) × (key_of text ≡ Some key) × IsFirstBad (suc number) texts at)

abbrev pub bad_key_path : ℕ → List ℕ
bad_key_path at = codes "keys[" ++ decimal at ++ codes "]"

abbrev pub IsBadKey : KeysFrom → List ℕ → Type 0
IsBadKey Folder path = ⊥
IsBadKey (File texts) path = (at : ℕ) × IsFirstBad 0 texts at × (path ≡ bad_key_path at)

-- the users

-- a plain password is still to be derived
abbrev pub is_plain : Option WrittenPassword → Bool
is_plain None = false
is_plain (Some (Plain password)) = true
is_plain (Some (Record row)) = false

-- | how many users have a plain password
abbrev pub passwords : List WrittenUser → ℕ
passwords [] = 0
passwords (user ∷ users) = if is_plain user.password then suc (passwords users) else passwords users

-- what is kept of a password, by so many rounds with this salt
abbrev pub derived_row : ℕ → List ℕ → List ℕ → PasswordRow
derived_row rounds password salt = record { salt = salt; rounds = rounds; digest = pbkdf2_of password salt rounds }

-- a record is kept as it is
abbrev pub password_row : ℕ → Option WrittenPassword → List ℕ → Option PasswordRow
password_row rounds None salt = None
password_row rounds (Some (Plain password)) salt = Some (derived_row rounds password salt)
password_row rounds (Some (Record row)) salt = Some row

abbrev pub user_row : WrittenUser → Option PasswordRow → UserRow
user_row user password =
    record { id = user.id; domain = user.domain; name = user.name; enabled = user.enabled; password = password }

-- each plain password is derived with the next 16 of the drawn bytes
unfoldable pub users_from : ℕ → List WrittenUser → List ℕ → List UserRow
users_from rounds [] drawn = []
users_from rounds (user ∷ users) drawn =
    user_row user (password_row rounds user.password (take 16 drawn))
    ∷ users_from rounds users (if is_plain user.password then drop 16 drawn else drawn)

-- the opening

-- | what the file opens with, the keys of the folder being these and the bytes that were drawn these: its rows, its rules, its keys or
-- those of the folder, each plain password derived with the next 16 bytes that were drawn, each record as it is
pub record Opens (text : List ℕ) (held : List (ℕ × Key)) (drawn : List ℕ) (opening : PlainOpening) : Type 0 where
  pub written : Written
  pub form : file_of text ≡ Ok written
  pub policy : LoadsPolicy text (Ok opening.rules)
  pub ring : IsRing written.keys held opening.ring
  pub draws : length drawn ≡ 16 * passwords written.users
  pub users : opening.users ≡ users_from written.settings.rounds written.users drawn
  pub settings : opening.settings ≡ written.settings
  pub domains : opening.domains ≡ written.domains
  pub projects : opening.projects ≡ written.projects
  pub groups : opening.groups ≡ written.groups
  pub members : opening.members ≡ written.members
  pub roles : opening.roles ≡ written.roles
  pub implications : opening.implications ≡ written.implications
  pub regions : opening.regions ≡ written.regions
  pub services : opening.services ≡ written.services
  pub endpoints : opening.endpoints ≡ written.endpoints
  pub assignments : opening.assignments ≡ written.assignments

-- so many calls for the 16 bytes of a salt
abbrev pub salt_calls : ℕ → List DeskCall
salt_calls count = replicate count (call.Fill 16)

-- | from a desk these bytes were drawn, each 16 of them by a fill of their own, and so many fills more failed. No other call was made,
-- and nothing else of it changed
pub record Drew {Link : Type 0} (old new : DeskState Link) (drawn : List ℕ) (failed : ℕ) : Type 0 where
  pub told : (bytes : List ℕ) → old.random ≡ Some bytes → (rest : List ℕ) × (bytes ≡ drawn ++ rest) × (new.random ≡ Some rest)
  pub kept : new ≡ record old { random = new.random; fill_faults = new.fill_faults; calls = new.calls }
  pub count : old.fill_faults ≤ new.fill_faults
  pub salts : ℕ
  pub whole : length drawn ≡ 16 * salts
  pub calls : Makes (salt_calls (salts + failed)) old.calls new.calls

-- the form is right
abbrev pub IsFormed : List ℕ → Type 0
IsFormed text = (written : Written) × (file_of text ≡ Ok written)

-- the policy is right too
abbrev pub HasPolicy : List ℕ → Type 0
HasPolicy text = IsFormed text × ((rules : List NamedRule) × LoadsPolicy text (Ok rules))

-- a key is none, and is the first such
abbrev pub HasBadKey : List ℕ → List ℕ → Type 0
HasBadKey text path = (written : Written) × (file_of text ≡ Ok written) × IsBadKey written.keys path

-- | the salts of some passwords were drawn, but not of all
abbrev pub FallsShort : List WrittenUser → List ℕ → Type 0
FallsShort users drawn = (given : ℕ) × (given < passwords users) × (length drawn ≡ 16 * given)

-- the keys are right, and the salts of the first passwords alone were drawn
abbrev pub LacksBytes : List ℕ → List (ℕ × Key) → List ℕ → Type 0
LacksBytes text held drawn =
    (written : Written) × (file_of text ≡ Ok written) × ((ring : List (ℕ × Key)) × IsRing written.keys held ring)
    × FallsShort written.users drawn

-- what a reading of the file answers, and what it leaves of the desk: it opens so, or is refused by its form, its policy, its keys, or for
-- want of random bytes, in this order; of want of memory the desk alone is said
abbrev pub AnswersOpening : {Link : Type 0} → List ℕ → List (ℕ × Key) → DeskState Link → DeskState Link → Result Opening OpeningFault → Type 0
AnswersOpening text held old new (Ok opening) = (drawn : List ℕ) × Opens text held drawn (plain opening) × Drew old new drawn 0
AnswersOpening text held old new (Err (Shape fault)) = (file_of text ≡ Err fault) × (new ≡ old)
AnswersOpening text held old new (Err (Policy policy.Memory)) = ⊥
AnswersOpening text held old new (Err (Policy fault)) = IsFormed text × LoadsPolicy text (Err fault) × (new ≡ old)
AnswersOpening text held old new (Err (BadKey path)) = HasPolicy text × HasBadKey text path × (new ≡ old)
AnswersOpening text held old new (Err Random) =
    HasPolicy text × ((drawn : List ℕ) × LacksBytes text held drawn × Drew old new drawn 1 × Rose old.fill_faults new.fill_faults)
AnswersOpening text held old new (Err Memory) = (drawn : List ℕ) × Drew old new drawn 0

-- whether a file takes its keys from the folder; it is refused for its form alone
abbrev pub AnswersFolder : List ℕ → Result Bool OpeningFault → Type 0
AnswersFolder text (Ok wanted) = folder_wanted text ≡ Ok wanted
AnswersFolder text (Err (Shape fault)) = folder_wanted text ≡ Err fault
AnswersFolder text (Err Memory) = Unit {0}
AnswersFolder text (Err (Policy fault)) = ⊥
AnswersFolder text (Err (BadKey path)) = ⊥
AnswersFolder text (Err Random) = ⊥
