-- What each step of opening a file answers.
use Rattle.std.specs.Prelude.{◌≡◌, ◌≤◌, ◌<◌, ℕ, ◌*◌, List, [], ◌∷◌, length, Option, Some, None, Result, Ok, Err}
use Rattle.std.specs.List.{concat}
use Rattle.ks_base.specs.declared.key.Key.{Key}
use Rattle.ks_base.specs.declared.limits.TheConstants.{KEYS}
use Rattle.ks_base.specs.declared.shapes.ShapeRefusal.{ShapeRefusal}
use Rattle.ks_base.specs.declared.shapes.ShapeRefusal.TheVariants as refusal
use Rattle.ks_base.specs.declared.users.UserRow.{UserRow}
use Rattle.ks_outside.specs.Counts.{Rose}
use Rattle.ks_outside.specs.Desks.{DeskState}
use Rattle.ks_policy.specs.declared.fault.PolicyFault.{PolicyFault}
use Rattle.ks_policy.specs.declared.fault.PolicyFault.TheVariants as policy
use Rattle.ks_policy.specs.declared.opening.Opening.{Opening}
use Rattle.ks_policy.specs.Openings.{plain}
use Rattle.ks_setup.specs.declared.derive.DrawFault.{DrawFault}
use Rattle.ks_setup.specs.declared.derive.DrawFault.TheVariants as draw
use Rattle.ks_setup.specs.declared.keys.RingFault.{RingFault}
use Rattle.ks_setup.specs.declared.keys.RingFault.TheVariants as keys
use Rattle.ks_setup.specs.declared.opening.Checked.{Checked}
use Rattle.ks_setup.specs.declared.opening.OpeningFault.{OpeningFault}
use Rattle.ks_setup.specs.declared.opening.OpeningFault.TheVariants.{Shape, Policy, BadKey, Random, Memory}
use Rattle.ks_written.specs.declared.written.KeysFrom.{KeysFrom}
use Rattle.ks_written.specs.declared.written.KeysFrom.TheVariants.{Folder, File}
use Rattle.ks_written.specs.declared.written.WrittenPassword.{WrittenPassword}
use Rattle.ks_written.specs.declared.written.WrittenPassword.TheVariants.{Plain, Record}
use Rattle.ks_setup.specs.Openings.{AnswersOpening, AreKeys, Drew, HasBadKey, HasPolicy, IsBadKey, IsFirstBad, IsFormed, IsRing, LoadsPolicy, Opens, bad_key_path, users_from}
use Rattle.ks_written.specs.Written.{file_of}

-- the faults of the steps, as those of the opening

abbrev pub of_shape : ShapeRefusal → OpeningFault
of_shape (refusal.Shape fault) = Shape fault
of_shape refusal.Memory = Memory

abbrev pub of_policy : PolicyFault → OpeningFault
of_policy policy.Memory = Memory
of_policy fault = Policy fault

abbrev pub of_keys : RingFault → OpeningFault
of_keys (keys.BadKey path) = BadKey path
of_keys keys.Memory = Memory

abbrev pub of_draw : DrawFault → OpeningFault
of_draw draw.Random = Random
of_draw draw.Memory = Memory

-- keys

-- the list of a file has 32 texts at most
abbrev pub AreFew : KeysFrom → Type 0
AreFew Folder = Unit {0}
AreFew (File texts) = length texts ≤ KEYS

-- the keys of these texts, of which the first has this number, or the place of the first that is no key
abbrev pub ReadsKeys : List (List ℕ) → Result (List (ℕ × Key)) RingFault → Type 0
ReadsKeys texts (Ok ring) = AreKeys 0 texts ring
ReadsKeys texts (Err (keys.BadKey path)) = (at : ℕ) × IsFirstBad 0 texts at × (path ≡ bad_key_path at)
ReadsKeys texts (Err keys.Memory) = Unit {0}

abbrev pub ReadsRing : KeysFrom → List (ℕ × Key) → Result (List (ℕ × Key)) RingFault → Type 0
ReadsRing from held (Ok ring) = IsRing from held ring
ReadsRing from held (Err (keys.BadKey path)) = IsBadKey from path
ReadsRing from held (Err keys.Memory) = Unit {0}

-- the form, the policy and the keys of a file
abbrev pub Checks : List ℕ → List (ℕ × Key) → Result Checked OpeningFault → Type 0
Checks text held (Ok checked) =
    (file_of text ≡ Ok checked.written) × LoadsPolicy text (Ok checked.rules) × IsRing checked.written.keys held checked.ring
Checks text held (Err (Shape fault)) = file_of text ≡ Err fault
Checks text held (Err (Policy policy.Memory)) = ⊥
Checks text held (Err (Policy fault)) = IsFormed text × LoadsPolicy text (Err fault)
Checks text held (Err (BadKey path)) = HasPolicy text × HasBadKey text path
Checks text held (Err Random) = ⊥
Checks text held (Err Memory) = Unit {0}

-- passwords

-- how many bytes are drawn for a password
abbrev pub bytes_for : Option WrittenPassword → ℕ
bytes_for None = 0
bytes_for (Some (Plain password)) = 16
bytes_for (Some (Record row)) = 0

-- so many bytes were drawn, and this was made of them; or the one fill failed, and none were drawn
abbrev pub Draws : {Link A F : Type 0} → ℕ → (List ℕ → A) → DeskState Link → DeskState Link → Result A F → Type 0
Draws count made old new (Ok a) = (drawn : List ℕ) × (length drawn ≡ count) × (a ≡ made drawn) × Drew old new drawn 0
Draws count made old new (Err fault) = (0 < count) × Drew old new [] 1 × Rose old.fill_faults new.fill_faults

-- so many salts were drawn, each by a fill of its own, or the first of them alone
abbrev pub DrawsSalts : {Link : Type 0} → ℕ → DeskState Link → DeskState Link → Result (List (List ℕ)) DrawFault → Type 0
DrawsSalts count old new (Ok salts) = (length salts ≡ count) × (length (concat salts) ≡ 16 * count) × Drew old new (concat salts) 0
DrawsSalts count old new (Err draw.Random) =
    (drawn : List ℕ) × ((given : ℕ) × (given < count) × (length drawn ≡ 16 * given)) × Drew old new drawn 1
    × Rose old.fill_faults new.fill_faults
DrawsSalts count old new (Err draw.Memory) = (drawn : List ℕ) × Drew old new drawn 0

-- a password takes the first of the salts where it is plain, and none where it is not
abbrev pub Leaves : Option WrittenPassword → List (List ℕ) → List (List ℕ) → Type 0
Leaves None salts left = left ≡ salts
Leaves (Some (Plain password)) salts left = (salt : List ℕ) × (length salt ≡ 16) × (salts ≡ salt ∷ left)
Leaves (Some (Record row)) salts left = left ≡ salts

-- the opening, once the file is checked

-- the opening of a checked file with these users
abbrev pub opened : Checked → List UserRow → Opening
opened checked users = record {
  settings = checked.written.settings;
  rules = checked.rules;
  ring = checked.ring;
  domains = checked.written.domains;
  projects = checked.written.projects;
  users = users;
  groups = checked.written.groups;
  members = checked.written.members;
  roles = checked.written.roles;
  implications = checked.written.implications;
  regions = checked.written.regions;
  services = checked.written.services;
  endpoints = checked.written.endpoints;
  assignments = checked.written.assignments;
}

-- the opening of a checked file with these salts
abbrev pub opened_with : Checked → List (List ℕ) → Opening
opened_with checked salts = opened checked (users_from checked.written.settings.rounds checked.written.users (concat salts))

-- what a reading of the file answers, with the salts that it drew
abbrev pub OpensFirst : {Link : Type 0} → List ℕ → List (ℕ × Key) → DeskState Link → DeskState Link
    → Result (Opening × List (List ℕ)) OpeningFault → Type 0
OpensFirst text held old new (Ok (opening, salts)) = Opens text held (concat salts) (plain opening) × Drew old new (concat salts) 0
OpensFirst text held old new (Err fault) = AnswersOpening text held old new (Err fault)
