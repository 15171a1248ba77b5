-- What a header gives: the opening that the file had when its keys were these and its passwords were derived with these salts.
use Rattle.std.specs.Prelude.{◌≡◌, ◌≢◌, ℕ, List, length, Result, Ok, Err}
use Rattle.std.specs.List.{concat}
use Rattle.ks_base.specs.declared.key.Key.{Key}
use Rattle.ks_entries.specs.declared.header.Header.{Header}
use Rattle.ks_outside.specs.Desks.{DeskState}
use Rattle.ks_machine.specs.Openings.{PlainOpening}
use Rattle.ks_policy.specs.declared.fault.PolicyFault.TheVariants as policy
use Rattle.ks_policy.specs.declared.opening.Opening.{Opening}
use Rattle.ks_policy.specs.Openings.{plain}
use Rattle.ks_setup.specs.declared.opening.OpeningFault.{OpeningFault}
use Rattle.ks_setup.specs.declared.opening.OpeningFault.TheVariants.{Shape, Policy, BadKey, Random, Memory}
use Rattle.ks_written.specs.declared.written.Written.{Written}
use Rattle.ks_setup.specs.Openings.{AnswersOpening, Drew, HasBadKey, HasPolicy, IsFormed, IsRing, LoadsPolicy, Opens, passwords}
use Rattle.ks_written.specs.Written.{file_of}

-- | a header gives this opening: that of its file, where the folder holds its keys and the drawn bytes are its salts, one behind the other
abbrev pub GivesOpening : Header → PlainOpening → Type 0
GivesOpening header opening = Opens header.opening header.keys (concat header.salts) opening

-- the opening of a first reading, or why there is none
abbrev pub first_of : Result (Opening × Header) OpeningFault → Result Opening OpeningFault
first_of (Ok (opening, header)) = Ok opening
first_of (Err fault) = Err fault

-- the header is that of this file and of these keys, its salts are what was drawn, and it gives this opening
pub record IsHeaderOf {Link : Type 0} (text : List ℕ) (held : List (ℕ × Key)) (old new : DeskState Link) (opening : PlainOpening) (header : Header) : Type 0 where
  pub file : header.opening ≡ text
  pub keys : header.keys ≡ held
  pub drew : Drew old new (concat header.salts) 0
  pub gives : GivesOpening header opening

-- | the keys are right, and the plain passwords are not as many as the salts
abbrev pub HasOtherSalts : Header → Type 0
HasOtherSalts header =
    (written : Written) × (file_of header.opening ≡ Ok written) × ((ring : List (ℕ × Key)) × IsRing written.keys header.keys ring)
    × (passwords written.users ≢ length header.salts)

-- what a header opens with, or why it is refused; `Random` is, last of all, that its salts are not as many as its file's plain passwords
abbrev pub AnswersHeader : Header → Result Opening OpeningFault → Type 0
AnswersHeader header (Ok opening) = GivesOpening header (plain opening)
AnswersHeader header (Err (Shape fault)) = file_of header.opening ≡ Err fault
AnswersHeader header (Err (Policy policy.Memory)) = ⊥
AnswersHeader header (Err (Policy fault)) = IsFormed header.opening × LoadsPolicy header.opening (Err fault)
AnswersHeader header (Err (BadKey path)) = HasPolicy header.opening × HasBadKey header.opening path
AnswersHeader header (Err Random) = HasPolicy header.opening × HasOtherSalts header
AnswersHeader header (Err Memory) = Unit {0}
