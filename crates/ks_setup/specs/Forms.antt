-- What an opening file is once its form is found right.
use Rattle.std.specs.Prelude.{◌≡◌, ℕ, List, Result, Ok, Err}
use Rattle.ks_base.specs.declared.shapes.ShapeRefusal.{ShapeRefusal}
use Rattle.ks_base.specs.declared.shapes.ShapeRefusal.TheVariants as refusal
use Rattle.ks_machine.specs.Openings.{NamedRule}
use Rattle.ks_policy.specs.declared.fault.PolicyFault.{PolicyFault}
use Rattle.ks_setup.specs.declared.opening.OpeningFault.{OpeningFault}
use Rattle.ks_setup.specs.declared.opening.OpeningFault.TheVariants.{Shape, Policy, BadKey, Random, Memory}
use Rattle.ks_written.specs.declared.written.Written.{Written}
use Rattle.ks_setup.specs.Openings.{LoadsPolicy}
use Rattle.ks_written.specs.Written.{file_of}

-- what contracts see of an opening file whose form is right
pub record Form : Type 0 where
  -- what it says, apart from its policy
  pub written : Written
  -- what its policy loads as
  pub policy : Result (List NamedRule) PolicyFault

-- | the file of this text says this, and its policy loads so
abbrev pub IsFormOf : List ℕ → Form → Type 0
IsFormOf text form = (file_of text ≡ Ok form.written) × LoadsPolicy text form.policy

-- what a reading of the form answers, its faults those of an opening; of want of memory nothing is said
abbrev pub ReadsForm : List ℕ → Result Form OpeningFault → Type 0
ReadsForm text (Ok form) = IsFormOf text form
ReadsForm text (Err (Shape fault)) = file_of text ≡ Err fault
ReadsForm text (Err (Policy fault)) = ⊥
ReadsForm text (Err (BadKey path)) = ⊥
ReadsForm text (Err Random) = ⊥
ReadsForm text (Err Memory) = Unit {0}

-- the same, before its faults are those of an opening
abbrev pub ReadsWhole : List ℕ → Result Form ShapeRefusal → Type 0
ReadsWhole text (Ok form) = IsFormOf text form
ReadsWhole text (Err (refusal.Shape fault)) = file_of text ≡ Err fault
ReadsWhole text (Err refusal.Memory) = Unit {0}
