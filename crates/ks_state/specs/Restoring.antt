-- What a restart goes on from: an opening and the changes that were kept, each made once more.
use Rattle.std.specs.Prelude.{◌≡◌, ℕ, ◌+◌, ◌≤◌, List, [], ◌∷◌, ◌++◌, length, Some, Result, Ok, Err}
use Rattle.ks_machine.specs.declared.change.Entry.{Entry}
use Rattle.ks_machine.specs.Fronts.{Front}
use Rattle.ks_machine.specs.Lawful.{IsLawful}
use Rattle.ks_machine.specs.Opened.{open_fault}
use Rattle.ks_machine.specs.Openings.{PlainOpening}
use Rattle.ks_machine.specs.declared.settings.OpenFault.TheVariants as refusal
use Rattle.ks_state.specs.Shown.{Shown}
use Rattle.ks_state.specs.Standing.{StandsWithAllKept}
use Rattle.ks_state.specs.declared.restoring.RestoreFault.{RestoreFault}
use Rattle.ks_state.specs.declared.restoring.RestoreFault.TheVariants as fault

-- the front with this entry behind its changes, at its moment, and kept
abbrev pub redone : Front → Entry → Front
redone f entry = record f { changes = f.changes ++ entry ∷ []; high = entry.moment; kept = f.kept + 1 }

-- the moment of the last, or this one where there is none
unfoldable pub last_moment_in : ℕ → List Entry → ℕ
last_moment_in moment [] = moment
last_moment_in moment (entry ∷ entries) = last_moment_in entry.moment entries

-- | what a restart goes on from: an opening and all changes that were kept
abbrev pub restored_front : PlainOpening → List Entry → Front
restored_front opening entries = record { opening = opening; changes = entries; high = last_moment_in 0 entries; kept = length entries }

-- an entry can follow: its moment is not before the highest, and the front with it is lawful
abbrev pub MayFollow : Front → Entry → Type 0
MayFollow f entry = (f.high ≤ entry.moment) × IsLawful (redone f entry)

-- | the entry with this number is the first that can't follow those before it
pub record IsFirstUnfit (opening : PlainOpening) (entries : List Entry) (number : ℕ) : Type 0 where
  pub before : List Entry
  pub entry : Entry
  pub later : List Entry
  pub entries_are : entries ≡ before ++ entry ∷ later
  pub count : length before ≡ number
  pub lawful : IsLawful (restored_front opening before)
  pub unfit : MayFollow (restored_front opening before) entry → ⊥

-- the identity stands for the opening with all entries; or the first entry is told that can't follow, or why the opening is refused, which is
-- never want of memory; or there was no memory
abbrev pub Restores : PlainOpening → List Entry → Result Shown RestoreFault → Type 0
Restores opening entries (Ok identity) = StandsWithAllKept identity (restored_front opening entries)
Restores opening entries (Err (fault.BadEntry number)) = IsFirstUnfit opening entries number
Restores opening entries (Err (fault.State why)) = (open_fault opening ≡ Some why) × (why ≡ refusal.Memory → ⊥)
Restores opening entries (Err fault.Memory) = Unit {0}
