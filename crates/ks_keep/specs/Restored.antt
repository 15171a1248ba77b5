-- What a restart makes of the entries of a keeper.
use Rattle.std.specs.Prelude.{◌≡◌, ℕ, ◌≤◌, List, length, Option, Some, Result, Ok, Err}
use Rattle.ks_entries.specs.Changes.{IsEntry}
use Rattle.ks_keeper.specs.declared.fault.KeepFault.{KeepFault}
use Rattle.ks_keeper.specs.declared.fault.KeepFault.TheVariants as keep_fault
use Rattle.ks_keeper.specs.Keeper.{Keeping}
use Rattle.ks_machine.specs.declared.change.Entry.{Entry}
use Rattle.ks_machine.specs.Lawful.{IsLawful}
use Rattle.ks_machine.specs.Openings.{PlainOpening}
use Rattle.ks_outside.specs.Counts.{Counts}
use Rattle.ks_state.specs.Restoring.{MayFollow, restored_front}
use Rattle.ks_state.specs.Shown.{Shown}
use Rattle.ks_state.specs.Standing.{StandsWithAllKept}
use Rattle.ks_keep.specs.declared.fault.NotRead.{NotRead}
use Rattle.ks_keep.specs.declared.fault.NotRead.TheVariants as why
use Rattle.ks_keep.specs.declared.fault.NotRestored.{NotRestored}
use Rattle.ks_keep.specs.declared.past.Past.{Past}
use Rattle.ks_keep.specs.Books.{AreKept, IsBookOf, Stand}
use Rattle.ks_keep.specs.Pasts.{entries_of}

-- what the fault of a call of the keeper is told as
abbrev pub why_of : KeepFault → NotRead
why_of keep_fault.Failed = why.Failed
why_of keep_fault.Memory = why.Memory

-- | the entries before it stand and can follow one after the other, and what stands here is no entry, or one that can't follow
pub record IsBadEntry (at : ℕ → Option (List ℕ)) (opening : PlainOpening) (number : ℕ) : Type 0 where
  pub before : List Entry
  pub count : length before ≡ number
  pub stand : Stand at 0 before
  pub lawful : IsLawful (restored_front opening before)
  pub bytes : List ℕ
  pub is : at number ≡ Some bytes
  pub bad : (entry : Entry) → IsEntry bytes entry → MayFollow (restored_front opening before) entry → ⊥

-- | a keeper was read, and holds what it held
pub record IsRead {K : Type 0} (keeping : Keeping K) (old new : K) : Type 0 where
  pub since : keeping.whole new → keeping.whole old
  pub same : keeping.whole new → keeping.kept new ≡ keeping.kept old
  pub faults : keeping.faults old ≤ keeping.faults new

-- why they were not: the keeper failed, or an entry is bad, where the keeper is whole
abbrev pub IsWhy : {K : Type 0} → Keeping K → K → PlainOpening → K → NotRead → Type 0
IsWhy keeping old opening new (why.BadEntry number) = keeping.whole new → IsBadEntry (keeping.kept old).entries opening number
IsWhy keeping old opening new why.Failed = Unit {0}
IsWhy keeping old opening new why.Memory = Unit {0}

-- | all entries of the keeper were made once more, and it is a book of what they came to
pub record AreRedone {K : Type 0} (keeping : Keeping K) (old : K) (opening : PlainOpening) (shown : Shown) (new : K) (past : Past) : Type 0 where
  pub keeper : IsRead keeping old new
  pub stands : StandsWithAllKept shown (restored_front opening (entries_of past))
  pub are_kept : keeping.whole new → AreKept (keeping.kept old).entries (entries_of past)
  pub book : keeping.whole new → IsBookOf (keeping.kept new) (restored_front opening (entries_of past))

-- | they were not made once more, for this cause
pub record AreNotRedone {K : Type 0} (keeping : Keeping K) (old : K) (opening : PlainOpening) (refused : NotRestored K) : Type 0 where
  pub keeper : IsRead keeping old refused.keeper
  pub counts : Counts (refused.why ≡ why.Failed) (keeping.faults old) (keeping.faults refused.keeper)
  pub why : IsWhy keeping old opening refused.keeper refused.why

-- the identity, the keeper and what was made once more; or the keeper with the cause: it failed, or the first entry is told that is none or
-- can't follow those before it
abbrev pub Restores : {K : Type 0} → Keeping K → K → PlainOpening → Result (Shown × K × Past) (NotRestored K) → Type 0
Restores keeping old opening (Ok (shown, keeper, past)) = AreRedone keeping old opening shown keeper past
Restores keeping old opening (Err refused) = AreNotRedone keeping old opening refused
