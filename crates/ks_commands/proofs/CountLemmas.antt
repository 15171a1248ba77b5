-- Counts of faults, and what is known of a call with whose fault they rise.
use Rattle.std.proofs.Common.{ℕ, ◌≤◌, refl, arith}
use Rattle.ks_outside.specs.Counts.{Counts}
use Rattle.ks_outside.specs.Files.{DirState, OnlyLooks}
use Rattle.ks_outside.specs.Streams.{OnlyReads, StreamState}

-- a count that rises with one fault rises with each that is only told of it

pub counts_for : (P Q : Type 0) (before after : ℕ) → (Q → P) → Counts P before after → Counts Q before after
counts_for P Q before after from counts = record { kept = counts.kept; rose = λ q. counts.rose (from q) }

pub reads_for : (P Q : Type 0) (old new : StreamState) → (Q → P) → OnlyReads P old new → OnlyReads Q old new
reads_for P Q old new from reads = record {
  reads = counts_for P Q old.read_faults new.read_faults from reads.reads;
  written = reads.written;
  writes = reads.writes;
  names = reads.names;
}

pub looks_for : (P Q : Type 0) (old new : DirState) → (Q → P) → OnlyLooks P old new → OnlyLooks Q old new
looks_for P Q old new from looks = record { files = looks.files; faults = counts_for P Q old.faults new.faults from looks.faults }

-- nothing failed

pub counts_none : (P : Type 0) (count : ℕ) → (P → ⊥) → Counts P count count
counts_none P count none = record { kept = omega arith; rose = λ p. absurd (none p) }

pub reads_none : (P : Type 0) (stream : StreamState) → (P → ⊥) → OnlyReads P stream stream
reads_none P stream none = record { reads = counts_none P stream.read_faults none; written = refl; writes = refl; names = refl }

pub looks_none : (P : Type 0) (dir : DirState) → (P → ⊥) → OnlyLooks P dir dir
looks_none P dir none = record { files = refl; faults = counts_none P dir.faults none }

-- a count rose behind another call of its own

pub counts_later : (P : Type 0) (a b c : ℕ) → a ≤ b → Counts P b c → Counts P a c
counts_later P a b c grew counts = record {
  kept = omega (arith, grew, counts.kept);
  rose = λ p. omega (arith, grew, counts.rose p);
}
