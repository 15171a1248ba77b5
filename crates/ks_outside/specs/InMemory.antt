-- What the objects in memory show: they tell all that they hold.
use Rattle.std.specs.Prelude.{◌≡◌, ◌+◌, ◌≤◌, ◌⊎◌, ◌↔◌, ℕ, List, [], Option, Some, None, Contains}
use Rattle.ks_base.specs.declared.receipt.Receipt.{Receipt}
use Rattle.ks_outside.specs.declared.desk_call.DeskCall.{DeskCall}
use Rattle.ks_outside.specs.Counts.{next_count, Counts}
use Rattle.ks_outside.specs.Streams.{StreamState}
use Rattle.ks_outside.specs.Files.{KeyFile, DirState}
use Rattle.ks_outside.specs.Desks.{DeskState}

-- | a source in memory: the bytes that are left to read, how many reads there were, the numbers of those
-- that are to fail, counted from 1, the longest piece that one read gives, and the count of faults
pub record MemorySourceState : Type 0 where
  pub left : List ℕ
  pub calls : ℕ
  pub failing : List ℕ
  pub longest : ℕ
  pub faults : ℕ

abbrev pub source_stream : MemorySourceState → StreamState
source_stream source = record { left = Some source.left; written = None; read_faults = source.faults; write_faults = 0; names = [] }

-- | a sink in memory: the bytes that were written, how many it has room for in all, how many writes there
-- were, the numbers of those that are to fail, counted from 1, the longest piece that one write takes,
-- and the count of faults
pub record MemorySinkState : Type 0 where
  pub written : List ℕ
  pub room : ℕ
  pub calls : ℕ
  pub failing : List ℕ
  pub longest : ℕ
  pub faults : ℕ

abbrev pub sink_stream : MemorySinkState → StreamState
sink_stream sink = record { left = None; written = Some sink.written; read_faults = 0; write_faults = sink.faults; names = [] }

-- | a link in memory: a source and a sink
pub record MemoryLinkState : Type 0 where
  pub source : MemorySourceState
  pub sink : MemorySinkState

abbrev pub link_stream : MemoryLinkState → StreamState
link_stream link = record {
  left = Some link.source.left;
  written = Some link.sink.written;
  read_faults = link.source.faults;
  write_faults = link.sink.faults;
  names = [];
}

-- | a key folder in memory: its files, how many calls there were, the numbers of those that are to fail,
-- counted from 1, after how many calls every one fails, if so, and the count of faults
pub record MemoryDirState : Type 0 where
  pub files : List KeyFile
  pub calls : ℕ
  pub failing : List ℕ
  pub limit : Option ℕ
  pub faults : ℕ

abbrev pub told_dir : MemoryDirState → DirState
told_dir dir = record { files = Some dir.files; faults = dir.faults }

-- the next call is one that is to fail
abbrev pub FailsNext : MemoryDirState → Type 0
FailsNext dir = Contains dir.failing (dir.calls + 1) ⊎ ((limit : ℕ) × (dir.limit ≡ Some limit) × (limit ≤ dir.calls))

-- one more call to it, where `failed` says that it failed
pub record Called (failed : Type 0) (old new : MemoryDirState) : Type 0 where
  -- it fails exactly where it is to
  pub fails : failed ↔ FailsNext old
  -- the count of failed calls
  pub faults : Counts failed old.faults new.faults
  -- and then changes no file
  pub fault : failed → new ≡ record old { calls = next_count old.calls; faults = next_count old.faults }

-- | a desk in memory: what it holds, its calls, where there was memory to note them all, how many accepts and
-- fills there were, and the numbers of those that are to fail, counted from 1
pub record MemoryDeskState : Type 0 where
  pub coming : List MemoryLinkState
  pub returned : List MemoryLinkState
  pub readings : List ℕ
  pub random : List ℕ
  pub receipts : List Receipt
  pub calls : Option (List DeskCall)
  pub link_room : ℕ
  pub receipt_room : ℕ
  pub accepts : ℕ
  pub failing_accepts : List ℕ
  pub accept_faults : ℕ
  pub fills : ℕ
  pub failing_fills : List ℕ
  pub fill_faults : ℕ

abbrev pub told_desk : MemoryDeskState → DeskState MemoryLinkState
told_desk desk = record {
  coming = Some desk.coming;
  returned = Some desk.returned;
  readings = Some desk.readings;
  random = Some desk.random;
  receipts = Some desk.receipts;
  calls = desk.calls;
  link_room = desk.link_room;
  receipt_room = desk.receipt_room;
  accept_faults = desk.accept_faults;
  fill_faults = desk.fill_faults;
}
