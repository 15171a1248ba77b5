-- What the real objects show: they count their faults, and tell nothing else.
use Rattle.std.specs.Prelude.{ℕ, [], None}
use Rattle.ks_outside.specs.Streams.{StreamState}
use Rattle.ks_outside.specs.Files.{DirState}
use Rattle.ks_outside.specs.Desks.{DeskState}

-- | a real source or sink: the reader or the writer of std under it, and the count of faults
pub record RealEndState (T : Type 0) : Type 0 where
  pub under : T
  pub faults : ℕ

abbrev pub reader_stream : {T : Type 0} → RealEndState T → StreamState
reader_stream reader = record { left = None; written = None; read_faults = reader.faults; write_faults = 0; names = [] }

abbrev pub writer_stream : {T : Type 0} → RealEndState T → StreamState
writer_stream writer = record { left = None; written = None; read_faults = 0; write_faults = writer.faults; names = [] }

-- | a real link, which counts the faults of its reads and those of its writes
pub record RealLinkState : Type 0 where
  pub reads : ℕ
  pub writes : ℕ

abbrev pub untold_stream : RealLinkState → StreamState
untold_stream link = record { left = None; written = None; read_faults = link.reads; write_faults = link.writes; names = [] }

-- | a real key folder, which counts its faults
pub record RealDirState : Type 0 where
  pub faults : ℕ

abbrev pub untold_dir : RealDirState → DirState
untold_dir dir = record { files = None; faults = dir.faults }

-- a real desk: the last reading of its clock, and its counts of faults
pub record RealDeskState : Type 0 where
  pub last : ℕ
  pub accept_faults : ℕ
  pub fill_faults : ℕ

-- | it has always room, since it keeps neither links nor receipts
abbrev pub untold_desk : RealDeskState → DeskState RealLinkState
untold_desk desk = record {
  coming = None;
  returned = None;
  readings = None;
  random = None;
  receipts = None;
  calls = None;
  link_room = 1;
  receipt_room = 1;
  accept_faults = desk.accept_faults;
  fill_faults = desk.fill_faults;
}
