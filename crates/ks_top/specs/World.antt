-- What the program stands over.
use Rattle.std.specs.Prelude.{◌≡◌, List, [], Option, Some, None}
use Rattle.ks_keep.specs.Books.{BookedState}
use Rattle.ks_outside.specs.Desks.{DeskState}
use Rattle.ks_outside.specs.Files.{DirState}
use Rattle.ks_outside.specs.Streams.{StreamState}

-- | its input, opening file and output, the folder of the opening and of the commands on keys, the first desk with its folder, the
-- other desks, each with its own, and the keeper of its journal
pub record World (Link Seat K : Type 0) : Type 0 where
  pub input : StreamState
  pub file : StreamState
  pub output : StreamState
  pub dir : DirState
  pub desk : DeskState Link
  pub place : DirState
  pub others : List Seat
  pub keeper : K

-- | a link over the input and the output
abbrev pub link_of : {Link Seat K : Type 0} → World Link Seat K → StreamState
link_of world = record {
  left = world.input.left;
  written = world.output.written;
  read_faults = world.input.read_faults;
  write_faults = world.output.write_faults;
  names = [];
}

-- the keeper is the one of the identity where one was opened, and else the one beside it
abbrev pub HasKeeper : {K : Type 0} → Option (BookedState K) → Option K → K → Type 0
HasKeeper (Some state) None kept = kept ≡ state.keeper
HasKeeper None (Some keeper) kept = kept ≡ keeper
HasKeeper (Some state) (Some keeper) kept = ⊥
HasKeeper None None kept = ⊥
