-- A borrowed source and a borrowed sink as one link.
use Rattle.std.specs.Prelude.{[], ◌∷◌}
use Rattle.ks_outside.specs.declared.pair.Pair.{Pair}
use Rattle.ks_outside.specs.Streams.{StreamState}

-- | a borrowed source and a borrowed sink as one link: it gives what its source gives, takes what its sink takes, and holds the two
-- references
abbrev pub pair_stream : {S K : Type 0} → (S → StreamState) → (K → StreamState) → Pair S K → StreamState
pair_stream source sink pair = record {
  left = (source pair.source.now).left;
  written = (sink pair.sink.now).written;
  read_faults = (source pair.source.now).read_faults;
  write_faults = (sink pair.sink.now).write_faults;
  names = pair.source.ghost_name ∷ pair.sink.ghost_name ∷ [];
}
