-- What a command leaves of its keeper.
use Rattle.std.specs.Prelude.{Option, Some, None}
use Rattle.ks_keep.specs.Books.{BookedState}
use Rattle.ks_top.specs.declared.outcome.End.{End}
use Rattle.ks_top.specs.declared.outcome.End.TheVariants.{Open, Shut}

-- the identity that was opened, if one was
abbrev pub state_at : {K : Type 0} → End K → Option (BookedState K)
state_at (Open state) = Some state
state_at (Shut keeper) = None

abbrev pub keeper_at : {K : Type 0} → End K → K
keeper_at (Open state) = state.keeper
keeper_at (Shut keeper) = keeper
