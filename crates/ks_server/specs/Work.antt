-- Stretches of work: what a pass saw and made, and what a desk gave, in some exchanges.
use Rattle.std.specs.Prelude.{◌≡◌, ℕ, ◌⊎◌, List, [], ◌∷◌, ◌++◌, Some}
use Rattle.ks_machine.specs.Fronts.{◌⊑◌}
use Rattle.ks_outside.specs.Counts.{Counts}
use Rattle.ks_outside.specs.Desks.{DeskState}
use Rattle.ks_outside.specs.Files.{DirState}
use Rattle.ks_outside.specs.Streams.{StreamState}
use Rattle.ks_server.specs.declared.closed.Closed.{Closed}
use Rattle.ks_server.specs.declared.closed.Closed.TheVariants as closed
use Rattle.ks_server.specs.Exchanges.{Asked, calls, refused, Exchange, bare, made}
use Rattle.ks_server.specs.Orders.{Goes, GoesAlone}
use Rattle.ks_server.specs.Sessions.{EndsSession}
use Rattle.ks_server.specs.Ties.{AreNumbered, Tied}
use Rattle.ks_service.specs.Called.{capped}
use Rattle.ks_turn.specs.Passes.{Passed}

-- | some call's reading, up to the last that counts
abbrev pub IsReading : ℕ → Asked → Type 0
IsReading moment (calls call) = moment ≡ capped call.reading
IsReading moment (refused why) = ⊥

abbrev pub IsReadingAmong : ℕ → List Exchange → Type 0
IsReadingAmong moment [] = ⊥
IsReadingAmong moment (x ∷ xs) = IsReading moment x.asked ⊎ IsReadingAmong moment xs

-- | what a pass saw and made in some exchanges: they are in order, it owns their changes and no others, and it raised the highest moment to
-- one of their readings, or not at all
pub record PassMoves (old new : Passed) (xs : List Exchange) : Type 0 where
  pub turn : new.turn ≡ old.turn
  -- it has seen at the end what the last exchange left
  pub later : old.seen ⊑ new.seen
  pub in_order : Goes new.seen (bare old.seen) xs (bare new.seen)
  -- it made the changes of the exchanges, and no others
  pub own : new.own ≡ old.own ++ made new.seen xs
  -- it raised the highest moment to some reading, or not at all
  pub top : (new.top ≡ old.top) ⊎ IsReadingAmong new.top xs
  pub weight : new.weight ≡ old.weight
  -- with all the weight it is alone
  pub alone : old.weight ≡ 1000000 → GoesAlone new.seen (bare old.seen) xs

-- | a stretch of work: what a pass did, tied to a desk and its folder
pub record Works {Link : Type 0} (old new : Passed) (desk desk_after : DeskState Link) (dir dir_after : DirState) (xs : List Exchange) : Type 0 where
  pub moves : PassMoves old new xs
  pub tied : Tied desk desk_after dir dir_after xs

-- a link was served, and its connection ended for this
pub record ServesLink {F Link : Type 0} (old new : Passed) (desk desk_after : DeskState Link) (dir dir_after : DirState) (connection : ℕ) (link link_after : StreamState) (why : Closed F) : Type 0 where
  pub exchanges : List Exchange
  pub works : Works old new desk desk_after dir dir_after exchanges
  pub numbered : AreNumbered connection 0 exchanges
  -- the bytes of its session were written
  pub told : (text before : List ℕ) → link.left ≡ Some text → link.written ≡ Some before
      → EndsSession new.seen text before link_after.left link_after.written exchanges why
  -- a fault was counted
  pub reads : Counts (why ≡ closed.ReadFault) link.read_faults link_after.read_faults
  pub writes : Counts (why ≡ closed.WriteFault) link.write_faults link_after.write_faults
  -- the link is over the same ends
  pub names : link_after.names ≡ link.names
