-- What `serve` does behind its opening: its desks are served beside each other, and it ends with the identity.
use Rattle.std.specs.Prelude.{◌≡◌, ◌⊎◌, ℕ, ◌+◌, ◌-◌, Bool, true, false, List, ◌∷◌, length, take, drop, map, Option, Some, None}
use Rattle.std.specs.List.{AllByRecursion}
use Rattle.ks_keep.specs.declared.keeping.KeeperFailed.{KeeperFailed}
use Rattle.ks_keep.specs.Books.{BookedState, StandsBooked}
use Rattle.ks_keeper.specs.Keeper.{Keeping}
use Rattle.ks_machine.specs.Fronts.{Front, ◌⊑◌}
use Rattle.ks_outside.specs.Desks.{DeskState}
use Rattle.ks_outside.specs.Files.{DirState}
use Rattle.ks_outside.specs.Streams.{StreamState}
use Rattle.ks_server.specs.Exchanges.{made}
use Rattle.ks_server.specs.Orders.{IsLate}
use Rattle.ks_server.specs.Work.{IsReadingAmong}
use Rattle.ks_server.specs.Workers.{AreServed, Place, Shift, all_exchanges, first_keeper, some_failed}
use Rattle.ks_commands.specs.declared.fault.Fault.{Fault}
use Rattle.ks_commands.specs.declared.fault.Fault.TheVariants as fault
use Rattle.ks_top.specs.Identities.{HadNoRoom, OpensThen}
use Rattle.ks_top.specs.World.{World}
use Rattle.ks_turn.specs.Sums.{below, times}

-- | the desks that so many workers serve, the first of which is this: as many as there are, at most
abbrev pub serving : {Link Seat : Type 0} → (Seat → Place Link) → ℕ → DeskState Link → DirState → List Seat → List (Place Link)
serving view workers desk place others = record { desk = desk; dir = place } ∷ map view (take (workers - 1) others)

-- | the fault that is told of the workers, by the first fault of keeping changes and by whether an accept failed
abbrev pub workers_fault : Option KeeperFailed → Bool → Option Fault
workers_fault (Some why) failed = Some (fault.Keeper (Some why))
workers_fault None true = Some fault.Desk
workers_fault None false = None

-- desks were served beside each other, the first one as the opening left it, and the identity stands for the end of its journal
pub record ServedDesks {Link Seat K : Type 0} (keeping : Keeping K) (view : Seat → Place Link) (stream : Link → StreamState) (workers connections : ℕ) (old new : World Link Seat K) (f : Option Fault) (first : Front) (opened : DeskState Link) (state : BookedState K) : Type 0 where
  pub journal : Front
  pub shifts : List (Shift KeeperFailed Link)
  pub stands : StandsBooked keeping state journal
  pub later : first ⊑ journal
  -- each desk was served by a worker of its own, and all that was done is told by the one journal
  pub desks : AreServed stream connections first journal (serving view workers opened old.place old.others) (serving view workers new.desk new.place new.others) shifts
  -- the desks behind them are as they were
  pub untouched : drop (workers - 1) new.others ≡ drop (workers - 1) old.others
  pub count : length new.others ≡ length old.others
  -- each change behind the first front is the change of exactly one exchange
  pub made : (n : ℕ) → times n (made journal (all_exchanges shifts)) + below n (length first.changes) ≡ below n (length journal.changes)
  -- its highest moment is the first one or some call's reading, and no call that was decided has a later one
  pub high : (journal.high ≡ first.high) ⊎ IsReadingAmong journal.high (all_exchanges shifts)
  pub reached : AllByRecursion (λ x. IsLate x.asked x.receipt.memory journal.high) (all_exchanges shifts)
  -- it ended whole, unless changes could not be kept or an accept failed
  pub ends : f ≡ workers_fault (first_keeper shifts) (some_failed shifts)
  -- nothing else was read, and nothing else written
  pub others : new ≡ record old { file = new.file; dir = new.dir; desk = new.desk; place = new.place; others = new.others; keeper = new.keeper }

-- they were served, unless there was no memory for that
abbrev pub Served : {Link Seat K : Type 0} → Keeping K → (Seat → Place Link) → (Link → StreamState) → ℕ → ℕ → World Link Seat K → World Link Seat K → Option Fault → Front → DeskState Link → BookedState K → Type 0
Served keeping view stream workers connections old new f first opened state =
    ServedDesks keeping view stream workers connections old new f first opened state ⊎ HadNoRoom keeping old new first opened f state

-- | what `serve` does behind its opening: it served with as many desks as there are workers, or with all where they are fewer, and left the
-- others as they were: each by a worker of its own, whose exchanges are in order from the front with which it began to the one journal for
-- which the identity with its keeper stands; each change behind that front is one exchange's; the highest moment is that front's or some
-- call's reading, and no decided call has a later one; it ends by the first fault of keeping changes, else by a fault of the desks exactly
-- where an accept failed
abbrev pub Serves : {Link Seat K : Type 0} → Keeping K → (Seat → Place Link) → (Link → StreamState) → ℕ → ℕ → World Link Seat K → World Link Seat K → Option Fault → Option (BookedState K) → Type 0
Serves keeping view stream workers connections old new f state = OpensThen keeping (Served keeping view stream workers connections old new f) old new f state
