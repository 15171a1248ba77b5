-- What `talk` does behind its opening: it serves one connection, and ends with the identity.
use Rattle.std.specs.Prelude.{◌≡◌, ◌≢◌, ◌⊎◌, ℕ, ◌+◌, List, Option, Some, None, length}
use Rattle.ks_keep.specs.declared.keeping.KeeperFailed.{KeeperFailed}
use Rattle.ks_keep.specs.Books.{BookedState, StandsBooked}
use Rattle.ks_keeper.specs.Keeper.{Keeping}
use Rattle.ks_machine.specs.Fronts.{Front, ◌⊑◌}
use Rattle.ks_outside.specs.Counts.{Counts}
use Rattle.ks_outside.specs.Desks.{DeskState}
use Rattle.ks_server.specs.declared.closed.Closed.{Closed}
use Rattle.ks_server.specs.declared.closed.Closed.TheVariants as closed
use Rattle.ks_server.specs.Exchanges.{Exchange, bare, made}
use Rattle.ks_server.specs.Orders.{Goes, GoesAlone}
use Rattle.ks_server.specs.Sessions.{EndsSession}
use Rattle.ks_server.specs.Ties.{AreNumbered, KeepsLinks, Tied}
use Rattle.ks_server.specs.Work.{IsReadingAmong}
use Rattle.ks_commands.specs.declared.fault.Fault.{Fault}
use Rattle.ks_commands.specs.declared.fault.Fault.TheVariants as fault
use Rattle.ks_top.specs.Identities.{HadNoRoom, OpensThen}
use Rattle.ks_top.specs.World.{World}
use Rattle.ks_turn.specs.Sums.{below, times}

-- | the fault that an end of a connection is; it is served to its end, and never rests
abbrev pub ending : Closed KeeperFailed → Option Fault → Type 0
ending closed.End f = f ≡ None
ending closed.Rests f = ⊥
ending closed.Asked f = f ≡ None
ending closed.Last f = f ≡ None
ending (closed.BadHttp why) f = f ≡ None
ending closed.ReadFault f = f ≡ Some fault.Read
ending closed.WriteFault f = f ≡ Some fault.Write
ending closed.Memory f = f ≡ Some fault.Memory
ending (closed.KeeperFault why) f = f ≡ Some (fault.Keeper (Some why))

-- a talk of these exchanges over the identity that began at this front, behind which the desk was this, ended for this
pub record Talked {Link Seat K : Type 0} (old new : World Link Seat K) (first : Front) (opened : DeskState Link) (journal : Front) (xs : List Exchange) (why : Closed KeeperFailed) : Type 0 where
  -- the exchanges are numbered on the one connection, and go from the first front to the end of the journal
  pub numbered : AreNumbered 0 0 xs
  pub in_order : Goes journal (bare first) xs (bare journal)
  pub later : first ⊑ journal
  -- each names the next event, at the greatest reading so far
  pub alone : GoesAlone journal (bare first) xs
  -- each change behind the first front is the change of exactly one of them
  pub made : (n : ℕ) → times n (made journal xs) + below n (length first.changes) ≡ below n (length journal.changes)
  -- its highest moment is the first one or some call's reading
  pub high : (journal.high ≡ first.high) ⊎ IsReadingAmong journal.high xs
  -- they are what the desk and its folder gave and took
  pub tied : Tied opened new.desk old.place new.place xs
  pub links : KeepsLinks opened new.desk
  -- the bytes of their session were written
  pub told : (text before : List ℕ) → old.input.left ≡ Some text → old.output.written ≡ Some before
      → EndsSession journal text before new.input.left new.output.written xs why
  -- it was served to its end
  pub to_end : why ≢ closed.Rests
  -- a fault was counted
  pub reads : Counts (why ≡ closed.ReadFault) old.input.read_faults new.input.read_faults
  pub writes : Counts (why ≡ closed.WriteFault) old.output.write_faults new.output.write_faults

-- the connection was served, and the identity stands for the end of its journal
pub record ServesOne {Link Seat K : Type 0} (keeping : Keeping K) (old new : World Link Seat K) (first : Front) (opened : DeskState Link) (f : Option Fault) (state : BookedState K) : Type 0 where
  pub journal : Front
  pub exchanges : List Exchange
  pub why : Closed KeeperFailed
  pub stands : StandsBooked keeping state journal
  pub talked : Talked old new first opened journal exchanges why
  pub ends : ending why f
  -- the other desks are as they were
  pub others : new ≡ record old { input = new.input; file = new.file; output = new.output; dir = new.dir; desk = new.desk; place = new.place; keeper = new.keeper }

-- it was served, unless there was no memory for that
abbrev pub ServedOne : {Link Seat K : Type 0} → Keeping K → World Link Seat K → World Link Seat K → Option Fault → Front → DeskState Link → BookedState K → Type 0
ServedOne keeping old new f first opened state = ServesOne keeping old new first opened f state ⊎ HadNoRoom keeping old new first opened f state

-- | what a talk does behind its opening: it served its connection, whose exchanges are in order from the front with which it began to the
-- journal for which the identity with its keeper stands, each change behind that front is one exchange's, the highest moment is that
-- front's or some call's reading, and the bytes of their session were written; the other desks are as they were; or there was no memory to
-- serve it
abbrev pub Talks : {Link Seat K : Type 0} → Keeping K → World Link Seat K → World Link Seat K → Option Fault → Option (BookedState K) → Type 0
Talks keeping old new f state = OpensThen keeping (ServedOne keeping old new f) old new f state
