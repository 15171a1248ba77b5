-- What holds wherever the program opened an identity: whatever its workers do beside each other, all that their clients are told is told by
-- one journal.
use Rattle.std.specs.Prelude.{◌≡◌, ◌⊎◌, ℕ, ◌+◌, List, [], ◌∷◌, ◌++◌, length, map, flat_map, Option, Some}
use Rattle.std.specs.List.{AllByRecursion}
use Rattle.ks_keep.specs.declared.keeping.KeeperFailed.{KeeperFailed}
use Rattle.ks_keep.specs.Books.{BookedState, StandsBooked}
use Rattle.ks_keeper.specs.Keeper.{Keeping}
use Rattle.ks_machine.specs.Fronts.{Front, ◌⊑◌}
use Rattle.ks_machine.specs.Lawful.{IsLawful}
use Rattle.ks_outside.specs.Desks.{DeskState}
use Rattle.ks_outside.specs.Streams.{Appends, StreamState}
use Rattle.ks_server.specs.Exchanges.{Exchange, made}
use Rattle.ks_server.specs.Laws.{IsPlaced}
use Rattle.ks_server.specs.Orders.{InOrder}
use Rattle.ks_server.specs.Ties.{Tied}
use Rattle.ks_server.specs.Work.{IsReadingAmong}
use Rattle.ks_server.specs.Workers.{AreVisited, Place, Visit, accepted_of, exchanges_of, returned_of}
use Rattle.ks_words.specs.declared.words.Places.{Places}
use Rattle.ks_words.specs.declared.words.Words.{Words}
use Rattle.ks_words.specs.declared.words.Words.TheVariants as asked
use Rattle.ks_commands.specs.declared.fault.Fault.{Fault}
use Rattle.ks_commands.specs.declared.fault.Fault.TheVariants as fault
use Rattle.ks_top.specs.Identities.{Begins}
use Rattle.ks_top.specs.Serve.{serving}
use Rattle.ks_top.specs.World.{World, link_of}
use Rattle.ks_turn.specs.Sums.{below, times}

-- | a worker: its desk and folder at first and at the end, and the connections that it served, each with its link as it came and as it went
pub record Worker (Link : Type 0) : Type 0 where
  pub before : Place Link
  pub after : Place Link
  pub connections : List (Visit KeeperFailed StreamState)

abbrev pub exchanges_by : {Link : Type 0} → List (Worker Link) → List Exchange
exchanges_by workers = flat_map (λ w. exchanges_of w.connections) workers

-- | a worker served its connections one after the other, from what was seen at first: its exchanges are tied to its desk and folder and in
-- the order of the journal, and what was written on each link is the plain machine's reply at its receipt
pub record TellsOf {Link : Type 0} (first journal : Front) (w : Worker Link) : Type 0 where
  -- each exchange asks what its request says; its receipt, its reading and its random bytes are its desk's, and its keys its folder's
  pub tied : Tied w.before.desk w.after.desk w.before.dir w.after.dir (exchanges_of w.connections)
  -- its front, which its receipt cuts off the journal, goes on from all that the worker had seen, and the journal from it
  pub in_order : InOrder first journal (exchanges_of w.connections)
  pub placed : AllByRecursion (λ x. IsPlaced first journal x) (exchanges_of w.connections)
  -- what was written on its link is the plain machine's reply after that front
  pub told : AreVisited (λ link. link) journal 0 w.connections

-- | the links of `serve` came from the desk in their order, and went back to it
pub record HasLinks {Link : Type 0} (stream : Link → StreamState) (w : Worker Link) : Type 0 where
  pub came : List Link
  pub went : List Link
  pub are : (map stream came ≡ accepted_of w.connections) × (map stream went ≡ returned_of w.connections)
  pub coming : (links : List Link) → w.before.desk.coming ≡ Some links → (rest : List Link) × (links ≡ came ++ rest) × (w.after.desk.coming ≡ Some rest)
  pub returned : Appends went w.before.desk.returned w.after.desk.returned

-- | the one link of `talk` is over the input and the output; there was no other, and none where there was no memory to serve it
abbrev pub HasEnds : {Link Seat K : Type 0} → World Link Seat K → World Link Seat K → Option Fault → Worker Link → Type 0
HasEnds old new f w =
    ((accepted_of w.connections ≡ link_of old ∷ []) × (returned_of w.connections ≡ link_of new ∷ []))
    ⊎ ((w.connections ≡ []) × (f ≡ Some fault.Memory))

-- | by its words the program serves with its first desk alone, or with so many, each with a worker of its own
pub data AreWorkers {Link Seat K : Type 0} (view : Seat → Place Link) (stream : Link → StreamState) (old new : World Link Seat K) (f : Option Fault) (workers : List (Worker Link)) : ℕ → Words → Type 0 where
  talks : (places : Places) → AllByRecursion (HasEnds old new f) workers → AreWorkers view stream old new f workers 1 (asked.Talk places)
  serves : (places : Places) (connections : ℕ) → AllByRecursion (HasLinks stream) workers → AreWorkers view stream old new f workers places.workers (asked.Serve places connections)

-- | wherever the program opened an identity: it began with the opening of the file, the folder and the bytes of the first desk, or with all
-- that its keeper held; there is one journal, which goes on from there and for which the identity with its keeper stands at the end; each
-- change behind that is one exchange's, and its highest moment is the first one or some call's reading; each desk that served had a worker,
-- who told its clients of it
pub record Headline {Link Seat K : Type 0} (keeping : Keeping K) (view : Seat → Place Link) (stream : Link → StreamState) (what : Words) (old new : World Link Seat K) (f : Option Fault) (state : BookedState K) : Type 0 where
  pub first : Front
  pub desk : DeskState Link
  pub journal : Front
  pub count : ℕ
  pub workers : List (Worker Link)
  -- it began with the opening of its file before any change, or went on from all that its keeper held
  pub begins : Begins keeping old new desk first
  pub lawful : IsLawful first
  -- there is one journal, which goes on from that, and for which the identity stands at the end: its keeper holds the opening and the first of
  -- the changes, those at least that count as kept
  pub later : first ⊑ journal
  pub stands : StandsBooked keeping state journal
  pub keeper : new.keeper ≡ state.keeper
  -- each change behind the first front is that of exactly one exchange, and the highest moment is the first one's or some call's reading
  pub made : (n : ℕ) → times n (made journal (exchanges_by workers)) + below n (length first.changes) ≡ below n (length journal.changes)
  pub high : (journal.high ≡ first.high) ⊎ IsReadingAmong journal.high (exchanges_by workers)
  -- the desks, the first of them as the opening left it, had a worker each, who told its clients of it
  pub are : AreWorkers view stream old new f workers count what
  pub before : map (λ w. w.before) workers ≡ serving view count desk old.place old.others
  pub after : map (λ w. w.after) workers ≡ serving view count new.desk new.place new.others
  pub each : AllByRecursion (TellsOf first journal) workers
