-- Workers beside each other: each serves the links of one desk through a pass of its own, and the passes meet at the end.
use Rattle.std.specs.Prelude.{◌≡◌, ◌≢◌, ◌⊎◌, ℕ, ◌+◌, ◌%◌, ◌^◌, ◌≤◌, Bool, true, false, ◌||◌, List, [], ◌∷◌, ◌++◌, length, map, flat_map, Option, Some, None}
use Rattle.std.specs.List.{AllByRecursion}
use Rattle.std.specs.Option.{option_or}
use Rattle.ks_machine.specs.Fronts.{Front, ◌⊑◌}
use Rattle.ks_outside.specs.Counts.{Counts}
use Rattle.ks_outside.specs.Desks.{DeskState}
use Rattle.ks_outside.specs.Files.{DirState}
use Rattle.ks_outside.specs.Streams.{Appends, StreamState}
use Rattle.ks_server.specs.declared.closed.Closed.{Closed}
use Rattle.ks_server.specs.declared.closed.Closed.TheVariants as closed
use Rattle.ks_server.specs.Exchanges.{Exchange, made}
use Rattle.ks_server.specs.Orders.{InOrder}
use Rattle.ks_server.specs.Sessions.{EndsSession}
use Rattle.ks_server.specs.Ties.{AreNumbered, Tied}
use Rattle.ks_server.specs.Work.{IsReadingAmong}
use Rattle.ks_turn.specs.Passes.{Passed}

-- a desk and its folder
pub record Place (Link : Type 0) : Type 0 where
  pub desk : DeskState Link
  pub dir : DirState

-- | a link that was served: how it was accepted and how it was given back, the exchanges on it, and why its connection ended
pub record Visit (F Link : Type 0) : Type 0 where
  pub accepted : Link
  pub returned : Link
  pub exchanges : List Exchange
  pub why : Closed F

-- | what a worker did: the links that it served, in order; whether it ended since an accept failed; and the fault of keeping changes
-- with which it ended, if it did
pub record Shift (F Link : Type 0) : Type 0 where
  pub visits : List (Visit F Link)
  pub failed : Bool
  pub keeper : Option F

abbrev pub accepted_of : {F Link : Type 0} → List (Visit F Link) → List Link
accepted_of visits = map (λ v. v.accepted) visits

abbrev pub returned_of : {F Link : Type 0} → List (Visit F Link) → List Link
returned_of visits = map (λ v. v.returned) visits

abbrev pub exchanges_of : {F Link : Type 0} → List (Visit F Link) → List Exchange
exchanges_of visits = flat_map (λ v. v.exchanges) visits

-- | the exchanges of all workers, in the order of their desks
abbrev pub all_exchanges : {F Link : Type 0} → List (Shift F Link) → List Exchange
all_exchanges shifts = flat_map (λ s. exchanges_of s.visits) shifts

-- | a link of this number was served: what its client was told is what this journal says
pub record IsVisited {F Link : Type 0} (state : Link → StreamState) (journal : Front) (connection : ℕ) (visit : Visit F Link) : Type 0 where
  pub numbered : AreNumbered connection 0 visit.exchanges
  -- the bytes of its session were written
  pub told : (text before : List ℕ) → (state visit.accepted).left ≡ Some text → (state visit.accepted).written ≡ Some before
      → EndsSession journal text before (state visit.returned).left (state visit.returned).written visit.exchanges visit.why
  -- a fault was counted
  pub reads : Counts (visit.why ≡ closed.ReadFault) (state visit.accepted).read_faults (state visit.returned).read_faults
  pub writes : Counts (visit.why ≡ closed.WriteFault) (state visit.accepted).write_faults (state visit.returned).write_faults
  -- the link is over the same ends
  pub names : (state visit.returned).names ≡ (state visit.accepted).names

-- | the links behind `count` others were served. Their numbers have 64 bits
abbrev pub AreVisited : {F Link : Type 0} → (Link → StreamState) → Front → ℕ → List (Visit F Link) → Type 0
AreVisited state journal count [] = Unit {0}
AreVisited state journal count (visit ∷ visits) =
    IsVisited state journal (count % 2 ^ 64) visit × AreVisited state journal (count + 1) visits

-- | a connection did not end since changes could not be kept
abbrev pub HasNoKeeperFault : {F : Type 0} → Closed F → Type 0
HasNoKeeperFault closed.End = Unit {0}
HasNoKeeperFault closed.Rests = Unit {0}
HasNoKeeperFault closed.Asked = Unit {0}
HasNoKeeperFault closed.Last = Unit {0}
HasNoKeeperFault closed.ReadFault = Unit {0}
HasNoKeeperFault closed.WriteFault = Unit {0}
HasNoKeeperFault (closed.BadHttp why) = Unit {0}
HasNoKeeperFault closed.Memory = Unit {0}
HasNoKeeperFault (closed.KeeperFault why) = ⊥

abbrev pub HaveNoKeeperFault : {F Link : Type 0} → List (Visit F Link) → Type 0
HaveNoKeeperFault visits = AllByRecursion (λ v. HasNoKeeperFault v.why) visits

-- | the last connection ended since changes could not be kept, for this fault, and none before it
pub record EndsAtKeeper {F Link : Type 0} (visits : List (Visit F Link)) (why : F) : Type 0 where
  pub before : List (Visit F Link)
  pub last : Visit F Link
  pub are_both : visits ≡ before ++ last ∷ []
  pub is : last.why ≡ closed.KeeperFault why
  pub none_before : HaveNoKeeperFault before

-- a desk that tells its links has no more to come
abbrev pub HasNoLink : {Link : Type 0} → DeskState Link → DeskState Link → Type 0
HasNoLink {Link} old new = (links : List Link) → old.coming ≡ Some links → new.coming ≡ Some []

-- | how a worker ended, by whether an accept failed and by the fault of keeping changes: where there was neither, no link came, or as
-- many had come as it was to serve, which 0 does not bound
abbrev pub EndsShift : {F Link : Type 0} → ℕ → DeskState Link → DeskState Link → List (Visit F Link) → Bool → Option F → Type 0
EndsShift connections old new visits true None = HaveNoKeeperFault visits
EndsShift connections old new visits true (Some why) = ⊥
EndsShift connections old new visits false (Some why) = EndsAtKeeper visits why
EndsShift connections old new visits false None =
    HaveNoKeeperFault visits × (HasNoLink old new ⊎ ((connections ≢ 0) × (length visits ≡ connections)))

-- | a worker served the links of a desk, from what was seen at the start: its exchanges are in order and tied to the desk, its links came
-- in order and were all given back, and it ended so
pub record IsServed {F Link : Type 0} (state : Link → StreamState) (connections : ℕ) (seen journal : Front) (old new : Place Link) (shift : Shift F Link) : Type 0 where
  -- its exchanges are in the order of the journal, and tied to the desk and its folder
  pub in_order : InOrder seen journal (exchanges_of shift.visits)
  pub tied : Tied old.desk new.desk old.dir new.dir (exchanges_of shift.visits)
  pub visited : AreVisited state journal 0 shift.visits
  -- the links came in their order
  pub coming : (links : List Link) → old.desk.coming ≡ Some links → (rest : List Link) × (links ≡ accepted_of shift.visits ++ rest) × (new.desk.coming ≡ Some rest)
  -- each was given back, in the same order
  pub returned : Appends (returned_of shift.visits) old.desk.returned new.desk.returned
  -- an accept that failed was counted
  pub accepts : Counts (shift.failed ≡ true) old.desk.accept_faults new.desk.accept_faults
  -- they are no more than they were to be
  pub few : connections ≢ 0 → length shift.visits ≤ connections
  pub ends : EndsShift connections old.desk new.desk shift.visits shift.failed shift.keeper

-- | each of these desks was served by a worker of its own
abbrev pub AreServed : {F Link : Type 0} → (Link → StreamState) → ℕ → Front → Front → List (Place Link) → List (Place Link) → List (Shift F Link) → Type 0
AreServed state connections seen journal [] [] [] = Unit {0}
AreServed state connections seen journal [] [] (shift ∷ shifts) = ⊥
AreServed state connections seen journal [] (new ∷ news) shifts = ⊥
AreServed state connections seen journal (old ∷ olds) [] shifts = ⊥
AreServed state connections seen journal (old ∷ olds) (new ∷ news) [] = ⊥
AreServed state connections seen journal (old ∷ olds) (new ∷ news) (shift ∷ shifts) =
    IsServed state connections seen journal old new shift × AreServed state connections seen journal olds news shifts

-- | an accept failed at some desk
abbrev pub some_failed : {F Link : Type 0} → List (Shift F Link) → Bool
some_failed [] = false
some_failed (shift ∷ shifts) = shift.failed || some_failed shifts

-- | the first fault of keeping changes, in the order of the desks
abbrev pub first_keeper : {F Link : Type 0} → List (Shift F Link) → Option F
first_keeper [] = None
first_keeper (shift ∷ shifts) = option_or shift.keeper (first_keeper shifts)

-- all desks were served beside each other, and all is told at the journal that the pass has seen at the end, whose own the changes are and
-- no others
pub record ServesAll {F Link : Type 0} (state : Link → StreamState) (connections : ℕ) (old new : Passed) (olds news : List (Place Link)) (failed : Bool) (keeper : Option F) : Type 0 where
  pub shifts : List (Shift F Link)
  pub desks : AreServed state connections old.seen new.seen olds news shifts
  pub turn : new.turn ≡ old.turn
  pub later : old.seen ⊑ new.seen
  -- the changes of the exchanges were made through it, and no others
  pub own : new.own ≡ old.own ++ made new.seen (all_exchanges shifts)
  -- it raised the highest moment to some reading, or not at all
  pub top : (new.top ≡ old.top) ⊎ IsReadingAmong new.top (all_exchanges shifts)
  pub weight : new.weight ≡ old.weight
  -- what is told of the workers
  pub failed_is : failed ≡ some_failed shifts
  pub keeper_is : keeper ≡ first_keeper shifts
