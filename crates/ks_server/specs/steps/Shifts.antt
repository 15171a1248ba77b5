-- How far a worker has come, and what it did.
use Rattle.std.specs.Prelude.{◌≡◌, ◌≢◌, ℕ, ◌%◌, ◌^◌, ◌≤◌, Bool, List, ◌++◌, length, Option, Some}
use Rattle.ks_outside.specs.Streams.{Appends, StreamState}
use Rattle.ks_server.specs.Work.{PassMoves, Works}
use Rattle.ks_server.specs.Workers.{AreVisited, HaveNoKeeperFault, IsServed, Place, Visit, accepted_of, exchanges_of, returned_of}
use Rattle.ks_turn.specs.Passes.{Passed}

-- these links of a desk were served
pub record HaveServed {F Link : Type 0} (state : Link → StreamState) (old now : Passed) (place place_now : Place Link) (visits : List (Visit F Link)) : Type 0 where
  pub works : Works old now place.desk place_now.desk place.dir place_now.dir (exchanges_of visits)
  pub visited : AreVisited state now.seen 0 visits
  pub coming : (links : List Link) → place.desk.coming ≡ Some links → (rest : List Link) × (links ≡ accepted_of visits ++ rest) × (place_now.desk.coming ≡ Some rest)
  pub returned : Appends (returned_of visits) place.desk.returned place_now.desk.returned
  pub accepts : place.desk.accept_faults ≤ place_now.desk.accept_faults

-- a worker goes on: its next link has this number
pub record Working (F : Type 0) {Link : Type 0} (state : Link → StreamState) (connections number : ℕ) (old now : Passed) (place place_now : Place Link) : Type 0 where
  pub visits : List (Visit F Link)
  pub served : HaveServed state old now place place_now visits
  pub number_is : number ≡ length visits % 2 ^ 64
  pub few : connections ≢ 0 → length visits ≤ connections
  pub kept : HaveNoKeeperFault visits

-- a worker ended so
pub record IsWorked {F Link : Type 0} (state : Link → StreamState) (connections : ℕ) (old new : Passed) (place place_new : Place Link) (failed : Bool) (keeper : Option F) : Type 0 where
  pub visits : List (Visit F Link)
  pub moves : PassMoves old new (exchanges_of visits)
  pub served : IsServed state connections old.seen new.seen place place_new (record { visits = visits; failed = failed; keeper = keeper })
