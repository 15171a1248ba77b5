-- Workers in seats, and how their passes meet.
use Rattle.std.specs.Prelude.{◌≡◌, ℕ, ◌+◌, ◌⊎◌, Bool, false, List, [], ◌∷◌, ◌++◌, length, Option, Some, None}
use Rattle.ks_machine.specs.Fronts.{◌⊑◌}
use Rattle.ks_outside.specs.Desks.{DeskState}
use Rattle.ks_outside.specs.Files.{DirState}
use Rattle.ks_outside.specs.Streams.{StreamState}
use Rattle.ks_server.specs.Exchanges.{made}
use Rattle.ks_server.specs.Work.{IsReadingAmong}
use Rattle.ks_server.specs.Workers.{AreServed, Place, Shift, all_exchanges, first_keeper, some_failed}
use Rattle.ks_server.specs.steps.Shifts.{IsWorked}
use Rattle.ks_turn.specs.Passes.{Passed, splitting}

-- a seat: its pass, where it is there, its desk and folder, and how its worker ended
pub record SeatState (F Link : Type 0) : Type 0 where
  pub pass : Option Passed
  pub place : Place Link
  pub failed : Bool
  pub keeper : Option F

abbrev pub seat_state : {F Link : Type 0} → Option Passed → DeskState Link → DirState → Bool → Option F → SeatState F Link
seat_state pass desk dir failed keeper =
    record { pass = pass; place = record { desk = desk; dir = dir }; failed = failed; keeper = keeper }

-- a seat before its worker begins, with what was split off from this pass
abbrev pub seated : {F Link : Type 0} → Passed → Place Link → SeatState F Link
seated pass place = record { pass = Some (splitting pass); place = place; failed = false; keeper = None }

-- the worker of a seat served its desk
pub record HasWorked {F Link : Type 0} (state : Link → StreamState) (connections : ℕ) (old new : SeatState F Link) : Type 0 where
  pub before : Passed
  pub after : Passed
  pub had : old.pass ≡ Some before
  pub has : new.pass ≡ Some after
  pub worked : IsWorked state connections before after old.place new.place new.failed new.keeper

-- in this seat a worker served this desk, through this pass at the start
pub record SeatServed {F Link : Type 0} (state : Link → StreamState) (connections : ℕ) (pass : Passed) (old : Place Link) (seat : SeatState F Link) : Type 0 where
  pub after : Passed
  pub has : seat.pass ≡ Some after
  pub worked : IsWorked state connections pass after old seat.place seat.failed seat.keeper

-- in these seats workers served these desks
abbrev pub HaveWorked : {F Link : Type 0} → (Link → StreamState) → ℕ → Passed → List (Place Link) → List (SeatState F Link) → Type 0
HaveWorked state connections pass [] [] = Unit {0}
HaveWorked state connections pass [] (seat ∷ seats) = ⊥
HaveWorked state connections pass (old ∷ olds) [] = ⊥
HaveWorked state connections pass (old ∷ olds) (seat ∷ seats) =
    SeatServed state connections pass old seat × HaveWorked state connections pass olds seats

-- the passes of these workers have met with what was left of the pass, and that of so many more are to meet with it
pub record HaveMet {F Link : Type 0} (state : Link → StreamState) (connections : ℕ) (old now : Passed) (olds news : List (Place Link)) (failed : Bool) (keeper : Option F) (more : ℕ) : Type 0 where
  pub shifts : List (Shift F Link)
  pub desks : AreServed state connections old.seen now.seen olds news shifts
  pub turn : now.turn ≡ old.turn
  pub later : old.seen ⊑ now.seen
  pub own : now.own ≡ old.own ++ made now.seen (all_exchanges shifts)
  pub top : (now.top ≡ old.top) ⊎ IsReadingAmong now.top (all_exchanges shifts)
  pub weight : now.weight + more ≡ old.weight
  pub failed_is : failed ≡ some_failed shifts
  pub keeper_is : keeper ≡ first_keeper shifts

-- of these desks the workers of the first ones have met, and those in these seats are left
pub record Meeting {F Link : Type 0} (state : Link → StreamState) (connections : ℕ) (old now : Passed) (olds news : List (Place Link)) (seats : List (SeatState F Link)) (failed : Bool) (keeper : Option F) : Type 0 where
  pub first : List (Place Link)
  pub others : List (Place Link)
  pub are_both : olds ≡ first ++ others
  pub met : HaveMet state connections old now first news failed keeper (length others)
  pub rest : HaveWorked state connections (splitting old) others seats
