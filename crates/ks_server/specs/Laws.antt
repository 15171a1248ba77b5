-- What holds of exchanges in order, whatever they are.
use Rattle.std.specs.Prelude.{◌≡◌, ℕ, ◌≤◌, Bool, List, Option, Some, slice_get}
use Rattle.std.specs.List.{AllByRecursion}
use Rattle.ks_machine.specs.declared.change.Entry.{Entry}
use Rattle.ks_machine.specs.Fronts.{Front, IsSound, ◌⊑◌, cut}
use Rattle.ks_outside.specs.Streams.{StreamState}
use Rattle.ks_server.specs.declared.closed.Closed.{Closed}
use Rattle.ks_server.specs.Exchanges.{Exchange, cut_at, front_after}
use Rattle.ks_server.specs.Orders.{InOrder, IsLate}
use Rattle.ks_server.specs.Sessions.{EndsSession}
use Rattle.ks_server.specs.Work.{PassMoves}
use Rattle.ks_server.specs.Workers.{Place, ServesAll, all_exchanges}
use Rattle.ks_turn.specs.Passes.{Passed}

-- law: what a pass did is in order: from what it had seen to what it has seen
abbrev pub MovesInOrder : Type 0
MovesInOrder = (old new : Passed) (xs : List Exchange) → PassMoves old new xs → InOrder old.seen new.seen xs

-- | where the receipt of an exchange stands in the journal
pub record IsPlaced (seen journal : Front) (x : Exchange) : Type 0 where
  -- the front that it cuts off goes on from what was seen, with all that is kept, and the journal from it
  pub after_seen : seen ⊑ cut journal x.receipt.changes x.receipt.moment
  pub in_journal : cut_at journal x.receipt ⊑ journal
  -- and the journal from the front after the exchange
  pub is_past : front_after journal x ⊑ journal
  -- its moment is not above the highest, nor above that of the change with its number
  pub high : x.receipt.moment ≤ journal.high
  pub next : (entry : Entry) → slice_get journal.changes x.receipt.changes ≡ Some entry → x.receipt.moment ≤ entry.moment

-- law: each receipt stands in the journal behind all that was seen before, and no later than the highest moment and than the change with
-- its number
abbrev pub ReceiptsArePlaced : Type 0
ReceiptsArePlaced =
    (seen journal : Front) (xs : List Exchange) → InOrder seen journal xs → seen ⊑ journal → IsSound seen → AllByRecursion (λ x. IsPlaced seen journal x) xs

-- law: what is in order stays so as the journal goes on
abbrev pub OrderStays : Type 0
OrderStays = (seen f g : Front) (xs : List Exchange) → InOrder seen f xs → f ⊑ g → InOrder seen g xs

-- law: how a session ended reads the same off each later journal
abbrev pub SessionsStay : Type 0 → Type 0
SessionsStay F =
    (seen f g : Front) (xs : List Exchange) → InOrder seen f xs → f ⊑ g → (input before : List ℕ) (left written : Option (List ℕ)) (why : Closed F)
    → EndsSession f input before left written xs why → EndsSession g input before left written xs why

-- law: each exchange of workers stands so in the journal that the pass has seen at the end, and no command that was decided was read later
-- than its highest moment
abbrev pub WorkersArePlaced : Type 0 → Type 0 → Type 0
WorkersArePlaced F Link =
    (state : Link → StreamState) (connections : ℕ) (old new : Passed) (olds news : List (Place Link)) (failed : Bool) (keeper : Option F)
    → (served : ServesAll state connections old new olds news failed keeper) → IsSound old.seen
    → AllByRecursion (λ x. IsPlaced old.seen new.seen x × IsLate x.asked x.receipt.memory new.seen.high) (all_exchanges served.shifts)
