-- What holds of exchanges in order.
use Rattle.std.proofs.Common.{◌≡◌, ℕ, ◌≤◌, Bool, true, false, List, [], ◌∷◌, ◌++◌, length, take, Some, slice_get, sym, ap, subst, ◌∙◌, arith, length-append}
use Rattle.std.proofs.lemmas.List.{length-take-le}
use Rattle.std.specs.List.{AllByRecursion}
use Rattle.ks_machine.proofs.FrontLemmas.{reflexive, transitive}
use Rattle.ks_machine.specs.declared.change.Entry.{Entry}
use Rattle.ks_machine.specs.Fronts.{Front, IsSound, ◌⊑◌}
use Rattle.ks_outside.specs.Streams.{StreamState}
use Rattle.ks_server.proofs.OrderLemmas.{bare_before, chain_to, from_later, goes_kept, left_later, next_later, within_of}
use Rattle.ks_server.proofs.SessionLemmas.{ends_kept}
use Rattle.ks_server.proofs.TieLemmas.{all_both}
use Rattle.ks_server.specs.Exchanges.{Asked, calls, refused, Exchange, bare, cut_at, front_after}
use Rattle.ks_server.specs.Laws.{IsPlaced, MovesInOrder, OrderStays, ReceiptsArePlaced, SessionsStay, WorkersArePlaced}
use Rattle.ks_server.specs.Orders.{Goes, HasPlace, InOrder, IsFrom, IsLate}
use Rattle.ks_server.specs.Workers.{AreServed, Place, Shift, all_exchanges, exchanges_of}

pub moves_in_order : MovesInOrder
moves_in_order old new xs moves = record { now = bare new.seen; goes = moves.in_order; on = bare_before new.seen }

pub order_stays : OrderStays
order_stays seen f g xs order on = record {
  now = order.now;
  goes = goes_kept f g (bare seen) order.now xs on order.goes;
  on = transitive order.now f g order.on on;
}

-- the changes behind a cut are not before it

first_behind : (moment : ℕ) (front later : List Entry) → AllByRecursion (λ (entry : Entry). moment ≤ entry.moment) later → (entry : Entry)
    → slice_get (front ++ later) (length front) ≡ Some entry → moment ≤ entry.moment
first_behind moment [] [] all entry found = cc found
first_behind moment [] (next ∷ later) all entry found =
    let same : next ≡ entry = cc found in
    subst (λ (e : Entry). moment ≤ e.moment) same all.0
first_behind moment (x ∷ front) later all entry found = first_behind moment front later all entry found

behind : (moment count : ℕ) (later changes : List Entry) → changes ≡ take count changes ++ later → count ≤ length changes → AllByRecursion (λ (entry : Entry). moment ≤ entry.moment) later
    → (entry : Entry) → slice_get changes count ≡ Some entry → moment ≤ entry.moment
behind moment count later changes is within all entry found =
    first_behind moment (take count changes) later all entry
    (ap (λ l. slice_get l (length (take count changes))) (sym is) ∙ ap (λ n. slice_get changes n) (length-take-le count changes within) ∙ found)

placed : (seen journal since : Front) (x : Exchange) → bare seen ⊑ since → seen ⊑ journal → IsSound seen → IsFrom x.asked since (cut_at journal x.receipt) → HasPlace journal x → front_after journal x ⊑ journal
    → IsPlaced seen journal x
placed seen journal since x from on sound is place past =
    let at = transitive (bare seen) since (cut_at journal x.receipt) from (from_later x.asked since (cut_at journal x.receipt) is) in
    let in_journal = transitive (cut_at journal x.receipt) (front_after journal x) journal (left_later (cut_at journal x.receipt) x.asked x.receipt.memory) past in
    record {
      after_seen = record {
        opening = at.opening;
        later = at.later;
        changes = at.changes;
        high = at.high;
        moments = at.moments;
        kept =
            let more = ap length at.changes ∙ length-append seen.changes at.later in
            let size = length-take-le x.receipt.changes journal.changes place.within in
            omega (arith, more, size, on.kept, sound.kept);
      };
      in_journal = in_journal;
      is_past = past;
      high = in_journal.high;
      next = behind x.receipt.moment x.receipt.changes in_journal.later journal.changes in_journal.changes place.within in_journal.moments;
    }

placed_all : (seen journal now since : Front) (xs : List Exchange) → bare seen ⊑ since → seen ⊑ journal → IsSound seen → Goes journal since xs now → now ⊑ journal → AllByRecursion (λ (x : Exchange). IsPlaced seen journal x) xs
placed_all seen journal now since [] from on sound goes last = tt
placed_all seen journal now since (x ∷ xs) from on sound goes last =
    let next = next_later journal since x goes.0 in (
      placed seen journal since x from on sound goes.0 goes.1 (transitive (front_after journal x) now journal (chain_to journal (front_after journal x) now xs goes.2) last),
      placed_all seen journal now (front_after journal x) xs (transitive (bare seen) since (front_after journal x) from next) on sound goes.2 last,
    )

pub receipts_are_placed : ReceiptsArePlaced
receipts_are_placed seen journal xs order on sound = placed_all seen journal order.now (bare seen) xs (reflexive (bare seen)) on sound order.goes order.on

pub sessions_stay : (F : Type 0) → SessionsStay F
sessions_stay F seen f g xs order on input before left written why ends =
    ends_kept why f g on input before left written xs (within_of f (bare seen) order.now xs order.goes) ends

-- what workers did

pub late_more : (asked : Asked) (memory : Bool) (moment high : ℕ) → moment ≤ high → IsLate asked memory moment → IsLate asked memory high
late_more (calls call) false moment high le late = omega (arith, le, late)
late_more (calls call) true moment high le late = tt
late_more (refused why) memory moment high le late = tt

abbrev IsPlacedBy : Front → Front → Exchange → Type 0
IsPlacedBy seen journal x = IsPlaced seen journal x × IsLate x.asked x.receipt.memory journal.high

placed_by : (seen journal since now : Front) (xs : List Exchange) → Goes journal since xs now → AllByRecursion (λ (x : Exchange). IsPlaced seen journal x) xs → AllByRecursion (λ (x : Exchange). IsPlacedBy seen journal x) xs
placed_by seen journal since now [] goes placed = tt
placed_by seen journal since now (x ∷ xs) goes placed = (
  (placed.0, late_more x.asked x.receipt.memory x.receipt.moment journal.high placed.0.high goes.1.late),
  placed_by seen journal (front_after journal x) now xs goes.2 placed.1,
)

placed_in : (seen journal : Front) (xs : List Exchange) → InOrder seen journal xs → seen ⊑ journal → IsSound seen → AllByRecursion (λ (x : Exchange). IsPlacedBy seen journal x) xs
placed_in seen journal xs order on sound = placed_by seen journal (bare seen) order.now xs order.goes (receipts_are_placed seen journal xs order on sound)

all_placed : {F Link : Type 0} (state : Link → StreamState) (connections : ℕ) (seen journal : Front) (olds news : List (Place Link)) (shifts : List (Shift F Link)) → AreServed state connections seen journal olds news shifts
    → seen ⊑ journal → IsSound seen → AllByRecursion (λ (x : Exchange). IsPlacedBy seen journal x) (all_exchanges shifts)
all_placed state connections seen journal [] [] [] h on sound = tt
all_placed state connections seen journal [] [] (shift ∷ shifts) h on sound = absurd h
all_placed state connections seen journal [] (new ∷ news) shifts h on sound = absurd h
all_placed state connections seen journal (old ∷ olds) [] shifts h on sound = absurd h
all_placed state connections seen journal (old ∷ olds) (new ∷ news) [] h on sound = absurd h
all_placed state connections seen journal (old ∷ olds) (new ∷ news) (shift ∷ shifts) h on sound =
    all_both (λ (x : Exchange). IsPlacedBy seen journal x) (exchanges_of shift.visits) (all_exchanges shifts)
    (placed_in seen journal (exchanges_of shift.visits) h.0.in_order on sound)
    (all_placed state connections seen journal olds news shifts h.1 on sound)

pub workers_are_placed : (F Link : Type 0) → WorkersArePlaced F Link
workers_are_placed F Link state connections old new olds news failed keeper served sound =
    all_placed state connections old.seen new.seen olds news served.shifts served.desks served.later sound
