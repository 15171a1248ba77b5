-- Which events are live, and in which order they stand.
use Rattle.std.proofs.Common.{◌≡◌, ℕ, ◌+◌, ◌<◌, ◌≤◌, Bool, true, false, cond, inl, inr, List, [], ◌∷◌, ◌++◌, length, get_or, refl, ap, ◌∙◌, subst, arith}
use Rattle.std.specs.List.{AllByRecursion}
use Rattle.std.proofs.lemmas.Bool.{leb-true, leb-false, le-leb}
use Rattle.std.proofs.lemmas.List.Elements.{filter-append}
use Rattle.ks_base.specs.declared.events.EventRow.{EventRow}
use Rattle.ks_base.specs.Revocation.{is_live, live}
use Rattle.ks_base.specs.Tables.{Among}
use Rattle.ks_base.proofs.AmongLemmas.{all_among, among_all}
use Rattle.ks_revoke.specs.Holding.{AreInOrder}
use Rattle.ks_revoke.proofs.RowsLemmas.{passing_all, filter_again}

pub live_is : (life high : ℕ) (event : EventRow) → is_live life high event ≡ true → high ≤ event.moment + life + 174600
live_is life high event is = leb-true high (event.moment + life + 174600) is

pub is_live_from : (life high : ℕ) (event : EventRow) → high ≤ event.moment + life + 174600 → is_live life high event ≡ true
is_live_from life high event within = le-leb high (event.moment + life + 174600) within

pub past_is : (life high : ℕ) (event : EventRow) → is_live life high event ≡ false → event.moment + life + 174600 < high
past_is life high event is = leb-false high (event.moment + life + 174600) is

-- what is live at a later moment was live before
pub lived : (life low high : ℕ) → low ≤ high → (event : EventRow) → is_live life high event ≡ true → is_live life low event ≡ true
lived life low high le event is = is_live_from life low event (omega (arith, live_is life high event is))

pub live_again : (life low high : ℕ) (events : List EventRow) → low ≤ high → live life high (live life low events) ≡ live life high events
live_again life low high events le = filter_again (is_live life low) (is_live life high) (lived life low high le) events

-- an event at the moment itself is live
pub live_push : (life high : ℕ) (events : List EventRow) (row : EventRow) → row.moment ≡ high →
    live life high (events ++ row ∷ []) ≡ live life high events ++ row ∷ []
live_push life high events row now =
    let own : is_live life high row ≡ true = is_live_from life high row (omega arith) in
    filter-append (is_live life high) events (row ∷ []) ∙ ap (λ (b : Bool). live life high events ++ cond b (row ∷ []) []) own

-- the order of moments
pub in_order_at : (high : ℕ) (events : List EventRow) (event : EventRow) → AreInOrder high events → Among events event → event.moment ≤ high
in_order_at high [] event order among = absurd among
in_order_at high (next ∷ events) event order (inl same) = subst (λ (x : EventRow). x.moment ≤ high) same order.0
in_order_at high (next ∷ events) event order (inr later) = in_order_at high events event order.2 later

pub in_order_later : (low high : ℕ) (events : List EventRow) → low ≤ high → AreInOrder low events → AreInOrder high events
in_order_later low high [] le order = tt
in_order_later low high (event ∷ events) le order = (omega (arith, order.0), order.1, in_order_later low high events le order.2)

all_push : (P : EventRow → Type 0) (events : List EventRow) (row : EventRow) → AllByRecursion P events → P row → AllByRecursion P (events ++ row ∷ [])
all_push P [] row all own = (own, tt)
all_push P (event ∷ events) row all own = (all.0, all_push P events row all.1 own)

pub in_order_push : (high : ℕ) (events : List EventRow) (row : EventRow) → AreInOrder high events → row.moment ≡ high → AreInOrder high (events ++ row ∷ [])
in_order_push high [] row order now = (omega arith, tt, tt)
in_order_push high (event ∷ events) row order now =
    (order.0, all_push (λ later. event.moment ≤ later.moment) events row order.1 (omega (arith, order.0)), in_order_push high events row order.2 now)

-- where the first event is past, it is left out
left_by : (event : EventRow) (kept : List EventRow) (b : Bool) → b ≡ false → kept ≡ cond b (event ∷ kept) kept
left_by event kept true is = cc
left_by event kept false is = refl

-- where it is live, all are
pub first_live : (life high : ℕ) (events : List EventRow) (first : EventRow) → AreInOrder high events → first ≡ get_or events 0 first → 0 < length events →
    is_live life high first ≡ true → live life high events ≡ events
first_live life high [] first order is some lives = refl
first_live life high (event ∷ events) first order is some lives =
    let own : is_live life high event ≡ true = subst (λ (x : EventRow). is_live life high x ≡ true) is lives in
    passing_all (is_live life high) (event ∷ events) (
      own,
      among_all (λ (later : EventRow). is_live life high later ≡ true) events
          (λ later among. let after = all_among (λ (x : EventRow). event.moment ≤ x.moment) events later order.1 among in
          is_live_from life high later (omega (arith, after, live_is life high event own))),
    )
