-- The order of exchanges: each one's front goes on from all that was seen before it.
use Rattle.std.specs.Prelude.{◌≡◌, ℕ, ◌≤◌, Bool, true, false, List, [], ◌∷◌, length, take}
use Rattle.std.specs.List.{AllByRecursion}
use Rattle.ks_base.specs.declared.receipt.Receipt.{Receipt}
use Rattle.ks_machine.specs.declared.change.Entry.{Entry}
use Rattle.ks_machine.specs.Fronts.{Front, ◌⊑◌}
use Rattle.ks_server.specs.Exchanges.{Asked, calls, refused, Exchange, bare, cut_at, front_after}
use Rattle.ks_service.specs.Called.{IsNextUnless, capped}

-- | none of the changes is later
abbrev pub AreBy : ℕ → List Entry → Type 0
AreBy moment entries = AllByRecursion (λ entry. entry.moment ≤ moment) entries

-- | the moment of a call is not before its reading, where there was memory for it
abbrev pub IsLate : Asked → Bool → ℕ → Type 0
IsLate (calls call) false moment = capped call.reading ≤ moment
IsLate (calls call) true moment = Unit {0}
IsLate (refused why) memory moment = Unit {0}

-- | the receipt names a place in the journal: so many changes there are, and none of them is later than its moment
pub record HasPlace (journal : Front) (x : Exchange) : Type 0 where
  pub within : x.receipt.changes ≤ length journal.changes
  pub lawful : AreBy x.receipt.moment (take x.receipt.changes journal.changes)
  pub late : IsLate x.asked x.receipt.memory x.receipt.moment

-- | the front of a call goes on from what was seen; a request that is refused before any call has the front that was seen
abbrev pub IsFrom : Asked → Front → Front → Type 0
IsFrom (calls call) seen front = seen ⊑ front
IsFrom (refused why) seen front = front ≡ seen

-- | from what was seen the first receipt's cut of the journal goes on, from the front after each exchange the next one's, and the front
-- after the last is the one at the end
abbrev pub Goes : Front → Front → List Exchange → Front → Type 0
Goes journal seen [] now = seen ≡ now
Goes journal seen (x ∷ xs) now =
    IsFrom x.asked seen (cut_at journal x.receipt) × HasPlace journal x × Goes journal (front_after journal x) xs now

-- | the exchanges go on from what was seen, and the journal from them
pub record InOrder (seen journal : Front) (xs : List Exchange) : Type 0 where
  pub now : Front
  pub goes : Goes journal (bare seen) xs now
  pub on : now ⊑ journal

-- | with no other caller: a receipt names the next event after what was seen
abbrev pub IsNext : Front → Asked → Receipt → Type 0
IsNext seen (calls call) receipt = (receipt.changes ≡ length seen.changes) × IsNextUnless receipt.memory seen call receipt.moment
IsNext seen (refused why) receipt = (receipt.changes ≡ length seen.changes) × (receipt.moment ≡ seen.high)

abbrev pub GoesAlone : Front → Front → List Exchange → Type 0
GoesAlone journal seen [] = Unit {0}
GoesAlone journal seen (x ∷ xs) = IsNext seen x.asked x.receipt × GoesAlone journal (front_after journal x) xs
