-- The rule of the turn: what always holds of its words, the value at home and what the passes know.
use Rattle.std.specs.Prelude.{◌≡◌, ◌≢◌, ℕ, ◌+◌, ◌<◌, ◌≤◌, ◌⊎◌, List, [], ◌∷◌, length, Option, Some, slice_index, true, false}
use mathlib.Core.Option.{none, some}
use lib.ListN.{get_elem?}
use Rattle.atomic_table.specs.Table.{State, Me, Step}
use Rattle.ks_machine.specs.Fronts.{Front, IsSound, ◌⊑◌}
use Rattle.ks_turn.specs.declared.view.Seen.{Seen}
use Rattle.ks_turn.specs.declared.view.View.{View}
use Rattle.ks_turn.specs.Sums.{below, times, total}
use Rattle.ks_turn.specs.Views.{front_at, given, holding}

-- | one of two fronts goes on from the other
abbrev pub AreOrdered : Front → Front → Type 0
AreOrdered f g = (f ⊑ g) ⊎ (g ⊑ f)

-- this front was the base of the turn at some time
pub record Saw (first base f : Front) : Type 0 where
  pub start : first ⊑ f
  pub before : f ⊑ base
  pub sound : IsSound f

-- what holds of the view of one pass. The base is the front of the value when the turn was last free, and the turn's word is 0
-- while it is free
pub record Knows (first : Front) (base : Seen) (word holder by : ℕ) (v : View) : Type 0 where
  pub seen : Saw first (front_at first base) (front_at first v.seen)
  pub told : Saw first (front_at first base) (front_at first v.told)
  pub ordered : AreOrdered (front_at first v.seen) (front_at first v.told)
  pub holds : v.holds ≡ true → (by ≡ holder) × (word ≢ 0) × (v.seen ≡ base)
  pub spent : v.weight ≡ 0 → (v.holds ≡ false) × (v.own ≡ []) × (v.top ≡ 0)
  pub top : v.top ≤ base.high

abbrev pub HeldBy : ℕ → List View → Type 0
HeldBy holder views = (v : View) × (get_elem? views holder ≡ some v) × (v.holds ≡ true)

-- some pass raised the highest moment to this
abbrev pub HasTop : ℕ → List View → Type 0
HasTop high views = (by : ℕ) × (v : View) × (get_elem? views by ≡ some v) × (v.top ≡ high)

-- a pass that isn't spent has seen the base, or was told of it
abbrev pub IsLast : Seen → View → Type 0
IsLast base v = (0 < v.weight) × ((v.seen ≡ base) ⊎ (v.told ≡ base))

abbrev pub HasLast : Seen → List View → Type 0
HasLast base views = (by : ℕ) × (v : View) × (get_elem? views by ≡ some v) × IsLast base v

-- the first front, and for which fronts a value stands
module _ (first : Front) {T : Type 0} (means : T → Front → Type 0) where
  pub record Turned (s : State (Option T) View) : Type 0 where
    pub base : Seen
    pub holder : ℕ
    -- one value, which is at home while nobody holds the turn
    pub two : length s.words ≡ 2
    pub begun : IsSound first
    pub start : first ⊑ front_at first base
    pub sound : IsSound (front_at first base)
    pub free : slice_index s.words 1 ≡ 0 → (x : T) × (s.homes ≡ some (Some x) ∷ []) × means x (front_at first base)
    pub taken : slice_index s.words 1 ≢ 0 → (s.homes ≡ none ∷ []) × HeldBy holder s.views
    -- many passes, of which one at most holds the turn, and whose fronts are ordered
    pub each : (by : ℕ) (v : View) → get_elem? s.views by ≡ some v → Knows first base (slice_index s.words 1) holder by v
    pub ordered : (i j : ℕ) (v w : View) → get_elem? s.views i ≡ some v → get_elem? s.views j ≡ some w → AreOrdered (front_at first v.seen) (front_at first w.seen)
    pub last : HasLast base s.views
    -- weights
    pub weights : total (λ v. v.weight) s.views ≡ 1000000
    -- each number of a change after the first front's stands once, in the list of one pass
    pub owned : (n : ℕ) → total (λ v. times n v.own) s.views + below n (length first.changes) ≡ below n (length base.changes)
    pub lengths : total (λ v. length v.own) s.views + length first.changes ≡ length base.changes
    -- the highest moment is the first front's, or some pass raised it to that
    pub high : (base.high ≡ first.high) ⊎ HasTop base.high s.views

  -- this was the view of a pass when the base was this
  abbrev pub InLine : View → Seen → Type 0
  InLine v base = (s : State (Option T) View) × (r : Turned s) × (by : ℕ) × (get_elem? s.views by ≡ some v) × (r.base ≡ base)

  -- a pass with the view v took the turn, and with it this value
  pub record Told (v w : View) (x : T) : Type 0 where
    pub view : w ≡ holding w.seen v
    pub stands : means x (front_at first w.seen)
    pub line : InLine v w.seen

  -- a step that takes the turn where it is free
  abbrev pub tried : Step (Option T) → Me (Option T) View → ℕ → Me (Option T) View → Type 0
  tried st m n m' = (n ≡ 0 → (x : T) × (m'.1 ≡ (0, Some x) ∷ m.1) × Told m.0 m'.0 x) × (n ≢ 0 → m' ≡ m)

  -- a step that gives it back: for the front that the value at hand stands for, the pass is as after a release
  abbrev pub gave : Step (Option T) → Me (Option T) View → ℕ → Me (Option T) View → Type 0
  gave st m n m' =
      (x : T) → m.1 ≡ (0, Some x) ∷ [] → (f : Front) → front_at first m.0.seen ⊑ f → means x f → (m'.0 ≡ given f m.0) × (m'.1 ≡ [])

-- | a step that says nothing about the turn
abbrev pub looked : {T : Type 0} → Step (Option T) → Me (Option T) View → ℕ → Me (Option T) View → Type 0
looked st m n m' = m' ≡ m
