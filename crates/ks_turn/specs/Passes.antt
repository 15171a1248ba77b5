-- Passes and turns as callers see them.
use Rattle.std.specs.Prelude.{◌≡◌, ℕ, ◌+◌, ◌-◌, ◌<◌, ◌≤◌, ◌⊎◌, List, [], ◌∷◌, ◌++◌, length, max, Some, slice_get, false}
use Rattle.atomic_table.specs.Seated.{TableId}
use Rattle.ks_machine.specs.Fronts.{Front, IsSound, ◌⊑◌}
use Rattle.ks_turn.specs.declared.view.View.{View}
use Rattle.ks_turn.specs.Sums.{below, times, total}
use Rattle.ks_turn.specs.Views.{first_view, front_at, risen, since}
use Rattle.ks_turn.specs.Rule.{AreOrdered}

-- a pass: of which turn, all that its owner has seen, the numbers of the changes made through it, the greatest moment to which it
-- raised the highest, and its part of the weight of 1,000,000
pub record Passed : Type 0 where
  pub turn : TableId
  pub seen : Front
  pub own : List ℕ
  pub top : ℕ
  pub weight : ℕ

-- the turn, held: the pass with which it was taken, and the value
pub record Holding (S : Type 0) : Type 0 where
  pub pass : Passed
  pub value : S

abbrev pub with_value : {S : Type 0} → Holding S → S → Holding S
with_value held value = record held { value = value }

-- the first pass of a turn
abbrev pub first_pass : TableId → Front → Passed
first_pass turn first = record { turn = turn; seen = first; own = []; top = 0; weight = 1000000 }

-- a pass split: all but one of the weight stays, and the new pass has seen as much
abbrev pub keeping : Passed → Passed
keeping p = record p { weight = p.weight - 1 }

abbrev pub splitting : Passed → Passed
splitting p = record p { own = []; top = 0; weight = 1 }

-- the pass after a release with a value that stands for this front
abbrev pub released : Passed → Front → Passed
released p f = record p {
  seen = f;
  own = p.own ++ since p.seen.changes f.changes;
  top = risen p.seen.high f.high p.top;
}

-- | what holds of a turn with all its passes, at a time when this is the front of its value: all that any of them saw is before that front,
-- any two of them saw ordered fronts, the weights are 1,000,000 together, each change after the first front's was made through exactly one
-- of them, and the highest moment is the first front's or was raised by one of them
pub record Turning (first front : Front) (passes : List Passed) : Type 0 where
  pub start : first ⊑ front
  pub sound : IsSound front
  pub seen : (by : ℕ) (p : Passed) → slice_get passes by ≡ Some p → (first ⊑ p.seen) × (p.seen ⊑ front)
  pub ordered : (i j : ℕ) (p q : Passed) → slice_get passes i ≡ Some p → slice_get passes j ≡ Some q → AreOrdered p.seen q.seen
  pub weights : total (λ p. p.weight) passes ≡ 1000000
  pub spent : (by : ℕ) (p : Passed) → slice_get passes by ≡ Some p → p.weight ≡ 0 → (p.own ≡ []) × (p.top ≡ 0)
  pub own : (n : ℕ) → total (λ p. times n p.own) passes + below n (length first.changes) ≡ below n (length front.changes)
  pub count : total (λ p. length p.own) passes + length first.changes ≡ length front.changes
  pub tops : (by : ℕ) (p : Passed) → slice_get passes by ≡ Some p → p.top ≤ front.high
  pub high : (front.high ≡ first.high) ⊎ ((by : ℕ) × (p : Passed) × (slice_get passes by ≡ Some p) × (front.high ≡ p.top))

-- the pass is one of all passes of a turn, at a time when this is the front of its value
abbrev pub IsAmong : Front → Front → Passed → Type 0
IsAmong first front p = (passes : List Passed) × (by : ℕ) × (slice_get passes by ≡ Some p) × Turning first front passes

-- a pass took the turn, and with it a value that stands for a front which goes on from what it saw
pub record Took (first : Front) {S : Type 0} (means : S → Front → Type 0) (old new : Passed) (value : S) : Type 0 where
  pub turn : IsAmong first new.seen old
  pub pass : new ≡ record old { seen = new.seen }
  pub later : old.seen ⊑ new.seen
  pub stands : means value new.seen
  pub alone : old.weight ≡ 1000000 → new.seen ≡ old.seen

-- two passes met, and the one that is left saw all that had happened
pub record Met (first : Front) (one other both : Passed) : Type 0 where
  pub turn : IsAmong first both.seen (record both { seen = one.seen })
  pub pass : both ≡ record one { seen = both.seen; own = one.own ++ other.own; top = max one.top other.top; weight = one.weight + other.weight }
  pub later : one.seen ⊑ both.seen
  pub later_too : other.seen ⊑ both.seen
  pub ordered : AreOrdered one.seen other.seen

-- the value stands for a front that goes on from the base, and for no other such front
pub record Lands {S : Type 0} (means : S → Front → Type 0) (value : S) (base f : Front) : Type 0 where
  pub later : base ⊑ f
  pub stands : means value f
  pub alone : (g : Front) → base ⊑ g → means value g → g ≡ f

-- a pass with all the weight has made each change after the first front's, each once, and raised the highest moment if it rose
pub record Ends (first : Front) (p : Passed) : Type 0 where
  pub start : first ⊑ p.seen
  pub own : (n : ℕ) → times n p.own + below n (length first.changes) ≡ below n (length p.seen.changes)
  pub count : length p.own + length first.changes ≡ length p.seen.changes
  pub high : (p.seen.high ≡ first.high) ⊎ (p.seen.high ≡ p.top)

-- a pass of the turn, from what it knows
abbrev pub passed : Front → TableId → View → Passed
passed first turn v = record { turn = turn; seen = front_at first v.seen; own = v.own; top = v.top; weight = v.weight }

-- the view of a badge or seat that has one
abbrev pub view_of : Front → List View → View
view_of first [] = first_view first
view_of first (v ∷ vs) = v

-- a pass that rests: its one view was told nothing more, and the numbers beside it are those of its front
pub record IsPass (first : Front) (count last : ℕ) (views : List View) : Type 0 where
  pub one : views ≡ view_of first views ∷ []
  pub told : (view_of first views).told ≡ (view_of first views).seen
  pub rests : (view_of first views).holds ≡ false
  pub weight : 0 < (view_of first views).weight
  pub sound : IsSound (front_at first (view_of first views).seen)
  pub changes : length (view_of first views).seen.changes ≡ count
  pub moment : (view_of first views).seen.high ≡ last

-- the view of a pass at rest, in a seat
pub record IsRest (first : Front) (v : View) : Type 0 where
  pub told : v.told ≡ v.seen
  pub rests : v.holds ≡ false
  pub weight : 0 < v.weight
  pub sound : IsSound (front_at first v.seen)
