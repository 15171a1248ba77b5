-- Items in chunks, all of which but the last are full.
use Rattle.std.specs.Prelude.{◌≡◌, ℕ, zero, suc, ◌+◌, ◌<◌, ◌≤◌, ◌-◌, List, [], ◌∷◌, ◌++◌, length}
use Rattle.std.specs.declared.collections.VecDeque.{VecDeque}
use Rattle.std.specs.VecDeque.{deque_capacity}
use Rattle.std.specs.declared.cmp.Ordering.{Ordering}
use Rattle.std.specs.declared.cmp.Ordering.TheVariants.{Greater}

module _ {X Z : Type 0} where
  -- the items of chunks, one behind the other
  unfoldable pub all_items : List (VecDeque X Z) → List X
  all_items [] = []
  all_items (chunk ∷ chunks) = chunk.items ++ all_items chunks

  -- how many items there is room for without a new chunk, where chunks have so many
  unfoldable pub room : ℕ → List (VecDeque X Z) → ℕ
  room full [] = 0
  room full (chunk ∷ chunks) = (full - length chunk.items) + room full chunks

  -- each chunk has room for so many items, and all but the last have as many
  unfoldable pub AreChunks : ℕ → List (VecDeque X Z) → Type 0
  AreChunks full [] = full ≡ full
  AreChunks full (chunk ∷ chunks) = (full ≤ deque_capacity chunk) × (length chunk.items ≤ full) × (0 < length chunks → full ≤ length chunk.items) × AreChunks full chunks

  -- the same, where the chunk at a place has one item less
  unfoldable pub AreLacking : ℕ → ℕ → List (VecDeque X Z) → Type 0
  AreLacking full _ [] = full < 0
  AreLacking full zero (chunk ∷ chunks) = (full ≤ deque_capacity chunk) × (length chunk.items < full) × (0 < length chunks → full ≤ length chunk.items + 1) × AreChunks full chunks
  AreLacking full (suc at) (chunk ∷ chunks) = (full ≤ deque_capacity chunk) × (length chunk.items ≤ full) × (full ≤ length chunk.items) × AreLacking full at chunks

-- | what contracts see of a sequence: its items, and how many more have room
pub record Items (X : Type 0) : Type 0 where
  pub items : List X
  pub room : ℕ

-- how the last item lies to what is looked for; where there is none, that lies before
unfoldable pub last_side : {X : Type 0} → (X → Ordering) → List X → Ordering
last_side side [] = Greater
last_side side (x ∷ []) = side x
last_side side (_ ∷ (x ∷ xs)) = last_side side (x ∷ xs)
