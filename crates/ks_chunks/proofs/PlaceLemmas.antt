-- A search for a chunk, and for a place in it.
use Rattle.std.proofs.Common.{◌≡◌, ℕ, ◌+◌, ◌*◌, ◌-◌, ◌<◌, ◌≤◌, zero, suc, List, [], ◌∷◌, ◌++◌, length, refl, sym, ap, ◌∙◌, subst, arith, length-append, get_or}
use Rattle.std.specs.declared.collections.VecDeque.{VecDeque}
use Rattle.std.specs.declared.cmp.Ordering.{Ordering}
use Rattle.std.specs.declared.cmp.Ordering.TheVariants.{Less, Equal, Greater}
use Rattle.std.specs.Ordering.{ordering_index}
use Rattle.std.specs.List.Sorted.{IsNonDecreasingBy, IsPartitionPoint}
use Rattle.ks_chunks.specs.Chunks.{AreChunks, all_items, last_side}
use Rattle.ks_chunks.proofs.ChunkLemmas.{items_at, items_some, total}
use Rattle.ks_chunks.proofs.SearchLemmas.{lowest, highest}

get_left : {X : Type 0} (xs ys : List X) (i : ℕ) (d : X) → i < length xs → get_or (xs ++ ys) i d ≡ get_or xs i d
get_left [] ys i d lt = absurd (omega (arith, lt))
get_left (x ∷ xs) ys zero d lt = refl
get_left (x ∷ xs) ys (suc i) d lt = get_left xs ys i d (omega (arith, lt))

get_right : {X : Type 0} (xs ys : List X) (i k : ℕ) (d : X) → k ≡ length xs + i → get_or (xs ++ ys) k d ≡ get_or ys i d
get_right [] ys i k d is = ap (λ k. get_or ys k d) (omega (arith, is))
get_right (x ∷ xs) ys i zero d is = absurd (omega (arith, is))
get_right (x ∷ xs) ys i (suc k) d is = get_right xs ys i k d (omega (arith, is))

-- an item of a chunk among all
item_at : {X Z : Type 0} (n : ℕ) (chunks : List (VecDeque X Z)) (q r k : ℕ) (d : X) → AreChunks n chunks → r < length (items_at chunks q) → k ≡ q * n + r →
    (get_or (all_items chunks) k d ≡ get_or (items_at chunks q) r d) × (k < length (all_items chunks)) × (r < n)
unfolding all_items AreChunks items_at
item_at n [] q r k d are lt is = absurd (omega (arith, lt))
item_at n (c ∷ cs) zero r k d are lt is =
    let there : k ≡ r = omega (arith, is) in
    (ap (λ k. get_or (c.items ++ all_items cs) k d) there ∙ get_left c.items (all_items cs) r d lt, omega (arith, there, lt, length-append c.items (all_items cs)), omega (arith, lt, are.1))
item_at n (c ∷ []) (suc q) r k d are lt is = absurd (omega (arith, lt))
item_at n (c ∷ (e ∷ cs)) (suc q) r k d are lt is =
    let full = are.2 (omega arith) in
    let rest = item_at n (e ∷ cs) q r (q * n + r) d are.3 lt refl in
    (get_right c.items (all_items (e ∷ cs)) (q * n + r) k d (omega (arith, full, are.1, is)) ∙ rest.0, omega (arith, rest.1, full, are.1, is, length-append c.items (all_items (e ∷ cs))), rest.2)

pub item_of : {X Z : Type 0} (n : ℕ) (chunks : List (VecDeque X Z)) (q r : ℕ) (d : X) → AreChunks n chunks → r < length (items_at chunks q) →
    (get_or (all_items chunks) (q * n + r) d ≡ get_or (items_at chunks q) r d) × (q * n + r < length (all_items chunks)) × (r < n)
item_of n chunks q r d are lt = item_at n chunks q r (q * n + r) d are lt refl

-- a place among all that is one of a chunk
pub place_of : {X Z : Type 0} (n : ℕ) (chunks : List (VecDeque X Z)) (q r : ℕ) → AreChunks n chunks → r < n → q * n + r < length (all_items chunks) → r < length (items_at chunks q)
unfolding all_items AreChunks items_at
place_of n [] q r are lt fits = absurd (omega (arith, fits))
place_of n (c ∷ []) zero r are lt fits = omega (arith, fits, length-append c.items [])
place_of n (c ∷ (e ∷ cs)) zero r are lt fits = omega (arith, are.2 (omega arith), lt)
place_of n (c ∷ []) (suc q) r are lt fits = absurd (omega (arith, fits, are.1, length-append c.items []))
place_of n (c ∷ (e ∷ cs)) (suc q) r are lt fits =
    place_of n (e ∷ cs) q r are.3 lt (omega (arith, fits, are.1, are.2 (omega arith), length-append c.items (all_items (e ∷ cs))))

-- a chunk with others behind it is full
pub full_at : {X Z : Type 0} (n : ℕ) (chunks : List (VecDeque X Z)) (q : ℕ) → AreChunks n chunks → suc q < length chunks → length (items_at chunks q) ≡ n
unfolding AreChunks items_at
full_at n [] q are lt = absurd (omega (arith, lt))
full_at n (c ∷ cs) zero are lt = omega (arith, are.1, are.2 (omega (arith, lt)))
full_at n (c ∷ cs) (suc q) are lt = full_at n cs q are.3 (omega (arith, lt))

-- where an item is behind a chunk's places, a chunk is behind it
pub others_behind : {X Z : Type 0} (n : ℕ) (chunks : List (VecDeque X Z)) (q m : ℕ) → AreChunks n chunks → suc q * n ≤ m → m < length (all_items chunks) → suc q < length chunks
unfolding all_items AreChunks
others_behind n [] q m are le lt = absurd (omega (arith, lt))
others_behind n (c ∷ []) q m are le lt = absurd (omega (arith, le, lt, are.1, length-append c.items []))
others_behind n (c ∷ (e ∷ cs)) zero m are le lt = omega arith
others_behind n (c ∷ (e ∷ cs)) (suc q) m are le lt =
    let rest = others_behind n (e ∷ cs) q (m - n) are.3 (omega (arith, le)) (omega (arith, le, lt, are.1, length-append c.items (all_items (e ∷ cs)))) in omega (arith, rest)

-- how the last item lies is how the item at the last place does
pub last_is : {X : Type 0} (side : X → Ordering) (xs : List X) (k : ℕ) (d : X) → suc k ≡ length xs → last_side side xs ≡ side (get_or xs k d)
unfolding last_side
last_is side [] k d is = absurd (omega (arith, is))
last_is side (x ∷ []) zero d is = refl
last_is side (x ∷ []) (suc k) d is = absurd (omega (arith, is))
last_is side (x ∷ (y ∷ ys)) zero d is = absurd (omega (arith, is))
last_is side (x ∷ (y ∷ ys)) (suc k) d is = last_is side (y ∷ ys) k d (omega (arith, is))

pub none_last : {X : Type 0} (side : X → Ordering) (xs : List X) → length xs ≡ 0 → last_side side xs ≡ Greater
unfolding last_side
none_last side [] none = refl
none_last side (x ∷ xs) none = absurd (omega (arith, none))

some_last : {X : Type 0} (side : X → Ordering) (xs : List X) → last_side side xs ≡ Less → 0 < length xs
unfolding last_side
some_last side [] is = cc
some_last side (x ∷ xs) is = omega arith

pub some_equal : {X : Type 0} (side : X → Ordering) (xs : List X) → last_side side xs ≡ Equal → 0 < length xs
unfolding last_side
some_equal side [] is = cc
some_equal side (x ∷ xs) is = omega arith

most_index : (o : Ordering) → ordering_index o ≤ 2
most_index Less = omega arith
most_index Equal = omega arith
most_index Greater = omega arith

from_le : {P : Type 0} (i j : ℕ) → i ≤ j → (i ≡ j → P) → (i < j → P) → P
from_le zero zero le same less = same refl
from_le zero (suc j) le same less = less (omega arith)
from_le (suc i) zero le same less = absurd (omega (arith, le))
from_le (suc i) (suc j) le same less = from_le i j (omega (arith, le)) (λ is. same (ap suc is)) (λ lt. less (omega (arith, lt)))

from_both : {P : Type 0} (i j : ℕ) → (i < j → P) → (j ≤ i → P) → P
from_both i zero less more = more (omega arith)
from_both zero (suc j) less more = less (omega arith)
from_both (suc i) (suc j) less more = from_both i j (λ lt. less (omega (arith, lt))) (λ le. more (omega (arith, le)))

times_le : (i j n : ℕ) → suc i ≤ j → suc i * n ≤ j * n
times_le i zero n le = absurd (omega (arith, le))
times_le zero (suc j) n le = omega arith
times_le (suc i) (suc j) n le = let rest = times_le i j n (omega (arith, le)) in omega (arith, rest)

pub start_fits : {X Z : Type 0} (n : ℕ) (chunks : List (VecDeque X Z)) (q : ℕ) → AreChunks n chunks → q < length chunks → q * n ≤ length (all_items chunks)
unfolding all_items AreChunks
start_fits n [] q are lt = absurd (omega (arith, lt))
start_fits n (c ∷ cs) zero are lt = omega arith
start_fits n (c ∷ cs) (suc q) are lt =
    let rest = start_fits n cs q are.3 (omega (arith, lt)) in
    omega (arith, rest, are.2 (omega (arith, lt)), are.1, length-append c.items (all_items cs))

pub items_get : {X Z : Type 0} (chunks : List (VecDeque X Z)) (at : ℕ) (d : VecDeque X Z) → at < length chunks → items_at chunks at ≡ (get_or chunks at d).items
unfolding items_at
items_get [] at d lt = absurd (omega (arith, lt))
items_get (c ∷ cs) zero d lt = refl
items_get (c ∷ cs) (suc at) d lt = items_get cs at d (omega (arith, lt))

module _ {X Z : Type 0} (side : X → Ordering) (n : ℕ) (chunks : List (VecDeque X Z)) (are : AreChunks n chunks) (some : 0 < n)
    (rise : IsNonDecreasingBy (λ x. ordering_index (side x)) (all_items chunks)) where
  -- what lies before the places of a chunk
  less_before : (k m : ℕ) (d : X) → ((q : ℕ) → q < k → last_side side (items_at chunks q) ≡ Less) → m < k * n → m < length (all_items chunks) → side (get_or (all_items chunks) m d) ≡ Less
  less_before zero m d ends lt fits = absurd (omega (arith, lt))
  less_before (suc q) m d ends lt fits =
      let items = items_at chunks q in
      let is = ends q (omega arith) in
      let any = some_last side items is in
      let last = length items - 1 in
      let there = item_of n chunks q last d are (omega (arith, any)) in
      let first = item_of n chunks q 0 d are any in
      let within = place_of n chunks q (m - q * n) are (omega (arith, lt, some)) (omega (arith, first.1, fits)) in
      let at_last : side (get_or (all_items chunks) (q * n + last) d) ≡ Less = ap side there.0 ∙ sym (last_is side items last d (omega (arith, any))) ∙ is in
      let le = rise m (q * n + last) d (omega (arith, within)) there.1 in
      lowest (side (get_or (all_items chunks) m d)) (omega (arith, le, ap ordering_index at_last))

  -- and behind them
  greater_behind : (q m : ℕ) (d : X) → last_side side (items_at chunks q) ≡ Greater → suc q * n ≤ m → m < length (all_items chunks) → side (get_or (all_items chunks) m d) ≡ Greater
  greater_behind q m d is le fits =
      let items = items_at chunks q in
      let full = full_at n chunks q are (others_behind n chunks q m are le fits) in
      let last = n - 1 in
      let there = item_of n chunks q last d are (omega (arith, full, some)) in
      let at_last : side (get_or (all_items chunks) (q * n + last) d) ≡ Greater = ap side there.0 ∙ sym (last_is side items last d (omega (arith, full, some))) ∙ is in
      let more = rise (q * n + last) m d (omega (arith, le, some)) fits in
      highest (side (get_or (all_items chunks) m d)) (omega (arith, more, ap ordering_index at_last))

  pub rises_in : (q : ℕ) → IsNonDecreasingBy (λ x. ordering_index (side x)) (items_at chunks q)
  rises_in q i j d le lt =
      let a = item_of n chunks q i d are (omega (arith, le, lt)) in
      let b = item_of n chunks q j d are lt in
      let both = rise (q * n + i) (q * n + j) d (omega (arith, le)) b.1 in
      omega (arith, both, ap (λ x. ordering_index (side x)) a.0, ap (λ x. ordering_index (side x)) b.0)

  rises_to : (i j : ℕ) (ys : List X) → items_at chunks j ≡ ys → i < j → j < length chunks → ordering_index (last_side side (items_at chunks i)) ≤ ordering_index (last_side side ys)
  unfolding last_side
  rises_to i j [] is lt within = most_index (last_side side (items_at chunks i))
  rises_to i j (y ∷ ys) is lt within =
      let count = ap length is in
      let full = full_at n chunks i are (omega (arith, lt, within)) in
      let a = item_of n chunks i (n - 1) y are (omega (arith, full, some)) in
      let b = item_of n chunks j (length ys) y are (omega (arith, count)) in
      let both = rise (i * n + (n - 1)) (j * n + length ys) y (omega (arith, times_le i j n (omega (arith, lt)), some)) b.1 in
      omega (
        arith,
        both,
        ap (λ x. ordering_index (side x)) a.0,
        ap (λ x. ordering_index (side x)) b.0,
        ap ordering_index (last_is side (items_at chunks i) (n - 1) y (omega (arith, full, some))),
        ap ordering_index (last_is side (y ∷ ys) (length ys) y refl),
        ap (λ l. ordering_index (side (get_or l (length ys) y))) is,
      )

  pub rises_over : IsNonDecreasingBy (λ (chunk : VecDeque X Z). ordering_index (last_side side chunk.items)) chunks
  rises_over i j d le lt =
      let index = λ (xs : List X). ordering_index (last_side side xs) in
      let a = ap index (items_get chunks i d (omega (arith, le, lt))) in
      let b = ap index (items_get chunks j d lt) in
      from_le i j le (λ is. omega (arith, ap (λ k. index (get_or chunks k d).items) is)) (λ less. let both = rises_to i j (items_at chunks j) refl less lt in omega (arith, both, a, b))

  -- where a search for a chunk and one in it end
  pub place_found : (q i : ℕ) → q < length chunks → ((p : ℕ) → p < q → last_side side (items_at chunks p) ≡ Less) → last_side side (items_at chunks q) ≡ Greater → i ≤ length (items_at chunks q) →
      IsPartitionPoint (λ x. side x ≡ Less) (λ x. side x ≡ Greater) (items_at chunks q) i → IsPartitionPoint (λ x. side x ≡ Less) (λ x. side x ≡ Greater) (all_items chunks) (q * n + i)
  place_found q i within before behind le part = (
    λ m d _ lt. from_both m (q * n)
        (λ front. less_before q m d before front (omega (arith, front, start_fits n chunks q are within)))
        (λ here.
        let r = m - q * n in
        let there = item_of n chunks q r d are (omega (arith, here, lt, le)) in
        let m_is : q * n + r ≡ m = omega (arith, here) in
        ap (λ k. side (get_or (all_items chunks) k d)) (sym m_is) ∙ ap side there.0 ∙ part.0 r d (omega arith) (omega (arith, here, lt))),
    λ m d from fits. from_both m (suc q * n)
        (λ here.
        let r = m - q * n in
        let m_is : q * n + r ≡ m = omega (arith, from) in
        let inside = place_of n chunks q r are (omega (arith, here, from, some)) (omega (arith, m_is, fits)) in
        let there = item_of n chunks q r d are inside in
        ap (λ k. side (get_or (all_items chunks) k d)) (sym m_is) ∙ ap side there.0 ∙ part.1 r d (omega (arith, from)) inside)
        (λ past. greater_behind q m d behind past fits),
  )

  -- and where all chunks lie before
  pub place_behind : ((p : ℕ) → p < length chunks → last_side side (items_at chunks p) ≡ Less) → IsPartitionPoint (λ x. side x ≡ Less) (λ x. side x ≡ Greater) (all_items chunks) (length (all_items chunks))
  place_behind before = (
    λ m d _ lt. less_before (length chunks) m d before (omega (arith, lt, total n chunks are)) lt,
    λ m d from fits. absurd (omega (arith, from, fits)),
  )

module _ {X Z : Type 0} (side : X → Ordering) (n : ℕ) (chunks : List (VecDeque X Z)) (are : AreChunks n chunks) where
  -- an item of a chunk among all
  pub in_chunk : (q at : ℕ) (chunk : VecDeque X Z) → q < length chunks → chunk ≡ get_or chunks q chunk → at < length chunk.items →
      (q * n + at < length (all_items chunks)) × ((d : X) → get_or (all_items chunks) (q * n + at) d ≡ get_or chunk.items at d)
  in_chunk q at chunk lt is within =
      let items = items_some chunks q chunk lt is in
      let inside : at < length (items_at chunks q) = omega (arith, within, ap length items) in (
        fits (items_at chunks q) inside refl,
        λ d. (item_of n chunks q at d are inside).0 ∙ ap (λ l. get_or l at d) items,
      )
    where
      fits : (xs : List X) → at < length (items_at chunks q) → items_at chunks q ≡ xs → q * n + at < length (all_items chunks)
      fits [] inside is = absurd (omega (arith, inside, ap length is))
      fits (x ∷ xs) inside is = (item_of n chunks q at x are inside).1

  -- the last item of a chunk, which is what is looked for
  pub at_end : (q : ℕ) (chunk : VecDeque X Z) → q < length chunks → chunk ≡ get_or chunks q chunk → last_side side chunk.items ≡ Equal →
      (1 ≤ q * n + length chunk.items) × (q * n + length chunk.items - 1 < length (all_items chunks)) × ((d : X) → side (get_or (all_items chunks) (q * n + length chunk.items - 1) d) ≡ Equal)
  at_end q chunk lt is end =
      let some = some_equal side chunk.items end in
      let last = length chunk.items - 1 in
      let there = in_chunk q last chunk lt is (omega (arith, some)) in
      let place : q * n + last ≡ q * n + length chunk.items - 1 = omega (arith, some) in (
        omega (arith, some),
        omega (arith, there.0, place),
        λ d. ap (λ k. side (get_or (all_items chunks) k d)) (sym place) ∙ ap side (there.1 d) ∙ sym (last_is side chunk.items last d (omega (arith, some))) ∙ end,
      )

  -- the place where a search for a chunk and one in it end
  pub gap_found : (q at : ℕ) (chunk : VecDeque X Z) → 0 < n → q < length chunks → chunk ≡ get_or chunks q chunk → at ≤ length chunk.items →
      (IsNonDecreasingBy (λ (c : VecDeque X Z). ordering_index (last_side side c.items)) chunks →
      IsPartitionPoint (λ (c : VecDeque X Z). last_side side c.items ≡ Less) (λ (c : VecDeque X Z). last_side side c.items ≡ Greater) chunks q) →
      (IsNonDecreasingBy (λ x. ordering_index (side x)) chunk.items → IsPartitionPoint (λ x. side x ≡ Less) (λ x. side x ≡ Greater) chunk.items at) →
      IsNonDecreasingBy (λ x. ordering_index (side x)) (all_items chunks) → IsPartitionPoint (λ x. side x ≡ Less) (λ x. side x ≡ Greater) (all_items chunks) (q * n + at)
  gap_found q at chunk some lt is le over inside rise =
      let items = items_some chunks q chunk lt is in
      let part = over (rises_over side n chunks are some rise) in
      let within = subst (λ l. IsNonDecreasingBy (λ x. ordering_index (side x)) l) items (rises_in side n chunks are some rise q) in
      place_found side n chunks are some rise q at lt
      (λ p before. ap (last_side side) (items_get chunks p chunk (omega (arith, before, lt))) ∙ part.0 p chunk (omega arith) before)
      (ap (last_side side) (items_get chunks q chunk lt) ∙ part.1 q chunk (omega arith) lt)
      (omega (arith, le, ap length items))
      (subst (λ l. IsPartitionPoint (λ x. side x ≡ Less) (λ x. side x ≡ Greater) l at) (sym items) (inside within))

  -- and where all chunks lie before it
  pub end_found : (q : ℕ) → 0 < n → length chunks ≤ q → q ≤ length chunks →
      (IsNonDecreasingBy (λ (c : VecDeque X Z). ordering_index (last_side side c.items)) chunks →
      IsPartitionPoint (λ (c : VecDeque X Z). last_side side c.items ≡ Less) (λ (c : VecDeque X Z). last_side side c.items ≡ Greater) chunks q) →
      IsNonDecreasingBy (λ x. ordering_index (side x)) (all_items chunks) → IsPartitionPoint (λ x. side x ≡ Less) (λ x. side x ≡ Greater) (all_items chunks) (length (all_items chunks))
  end_found q some past le over rise =
      let part = over (rises_over side n chunks are some rise) in
      place_behind side n chunks are some rise (all_before chunks (λ p chunk before. part.0 p chunk (omega arith) (omega (arith, before, past))))
    where
      all_before : (cs : List (VecDeque X Z)) → ((p : ℕ) (d : VecDeque X Z) → p < length cs → last_side side (get_or cs p d).items ≡ Less) → (p : ℕ) → p < length cs → last_side side (items_at cs p) ≡ Less
      all_before [] before p lt = absurd (omega (arith, lt))
      all_before (c ∷ cs) before p lt = ap (last_side side) (items_get (c ∷ cs) p c lt) ∙ before p c lt

  -- a place in a chunk or at its end, among all
  pub gap_fits : (q at : ℕ) (chunk : VecDeque X Z) → q < length chunks → chunk ≡ get_or chunks q chunk → at ≤ length chunk.items → q * n + at ≤ length (all_items chunks)
  gap_fits q zero chunk lt is le = omega (arith, start_fits n chunks q are lt)
  gap_fits q (suc at) chunk lt is le = let there = (in_chunk q at chunk lt is (omega (arith, le))).0 in omega (arith, there)
