-- Items in chunks.
use Rattle.std.proofs.Common.{◌≡◌, ℕ, ◌+◌, ◌*◌, ◌-◌, ◌<◌, ◌≤◌, zero, suc, List, [], ◌∷◌, ◌++◌, length, take, drop, refl, sym, ap, ◌∙◌, subst, arith, append_assoc, length-append, get_or, set, length-set}
use Rattle.std.specs.List.{slice_get, insert, remove}
use Rattle.std.specs.Prelude.{option_to_list, Option, None, Some}
use Rattle.std.specs.declared.collections.VecDeque.{VecDeque}
use Rattle.std.specs.VecDeque.{deque_capacity}
use Rattle.std.specs.Prelude.{IsSome, option_copied}
use Rattle.std.specs.Slice.{IsItemAt}
use Rattle.std.proofs.lemmas.Option.{slice_get_read}
use Rattle.std.proofs.lemmas.Grind.{common_steps}
use denote.Bor.{Bor}
use Rattle.ks_chunks.specs.Chunks.{AreChunks, AreLacking, all_items, room}

get_left : {X : Type 0} (xs ys : List X) (i : ℕ) → i < length xs → slice_get (xs ++ ys) i ≡ slice_get xs i
get_left [] ys i lt = absurd (omega (arith, lt))
get_left (x ∷ xs) ys zero lt = refl
get_left (x ∷ xs) ys (suc i) lt = get_left xs ys i (omega (arith, lt))

get_right : {X : Type 0} (xs ys : List X) (i k : ℕ) → k ≡ length xs + i → slice_get (xs ++ ys) k ≡ slice_get ys i
get_right [] ys i k is = ap (slice_get ys) (omega (arith, is))
get_right (x ∷ xs) ys i zero is = absurd (omega (arith, is))
get_right (x ∷ xs) ys i (suc k) is = get_right xs ys i k (omega (arith, is))

get_none : {X : Type 0} (xs : List X) (i : ℕ) → length xs ≤ i → slice_get xs i ≡ None
get_none [] i le = refl
get_none (x ∷ xs) zero le = absurd (omega (arith, le))
get_none (x ∷ xs) (suc i) le = get_none xs i (omega (arith, le))

-- the items of the chunk at a place
unfoldable pub items_at : {X Z : Type 0} → List (VecDeque X Z) → ℕ → List X
items_at [] _ = []
items_at (chunk ∷ _) zero = chunk.items
items_at (_ ∷ chunks) (suc at) = items_at chunks at

pub no_items : (X Z : Type 0) → all_items {X = X} {Z = Z} [] ≡ []
unfolding all_items
no_items X Z = refl

pub no_chunks : (X Z : Type 0) (n : ℕ) → AreChunks {X = X} {Z = Z} n []
unfolding AreChunks
no_chunks X Z n = refl

nothing_behind : {X : Type 0} (xs : List X) → xs ++ [] ≡ xs
nothing_behind xs = grind (arith, common_steps)

-- an item is the one of its chunk
pub item_is : {X Z : Type 0} (n : ℕ) (chunks : List (VecDeque X Z)) (q r k : ℕ) → AreChunks n chunks → r < n → k ≡ q * n + r → slice_get (all_items chunks) k ≡ slice_get (items_at chunks q) r
unfolding all_items AreChunks items_at
item_is n [] q r k are lt is = refl
item_is n (c ∷ []) zero r k are lt is = ap (λ xs. slice_get xs k) (nothing_behind c.items) ∙ ap (slice_get c.items) (omega (arith, is))
item_is n (c ∷ (d ∷ cs)) zero r k are lt is =
    let there : k ≡ r = omega (arith, is) in
    get_left c.items (all_items (d ∷ cs)) k (omega (arith, there, are.2 (omega arith), lt)) ∙ ap (slice_get c.items) there
item_is n (c ∷ []) (suc q) r k are lt is = get_none (c.items ++ []) k (omega (arith, is, are.1, ap length (nothing_behind c.items)))
item_is n (c ∷ (d ∷ cs)) (suc q) r k are lt is =
    get_right c.items (all_items (d ∷ cs)) (q * n + r) k (omega (arith, is, are.1, are.2 (omega arith))) ∙ item_is n (d ∷ cs) q r (q * n + r) are.3 lt refl

-- what putting an item before the others of a chunk leaves, of which the last may come out
pub put_step : {X Z : Type 0} (chunks : List (VecDeque X Z)) (at : ℕ) (chunk put : VecDeque X Z) (item : X) (out : Option X) → at < length chunks → chunk ≡ get_or chunks at chunk →
    put.items ++ option_to_list out ≡ item ∷ chunk.items →
    all_items (take (suc at) (set chunks at put)) ++ (option_to_list out ++ all_items (drop (suc at) (set chunks at put))) ≡ all_items (take at chunks) ++ (item ∷ all_items (drop at chunks))
unfolding all_items
put_step [] at chunk put item out lt is made = absurd (omega (arith, lt))
put_step (c ∷ cs) zero chunk put item out lt is made =
    ap (λ l. l ++ (option_to_list out ++ all_items cs)) (nothing_behind put.items) ∙ sym (append_assoc put.items (option_to_list out) (all_items cs))
    ∙ ap (λ l. l ++ all_items cs) made ∙ ap (λ (c : VecDeque _ _). item ∷ (c.items ++ all_items cs)) is
put_step (c ∷ cs) (suc at) chunk put item out lt is made =
    append_assoc c.items (all_items (take (suc at) (set cs at put))) (option_to_list out ++ all_items (drop (suc at) (set cs at put)))
    ∙ ap (λ l. c.items ++ l) (put_step cs at chunk put item out (omega (arith, lt)) is made)
    ∙ sym (append_assoc c.items (all_items (take at cs)) (item ∷ all_items (drop at cs)))

-- chunks with one changed that stays full, if it was
pub chunk_set : {X Z : Type 0} (n : ℕ) (chunks : List (VecDeque X Z)) (at : ℕ) (chunk put : VecDeque X Z) → AreChunks n chunks → at < length chunks → chunk ≡ get_or chunks at chunk →
    deque_capacity chunk ≤ deque_capacity put → length put.items ≤ n → (n ≤ length chunk.items → n ≤ length put.items) → AreChunks n (set chunks at put)
unfolding AreChunks
chunk_set n [] at chunk put are lt is fits most stays = absurd (omega (arith, lt))
chunk_set n (c ∷ cs) zero chunk put are lt is fits most stays =
    let old : n ≤ deque_capacity chunk = subst (λ (c : VecDeque _ _). n ≤ deque_capacity c) (sym is) are.0 in (
      omega (arith, old, fits),
      most,
      λ some. stays (subst (λ (c : VecDeque _ _). n ≤ length c.items) (sym is) (are.2 some)),
      are.3,
    )
chunk_set n (c ∷ cs) (suc at) chunk put are lt is fits most stays = (
  are.0,
  are.1,
  λ some. are.2 (omega (arith, some, length-set cs at put)),
  chunk_set n cs at chunk put are.3 (omega (arith, lt)) is fits most stays,
)

-- another chunk of as many items leaves as much room
pub room_set : {X Z : Type 0} (n : ℕ) (chunks : List (VecDeque X Z)) (at : ℕ) (chunk put : VecDeque X Z) → at < length chunks → chunk ≡ get_or chunks at chunk →
    length put.items ≡ length chunk.items → room n (set chunks at put) ≡ room n chunks
unfolding room
room_set n [] at chunk put lt is same = absurd (omega (arith, lt))
room_set n (c ∷ cs) zero chunk put lt is same =
    let there = ap (λ (c : VecDeque _ _). length c.items) is in omega (arith, there, same)
room_set n (c ∷ cs) (suc at) chunk put lt is same = ap (λ k. (n - length c.items) + k) (room_set n cs at chunk put (omega (arith, lt)) is same)

-- where a chunk is full, the room is in those behind it
pub room_behind : {X Z : Type 0} (n : ℕ) (chunks : List (VecDeque X Z)) (at : ℕ) (chunk : VecDeque X Z) → at < length chunks → chunk ≡ get_or chunks at chunk →
    n ≤ length chunk.items → room n (drop at chunks) ≡ room n (drop (suc at) chunks)
unfolding room
room_behind n [] at chunk lt is full = absurd (omega (arith, lt))
room_behind n (c ∷ cs) zero chunk lt is full =
    let there : n ≤ length c.items = subst (λ (c : VecDeque _ _). n ≤ length c.items) is full in omega (arith, there)
room_behind n (c ∷ cs) (suc at) chunk lt is full = room_behind n cs at chunk (omega (arith, lt)) is full

-- there is no room where there is no chunk
pub room_within : {X Z : Type 0} (n : ℕ) (chunks : List (VecDeque X Z)) (at : ℕ) → 0 < room n (drop at chunks) → at < length chunks
unfolding room
room_within n [] zero some = absurd (omega (arith, some))
room_within n [] (suc at) some = absurd (omega (arith, some))
room_within n (c ∷ cs) zero some = omega arith
room_within n (c ∷ cs) (suc at) some = let rest = room_within n cs at some in omega (arith, rest)

-- what a chunk has room for, and how many items it has
pub chunk_fits : {X Z : Type 0} (n : ℕ) (chunks : List (VecDeque X Z)) (at : ℕ) (d : VecDeque X Z) → AreChunks n chunks → at < length chunks →
    (n ≤ deque_capacity (get_or chunks at d)) × (length (get_or chunks at d).items ≤ n)
unfolding AreChunks
chunk_fits n [] at d are lt = absurd (omega (arith, lt))
chunk_fits n (c ∷ cs) zero d are lt = (are.0, are.1)
chunk_fits n (c ∷ cs) (suc at) d are lt = chunk_fits n cs at d are.3 (omega (arith, lt))

pub all_parted : {X Z : Type 0} (chunks : List (VecDeque X Z)) (at : ℕ) → all_items (take at chunks) ++ all_items (drop at chunks) ≡ all_items chunks
unfolding all_items
all_parted [] zero = refl
all_parted [] (suc at) = refl
all_parted (c ∷ cs) zero = refl
all_parted (c ∷ cs) (suc at) = append_assoc c.items (all_items (take at cs)) (all_items (drop at cs)) ∙ ap (λ l. c.items ++ l) (all_parted cs at)

pub drop_set : {X : Type 0} (xs : List X) (at : ℕ) (x : X) → drop (suc at) (set xs at x) ≡ drop (suc at) xs
drop_set [] zero x = refl
drop_set [] (suc at) x = refl
drop_set (y ∷ xs) zero x = refl
drop_set (y ∷ xs) (suc at) x = drop_set xs at x

pub items_none : {X Z : Type 0} (chunks : List (VecDeque X Z)) (at : ℕ) → length chunks ≤ at → items_at chunks at ≡ []
unfolding items_at
items_none [] at le = refl
items_none (c ∷ cs) zero le = absurd (omega (arith, le))
items_none (c ∷ cs) (suc at) le = items_none cs at (omega (arith, le))

pub items_some : {X Z : Type 0} (chunks : List (VecDeque X Z)) (at : ℕ) (chunk : VecDeque X Z) → at < length chunks → chunk ≡ get_or chunks at chunk → items_at chunks at ≡ chunk.items
unfolding items_at
items_some [] at chunk lt is = absurd (omega (arith, lt))
items_some (c ∷ cs) zero chunk lt is = ap (λ (c : VecDeque _ _). c.items) (sym is)
items_some (c ∷ cs) (suc at) chunk lt is = items_some cs at chunk (omega (arith, lt)) is

pub item_copied : {X : Type 0} (xs : List X) (i : ℕ) (r : Option (Bor X)) → IsItemAt xs i r → option_copied r ≡ slice_get xs i
item_copied xs i None is = sym (get_none xs i is.3)
item_copied xs i (Some x) is = sym (slice_get_read xs (length xs) i x.now refl is.3.0 is.1)

-- what a chunk behind full ones leaves
pub chunk_pushed : {X Z : Type 0} (n : ℕ) (chunks : List (VecDeque X Z)) (chunk : VecDeque X Z) → AreChunks n chunks → room n chunks ≡ 0 → n ≤ deque_capacity chunk → length chunk.items ≤ n →
    AreChunks n (chunks ++ chunk ∷ [])
unfolding AreChunks room
chunk_pushed n [] chunk are none fits most = (fits, most, λ some. absurd (omega (arith, some)), refl)
chunk_pushed n (c ∷ cs) chunk are none fits most = (are.0, are.1, λ some. omega (arith, none), chunk_pushed n cs chunk are.3 (omega (arith, none)) fits most)

pub room_pushed : {X Z : Type 0} (n : ℕ) (chunks : List (VecDeque X Z)) (chunk : VecDeque X Z) → room n (chunks ++ chunk ∷ []) ≡ room n chunks + (n - length chunk.items)
unfolding room
room_pushed n [] chunk = omega arith
room_pushed n (c ∷ cs) chunk = let rest = room_pushed n cs chunk in omega (arith, rest)

pub items_pushed : {X Z : Type 0} (chunks : List (VecDeque X Z)) (chunk : VecDeque X Z) → chunk.items ≡ [] → all_items (chunks ++ chunk ∷ []) ≡ all_items chunks
unfolding all_items
items_pushed [] chunk none = ap (λ l. l ++ []) none
items_pushed (c ∷ cs) chunk none = ap (λ l. c.items ++ l) (items_pushed cs chunk none)

-- the room is that of the last chunk
pub room_is : {X Z : Type 0} (n : ℕ) (chunks : List (VecDeque X Z)) (at : ℕ) (d : VecDeque X Z) → AreChunks n chunks → suc at ≡ length chunks → room n chunks ≡ n - length (get_or chunks at d).items
unfolding AreChunks room
room_is n [] at d are last = absurd (omega (arith, last))
room_is n (c ∷ []) zero d are last = omega arith
room_is n (c ∷ []) (suc at) d are last = absurd (omega (arith, last))
room_is n (c ∷ (e ∷ cs)) zero d are last = absurd (omega (arith, last))
room_is n (c ∷ (e ∷ cs)) (suc at) d are last =
    let rest = room_is n (e ∷ cs) at d are.3 (omega (arith, last)) in
    let full = are.2 (omega arith) in
    omega (arith, rest, full)

pub room_none : {X Z : Type 0} (n : ℕ) (chunks : List (VecDeque X Z)) → length chunks ≡ 0 → room n chunks ≡ 0
unfolding room
room_none n [] none = refl
room_none n (c ∷ cs) none = absurd (omega (arith, none))

-- as many items as there are and have room are as many as the chunks hold
pub total : {X Z : Type 0} (n : ℕ) (chunks : List (VecDeque X Z)) → AreChunks n chunks → length (all_items chunks) + room n chunks ≡ length chunks * n
unfolding AreChunks all_items room
total n [] are = omega arith
total n (c ∷ cs) are =
    let rest = total n cs are.3 in
    let both = length-append c.items (all_items cs) in
    omega (arith, rest, both, are.1)

-- the place of an item in its chunk
pub place_fits : {X Z : Type 0} (n : ℕ) (chunks : List (VecDeque X Z)) (q r k : ℕ) (d : VecDeque X Z) → AreChunks n chunks → r < n → k ≡ q * n + r → k ≤ length (all_items chunks) → q < length chunks →
    r ≤ length (get_or chunks q d).items
unfolding AreChunks all_items
place_fits n [] q r k d are lt is fits some = absurd (omega (arith, some))
place_fits n (c ∷ []) zero r k d are lt is fits some = let all = ap length (nothing_behind c.items) in omega (arith, is, fits, all)
place_fits n (c ∷ []) (suc q) r k d are lt is fits some = absurd (omega (arith, some))
place_fits n (c ∷ (e ∷ cs)) zero r k d are lt is fits some = let full = are.2 (omega arith) in omega (arith, full, lt)
place_fits n (c ∷ (e ∷ cs)) (suc q) r k d are lt is fits some =
    let full = are.2 (omega arith) in
    let both = length-append c.items (all_items (e ∷ cs)) in
    place_fits n (e ∷ cs) q r (q * n + r) d are.3 lt refl (omega (arith, is, fits, both, full, are.1)) (omega (arith, some))

insert_left : {X : Type 0} (xs ys : List X) (i : ℕ) (x : X) → i ≤ length xs → insert xs i x ++ ys ≡ insert (xs ++ ys) i x
insert_left xs ys zero x le = refl
insert_left [] ys (suc i) x le = absurd (omega (arith, le))
insert_left (y ∷ xs) ys (suc i) x le = ap (λ l. y ∷ l) (insert_left xs ys i x (omega (arith, le)))

insert_right : {X : Type 0} (xs ys : List X) (i k : ℕ) (x : X) → k ≡ length xs + i → insert (xs ++ ys) k x ≡ xs ++ insert ys i x
insert_right [] ys i k x is = ap (λ k. insert ys k x) (omega (arith, is))
insert_right (y ∷ xs) ys i zero x is = absurd (omega (arith, is))
insert_right (y ∷ xs) ys i (suc k) x is = ap (λ l. y ∷ l) (insert_right xs ys i k x (omega (arith, is)))

-- what putting an item in a chunk leaves, of which the last may come out
pub insert_step : {X Z : Type 0} (n : ℕ) (chunks : List (VecDeque X Z)) (q r k : ℕ) (chunk put : VecDeque X Z) (item : X) (out : Option X) → AreChunks n chunks → q < length chunks → k ≡ q * n + r →
    chunk ≡ get_or chunks q chunk → r ≤ length chunk.items → put.items ++ option_to_list out ≡ insert chunk.items r item →
    all_items (take (suc q) (set chunks q put)) ++ (option_to_list out ++ all_items (drop (suc q) (set chunks q put))) ≡ insert (all_items chunks) k item
unfolding AreChunks all_items
insert_step n [] q r k chunk put item out are some at is fits made = absurd (omega (arith, some))
insert_step n (c ∷ cs) zero r k chunk put item out are some at is fits made =
    let there : k ≡ r = omega (arith, at) in
    ap (λ l. l ++ (option_to_list out ++ all_items cs)) (nothing_behind put.items) ∙ sym (append_assoc put.items (option_to_list out) (all_items cs))
    ∙ ap (λ l. l ++ all_items cs) made ∙ insert_left chunk.items (all_items cs) r item fits
    ∙ ap (λ (c : VecDeque _ _). insert (c.items ++ all_items cs) r item) is ∙ ap (λ i. insert (c.items ++ all_items cs) i item) (sym there)
insert_step n (c ∷ []) (suc q) r k chunk put item out are some at is fits made = absurd (omega (arith, some))
insert_step n (c ∷ (e ∷ cs)) (suc q) r k chunk put item out are some at is fits made =
    let full = are.2 (omega arith) in
    append_assoc c.items (all_items (take (suc q) (set (e ∷ cs) q put))) (option_to_list out ++ all_items (drop (suc q) (set (e ∷ cs) q put)))
    ∙ ap (λ l. c.items ++ l) (insert_step n (e ∷ cs) q r (q * n + r) chunk put item out are.3 (omega (arith, some)) refl is fits made)
    ∙ sym (insert_right c.items (all_items (e ∷ cs)) (q * n + r) k item (omega (arith, at, full, are.1)))

-- there is no room in chunks before another
pub room_before : {X Z : Type 0} (n : ℕ) (chunks : List (VecDeque X Z)) (at : ℕ) → AreChunks n chunks → at < length chunks → room n (drop at chunks) ≡ room n chunks
unfolding AreChunks room
room_before n [] at are lt = absurd (omega (arith, lt))
room_before n (c ∷ cs) zero are lt = refl
room_before n (c ∷ cs) (suc at) are lt =
    let rest = room_before n cs at are.3 (omega (arith, lt)) in
    let full = are.2 (omega (arith, lt)) in
    omega (arith, rest, full)

-- what a chunk that lacks an item and the next one leave, where the first of that comes behind the last of this
pub close_lacking : {X Z : Type 0} (n : ℕ) (chunks : List (VecDeque X Z)) (at : ℕ) (a b less more : VecDeque X Z) (item : X) → AreLacking n at chunks → suc at < length chunks →
    a ≡ get_or chunks at a → b ≡ get_or chunks (suc at) b → more.items ≡ a.items ++ item ∷ [] → b.items ≡ item ∷ less.items → deque_capacity a ≤ deque_capacity more → deque_capacity b ≤ deque_capacity less →
    AreLacking n (suc at) (set (set chunks (suc at) less) at more)
unfolding AreLacking AreChunks
close_lacking n [] at a b less more item are lt is_a is_b grown cut room_a room_b = absurd (omega (arith, lt))
close_lacking n (c ∷ []) zero a b less more item are lt is_a is_b grown cut room_a room_b = absurd (omega (arith, lt))
close_lacking n (c ∷ (d ∷ cs)) zero a b less more item are lt is_a is_b grown cut room_a room_b =
    let cap : n ≤ deque_capacity a = subst (λ (c : VecDeque _ _). n ≤ deque_capacity c) (sym is_a) are.0 in
    let short : length a.items < n = subst (λ (c : VecDeque _ _). length c.items < n) (sym is_a) are.1 in
    let one : n ≤ length a.items + 1 = subst (λ (c : VecDeque _ _). n ≤ length c.items + 1) (sym is_a) (are.2 (omega arith)) in
    let size = ap length grown ∙ length-append a.items (item ∷ []) in
    let cap_b : n ≤ deque_capacity b = subst (λ (c : VecDeque _ _). n ≤ deque_capacity c) (sym is_b) are.3.0 in
    let most : length b.items ≤ n = subst (λ (c : VecDeque _ _). length c.items ≤ n) (sym is_b) are.3.1 in
    let full : 0 < length cs → n ≤ length b.items = λ some. subst (λ (c : VecDeque _ _). n ≤ length c.items) (sym is_b) (are.3.2 some) in
    let size_b = ap length cut in (
      omega (arith, cap, room_a),
      omega (arith, size, short),
      omega (arith, size, one),
      (omega (arith, cap_b, room_b), omega (arith, size_b, most), λ some. let there = full some in omega (arith, there, size_b), are.3.3),
    )
close_lacking n (c ∷ cs) (suc at) a b less more item are lt is_a is_b grown cut room_a room_b =
    (are.0, are.1, are.2, close_lacking n cs at a b less more item are.3 (omega (arith, lt)) is_a is_b grown cut room_a room_b)

pub close_items : {X Z : Type 0} (chunks : List (VecDeque X Z)) (at : ℕ) (a b less more : VecDeque X Z) (item : X) → suc at < length chunks →
    a ≡ get_or chunks at a → b ≡ get_or chunks (suc at) b → more.items ≡ a.items ++ item ∷ [] → b.items ≡ item ∷ less.items →
    all_items (set (set chunks (suc at) less) at more) ≡ all_items chunks
unfolding all_items
close_items [] at a b less more item lt is_a is_b grown cut = absurd (omega (arith, lt))
close_items (c ∷ []) zero a b less more item lt is_a is_b grown cut = absurd (omega (arith, lt))
close_items (c ∷ (d ∷ cs)) zero a b less more item lt is_a is_b grown cut =
    ap (λ l. l ++ (less.items ++ all_items cs)) grown ∙ append_assoc a.items (item ∷ []) (less.items ++ all_items cs)
    ∙ ap (λ l. a.items ++ (l ++ all_items cs)) (sym cut) ∙ ap (λ (c : VecDeque _ _). c.items ++ (b.items ++ all_items cs)) is_a ∙ ap (λ (d : VecDeque _ _). c.items ++ (d.items ++ all_items cs)) is_b
close_items (c ∷ cs) (suc at) a b less more item lt is_a is_b grown cut = ap (λ l. c.items ++ l) (close_items cs at a b less more item (omega (arith, lt)) is_a is_b grown cut)

pub lacking_within : {X Z : Type 0} (n : ℕ) (chunks : List (VecDeque X Z)) (at : ℕ) → AreLacking n at chunks → at < length chunks
unfolding AreLacking
lacking_within n [] at are = absurd (omega (arith, are))
lacking_within n (c ∷ cs) zero are = omega arith
lacking_within n (c ∷ cs) (suc at) are = let rest = lacking_within n cs at are.3 in omega (arith, rest)

-- a last chunk that lacks an item has room
pub last_lacking : {X Z : Type 0} (n : ℕ) (chunks : List (VecDeque X Z)) (at : ℕ) → AreLacking n at chunks → length chunks ≤ suc at → AreChunks n chunks × (0 < room n chunks)
unfolding AreLacking AreChunks room
last_lacking n [] at are last = absurd (omega (arith, are))
last_lacking n (c ∷ []) zero are last = ((are.0, omega (arith, are.1), (λ some. absurd (omega (arith, some))), are.3), omega (arith, are.1))
last_lacking n (c ∷ (d ∷ cs)) zero are last = absurd (omega (arith, last))
last_lacking n (c ∷ cs) (suc at) are last =
    let rest = last_lacking n cs at are.3 (omega (arith, last)) in
    let some = rest.1 in
    ((are.0, are.1, (λ some. are.2), rest.0), omega (arith, some))

-- a last chunk that is empty goes
pub cut_chunks : {X Z : Type 0} (n : ℕ) (chunks : List (VecDeque X Z)) (chunk : VecDeque X Z) → AreChunks n (chunks ++ chunk ∷ []) → length chunk.items ≡ 0 → 0 < n → AreChunks n chunks × (room n chunks < n)
unfolding AreChunks room
cut_chunks n [] chunk are none some = (refl, some)
cut_chunks n (c ∷ cs) chunk are none some =
    let rest = cut_chunks n cs chunk are.3 none some in
    let full = are.2 (let more = length-append cs (chunk ∷ []) in omega (arith, more)) in
    let less = rest.1 in
    ((are.0, are.1, (λ _. full), rest.0), omega (arith, less, full))

pub cut_items : {X Z : Type 0} (chunks : List (VecDeque X Z)) (chunk : VecDeque X Z) → length chunk.items ≡ 0 → all_items chunks ≡ all_items (chunks ++ chunk ∷ [])
unfolding all_items
cut_items [] chunk none = let is : chunk.items ≡ [] = grind (arith, common_steps) in sym (ap (λ l. l ++ []) is)
cut_items (c ∷ cs) chunk none = ap (λ l. c.items ++ l) (cut_items cs chunk none)

remove_left : {X : Type 0} (xs ys : List X) (i : ℕ) → i < length xs → remove xs i ++ ys ≡ remove (xs ++ ys) i
remove_left [] ys i lt = absurd (omega (arith, lt))
remove_left (x ∷ xs) ys zero lt = refl
remove_left (x ∷ xs) ys (suc i) lt = ap (λ l. x ∷ l) (remove_left xs ys i (omega (arith, lt)))

remove_right : {X : Type 0} (xs ys : List X) (i k : ℕ) → k ≡ length xs + i → remove (xs ++ ys) k ≡ xs ++ remove ys i
remove_right [] ys i k is = ap (remove ys) (omega (arith, is))
remove_right (x ∷ xs) ys i zero is = absurd (omega (arith, is))
remove_right (x ∷ xs) ys i (suc k) is = ap (λ l. x ∷ l) (remove_right xs ys i k (omega (arith, is)))

-- what taking an item out of a chunk leaves
pub remove_items : {X Z : Type 0} (n : ℕ) (chunks : List (VecDeque X Z)) (q r k : ℕ) (chunk left : VecDeque X Z) → AreChunks n chunks → q < length chunks → k ≡ q * n + r →
    chunk ≡ get_or chunks q chunk → r < length chunk.items → left.items ≡ remove chunk.items r → all_items (set chunks q left) ≡ remove (all_items chunks) k
unfolding AreChunks all_items
remove_items n [] q r k chunk left are some at is lt made = absurd (omega (arith, some))
remove_items n (c ∷ cs) zero r k chunk left are some at is lt made =
    let there : k ≡ r = omega (arith, at) in
    ap (λ l. l ++ all_items cs) made ∙ remove_left chunk.items (all_items cs) r lt
    ∙ ap (λ (c : VecDeque _ _). remove (c.items ++ all_items cs) r) is ∙ ap (remove (c.items ++ all_items cs)) (sym there)
remove_items n (c ∷ []) (suc q) r k chunk left are some at is lt made = absurd (omega (arith, some))
remove_items n (c ∷ (e ∷ cs)) (suc q) r k chunk left are some at is lt made =
    let full = are.2 (omega arith) in
    ap (λ l. c.items ++ l) (remove_items n (e ∷ cs) q r (q * n + r) chunk left are.3 (omega (arith, some)) refl is lt made)
    ∙ sym (remove_right c.items (all_items (e ∷ cs)) (q * n + r) k (omega (arith, at, full, are.1)))

pub remove_lacking : {X Z : Type 0} (n : ℕ) (chunks : List (VecDeque X Z)) (q : ℕ) (chunk left : VecDeque X Z) → AreChunks n chunks → q < length chunks → chunk ≡ get_or chunks q chunk →
    length left.items + 1 ≡ length chunk.items → deque_capacity chunk ≤ deque_capacity left → AreLacking n q (set chunks q left)
unfolding AreChunks AreLacking
remove_lacking n [] q chunk left are some is less fits = absurd (omega (arith, some))
remove_lacking n (c ∷ cs) zero chunk left are some is less fits =
    let cap : n ≤ deque_capacity chunk = subst (λ (c : VecDeque _ _). n ≤ deque_capacity c) (sym is) are.0 in
    let most : length chunk.items ≤ n = subst (λ (c : VecDeque _ _). length c.items ≤ n) (sym is) are.1 in
    let full : 0 < length cs → n ≤ length chunk.items = λ more. subst (λ (c : VecDeque _ _). n ≤ length c.items) (sym is) (are.2 more) in
    (omega (arith, cap, fits), omega (arith, most, less), λ more. let there = full more in omega (arith, there, less), are.3)
remove_lacking n (c ∷ cs) (suc q) chunk left are some is less fits =
    (are.0, are.1, are.2 (omega (arith, some)), remove_lacking n cs q chunk left are.3 (omega (arith, some)) is less fits)

pub place_within : {X Z : Type 0} (n : ℕ) (chunks : List (VecDeque X Z)) (q r k : ℕ) (d : VecDeque X Z) → AreChunks n chunks → r < n → k ≡ q * n + r → k < length (all_items chunks) → q < length chunks →
    r < length (get_or chunks q d).items
unfolding AreChunks all_items
place_within n [] q r k d are lt is fits some = absurd (omega (arith, some))
place_within n (c ∷ []) zero r k d are lt is fits some = let all = ap length (nothing_behind c.items) in omega (arith, is, fits, all)
place_within n (c ∷ []) (suc q) r k d are lt is fits some = absurd (omega (arith, some))
place_within n (c ∷ (e ∷ cs)) zero r k d are lt is fits some = let full = are.2 (omega arith) in omega (arith, full, lt)
place_within n (c ∷ (e ∷ cs)) (suc q) r k d are lt is fits some =
    let full = are.2 (omega arith) in
    let both = length-append c.items (all_items (e ∷ cs)) in
    place_within n (e ∷ cs) q r (q * n + r) d are.3 lt refl (omega (arith, is, fits, both, full, are.1)) (omega (arith, some))

-- chunks behind one, with two before them changed
pub behind_closed : {X : Type 0} (xs : List X) (at : ℕ) (x y : X) → drop (suc (suc at)) (set (set xs (suc at) x) at y) ≡ drop (suc (suc at)) xs
behind_closed [] at x y = refl
behind_closed (z ∷ xs) zero x y = drop_set xs zero x
behind_closed (z ∷ xs) (suc at) x y = behind_closed xs at x y

-- the next chunk has an item, where the room behind is less than a chunk
pub next_some : {X Z : Type 0} (n : ℕ) (chunks : List (VecDeque X Z)) (at : ℕ) (d : VecDeque X Z) → AreLacking n at chunks → suc at < length chunks → room n (drop (suc at) chunks) < n → 0 < length (get_or chunks (suc at) d).items
unfolding AreLacking AreChunks room
next_some n [] at d are lt some = absurd (omega (arith, lt))
next_some n (c ∷ []) zero d are lt some = absurd (omega (arith, lt))
next_some n (c ∷ (e ∷ cs)) zero d are lt some = omega (arith, some)
next_some n (c ∷ cs) (suc at) d are lt some = next_some n cs at d are.3 (omega (arith, lt)) some

pub room_less : {X Z : Type 0} (n : ℕ) (chunks : List (VecDeque X Z)) (at : ℕ) → room n chunks < n → room n (drop at chunks) < n
unfolding room
room_less n [] zero less = less
room_less n [] (suc at) less = less
room_less n (c ∷ cs) zero less = less
room_less n (c ∷ cs) (suc at) less = room_less n cs at (omega (arith, less))

pub cut_empty : {X Z : Type 0} (n : ℕ) (chunks : List (VecDeque X Z)) (chunk : VecDeque X Z) → AreChunks n (chunks ++ chunk ∷ []) → n ≤ room n (chunks ++ chunk ∷ []) → 0 < n → length chunk.items ≡ 0
unfolding AreChunks room
cut_empty n [] chunk are all some = omega (arith, all, some)
cut_empty n (c ∷ cs) chunk are all some =
    let full = are.2 (let more = length-append cs (chunk ∷ []) in omega (arith, more)) in
    cut_empty n cs chunk are.3 (omega (arith, all, full)) some

pub get_before : {X : Type 0} (xs : List X) (at : ℕ) (x d : X) → get_or (set xs (suc at) x) at d ≡ get_or xs at d
get_before [] at x d = refl
get_before (y ∷ xs) zero x d = refl
get_before (y ∷ xs) (suc at) x d = get_before xs at x d

-- a chunk that lacks an item has room for it
pub lacking_fits : {X Z : Type 0} (n : ℕ) (chunks : List (VecDeque X Z)) (at : ℕ) (d : VecDeque X Z) → AreLacking n at chunks → length (get_or chunks at d).items < deque_capacity (get_or chunks at d)
unfolding AreLacking
lacking_fits n [] at d are = absurd (omega (arith, are))
lacking_fits n (c ∷ cs) zero d are = omega (arith, are.0, are.1)
lacking_fits n (c ∷ cs) (suc at) d are = lacking_fits n cs at d are.3

pub room_falls : {X Z : Type 0} (n : ℕ) (chunks : List (VecDeque X Z)) (at : ℕ) → room n (drop (suc at) chunks) ≤ room n (drop at chunks)
unfolding room
room_falls n [] zero = omega arith
room_falls n [] (suc at) = omega arith
room_falls n (c ∷ cs) zero = omega arith
room_falls n (c ∷ cs) (suc at) = room_falls n cs at

-- where there is room for a chunk, there is a chunk
room_some : {X Z : Type 0} (n : ℕ) (chunks : List (VecDeque X Z)) → n ≤ room n chunks → 0 < n → 0 < length chunks
unfolding room
room_some n [] all some = absurd (omega (arith, all, some))
room_some n (c ∷ cs) all some = omega arith

pub cut_by : {X Z : Type 0} (n : ℕ) (old new : List (VecDeque X Z)) (out : Option (VecDeque X Z)) → old ≡ new ++ option_to_list out → (0 < length old → IsSome out) →
    AreChunks n old → n ≤ room n old → 0 < n → (all_items new ≡ all_items old) × AreChunks n new × (room n new < n)
cut_by n old new None is last are all some = let there = last (room_some n old all some) in absurd cc
cut_by n old new (Some chunk) is last are all some =
    let parts = subst (AreChunks n) is are in
    let empty = cut_empty n new chunk parts (subst (λ l. n ≤ room n l) is all) some in
    let rest = cut_chunks n new chunk parts empty some in
    (cut_items new chunk empty ∙ ap all_items (sym is), rest.0, rest.1)

pub items_zero : {X Z : Type 0} (chunks : List (VecDeque X Z)) → length chunks ≡ 0 → length (all_items chunks) ≡ 0
unfolding all_items
items_zero [] none = refl
items_zero (c ∷ cs) none = absurd (omega (arith, none))

set_left : {X : Type 0} (xs ys : List X) (i : ℕ) (x : X) → i < length xs → set xs i x ++ ys ≡ set (xs ++ ys) i x
set_left [] ys i x lt = absurd (omega (arith, lt))
set_left (y ∷ xs) ys zero x lt = refl
set_left (y ∷ xs) ys (suc i) x lt = ap (λ l. y ∷ l) (set_left xs ys i x (omega (arith, lt)))

set_right : {X : Type 0} (xs ys : List X) (i k : ℕ) (x : X) → k ≡ length xs + i → set (xs ++ ys) k x ≡ xs ++ set ys i x
set_right [] ys i k x is = ap (λ k. set ys k x) (omega (arith, is))
set_right (y ∷ xs) ys i zero x is = absurd (omega (arith, is))
set_right (y ∷ xs) ys i (suc k) x is = ap (λ l. y ∷ l) (set_right xs ys i k x (omega (arith, is)))

-- what an item in place of another leaves
pub set_items : {X Z : Type 0} (n : ℕ) (chunks : List (VecDeque X Z)) (q r k : ℕ) (chunk left : VecDeque X Z) (item : X) → AreChunks n chunks → q < length chunks → k ≡ q * n + r →
    chunk ≡ get_or chunks q chunk → r < length chunk.items → left.items ≡ set chunk.items r item → all_items (set chunks q left) ≡ set (all_items chunks) k item
unfolding AreChunks all_items
set_items n [] q r k chunk left item are some at is lt made = absurd (omega (arith, some))
set_items n (c ∷ cs) zero r k chunk left item are some at is lt made =
    let there : k ≡ r = omega (arith, at) in
    ap (λ l. l ++ all_items cs) made ∙ set_left chunk.items (all_items cs) r item lt
    ∙ ap (λ (c : VecDeque _ _). set (c.items ++ all_items cs) r item) is ∙ ap (λ i. set (c.items ++ all_items cs) i item) (sym there)
set_items n (c ∷ []) (suc q) r k chunk left item are some at is lt made = absurd (omega (arith, some))
set_items n (c ∷ (e ∷ cs)) (suc q) r k chunk left item are some at is lt made =
    let full = are.2 (omega arith) in
    ap (λ l. c.items ++ l) (set_items n (e ∷ cs) q r (q * n + r) chunk left item are.3 (omega (arith, some)) refl is lt made)
    ∙ sym (set_right c.items (all_items (e ∷ cs)) (q * n + r) k item (omega (arith, at, full, are.1)))
