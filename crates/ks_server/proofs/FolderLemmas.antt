-- The keys of a folder are a ring's: their indices rise, so that none comes twice.
use Rattle.std.proofs.Common.{◌≡◌, ℕ, ◌+◌, ◌<◌, ◌≤◌, ◌==◌, nat_lt, false, List, [], ◌∷◌, ◌++◌, length, map, None, refl, ap, arith}
use Rattle.std.proofs.lemmas.Bool.Decides.{nat_tests}
use Rattle.std.specs.List.{AllByRecursion}
use Rattle.ks_base.specs.declared.key.Key.{Key}
use Rattle.ks_keyfiles.specs.Folders.{AreFolderKeys}
use Rattle.ks_outside.specs.Files.{AreIndices}
use Rattle.ks_ring.specs.Rings.{first_repeated, has_index, refusal_of, refused_as}

abbrev AreBelow : ℕ → List (ℕ × Key) → Type 0
AreBelow index keys = AllByRecursion (λ (entry : ℕ × Key). entry.0 < index) keys

-- an index above all of these is none of them
is_new : (index : ℕ) (keys : List (ℕ × Key)) → AreBelow index keys → has_index index keys ≡ false
is_new index [] below = refl
is_new index (entry ∷ keys) below =
    let differs : (entry.0 == index) ≡ false = grind (arith, nat_tests, below.0) in
    rw differs (is_new index keys below.1)

below_more : (low high : ℕ) (keys : List (ℕ × Key)) → low ≤ high → AreBelow low keys → AreBelow high keys
below_more low high [] le below = tt
below_more low high (entry ∷ keys) le below = (omega (arith, le, below.0), below_more low high keys le below.1)

below_both : (index : ℕ) (keys more : List (ℕ × Key)) → AreBelow index keys → AreBelow index more → AreBelow index (keys ++ more)
below_both index [] more one other = other
below_both index (entry ∷ keys) more one other = (one.0, below_both index keys more one.1 other)

none_repeated : (lowest : ℕ) (before keys : List (ℕ × Key)) → AreBelow lowest before → AreIndices lowest (map (λ entry. entry.0) keys) → first_repeated before keys ≡ None
unfolding first_repeated
none_repeated lowest before [] below rising = refl
none_repeated lowest before (entry ∷ keys) below rising =
    let here = below_more lowest entry.0 before rising.0 below in
    rw (is_new entry.0 before here)
    (none_repeated (entry.0 + 1) (before ++ entry ∷ []) keys
    (below_both (entry.0 + 1) before (entry ∷ []) (below_more entry.0 (entry.0 + 1) before (omega arith) here) (omega arith, tt)) rising.2)

pub ring_of_folder : (keys : List (ℕ × Key)) → AreFolderKeys keys → refusal_of keys ≡ None
unfolding refusal_of
ring_of_folder keys are =
    let some : (length keys == 0) ≡ false = grind (arith, nat_tests, are.0) in
    let few : nat_lt 32 (length keys) ≡ false = grind (arith, nat_tests, are.1) in
    rw (some, few) (ap refused_as (none_repeated 0 [] keys tt are.2))
