-- No number is given twice.
use Rattle.std.specs.Prelude.{◌≡◌, ◌⊎◌, ℕ, suc, ◌+◌, ◌≤◌, List, [], ◌∷◌, length, reverse, All, Contains}
use Rattle.ks_base.specs.declared.key.Key.{Key}
use Rattle.ks_ring.specs.declared.held_key.HeldKey.{HeldKey}
use Rattle.ks_ring.specs.Rings.{RingState, new_of, load_of, rotate_of}

-- 0, 1, 2 and so on, from the first one on
abbrev pub AreCounted : ℕ → List HeldKey → Type 0
AreCounted first [] = Unit {0}
AreCounted first (held ∷ more) = (held.number ≡ first) × AreCounted (suc first) more

-- law: no number is given twice: the numbers of a first ring count from 0, by rising index
abbrev pub CountsFromZero : Type 0
CountsFromZero = (keys : List (ℕ × Key)) → AreCounted 0 (reverse (new_of keys).held)

-- a key with this number and these bytes was held
abbrev pub Held : ℕ → Key → List HeldKey → Type 0
Held number key held = (index : ℕ) × Contains held (record { index = index; number = number; key = key })

-- a number stands for the key that had it before, or was never given
abbrev pub KeepsItsKey : RingState → HeldKey → Type 0
KeepsItsKey before held = Held held.number held.key before.held ⊎ (before.next ≤ held.number)

-- law: each key that is held after loading has its own number, or one that was never given
abbrev pub LoadingKeepsNumbers : Type 0
LoadingKeepsNumbers = (ring : RingState) (keys : List (ℕ × Key)) → All (KeepsItsKey ring) (load_of ring keys).held

-- law: so has each that is held after a rotation
abbrev pub RotationKeepsNumbers : Type 0
RotationKeepsNumbers = (ring : RingState) (new : Key) (most : ℕ) → All (KeepsItsKey ring) (rotate_of ring new most).held

-- law: the new key is held after a rotation: it is staged, with the next number
abbrev pub StagesTheNewKey : Type 0
StagesTheNewKey = (ring : RingState) (new : Key) (most : ℕ) →
    Contains (rotate_of ring new most).held (record { index = 0; number = ring.next; key = new })

-- law: and no other has the index 0
abbrev pub StagesNoOther : Type 0
StagesNoOther = (ring : RingState) (new : Key) (most : ℕ) (held : HeldKey) → Contains (rotate_of ring new most).held held →
    held.index ≡ 0 → held ≡ record { index = 0; number = ring.next; key = new }

-- law: the next number never falls
abbrev pub LoadingNeverFalls : Type 0
LoadingNeverFalls = (ring : RingState) (keys : List (ℕ × Key)) → ring.next ≤ (load_of ring keys).next

-- law: and rises by one at most for each key that is loaded
abbrev pub LoadingAddsFew : Type 0
LoadingAddsFew = (ring : RingState) (keys : List (ℕ × Key)) → (load_of ring keys).next ≤ ring.next + length keys

-- law: a rotation gives the next number alone
abbrev pub RotationRises : Type 0
RotationRises = (ring : RingState) (new : Key) (most : ℕ) → (rotate_of ring new most).next ≡ suc ring.next
