-- What is told of keys, by their indices alone.
use Rattle.std.specs.Prelude.{ℕ, ◌-◌, List, [], ◌∷◌, ◌++◌, map, reverse, take}
use Rattle.ks_machine.specs.declared.body_out.BodyOut.{BodyOut}
use Rattle.ks_machine.specs.declared.body_out.BodyOut.TheVariants as body
use Rattle.ks_ring.specs.declared.held_key.HeldKey.{HeldKey}
use Rattle.ks_ring.specs.Rings.{promoted}

-- | the indices of keys
abbrev pub indices_of : List HeldKey → List ℕ
indices_of held = map (λ key. key.index) held

-- the first of the indices, which is the highest
abbrev pub first_index : List ℕ → ℕ
first_index [] = 0
first_index (index ∷ indices) = index

-- | the indices rising, and the one that seals, where they fall
abbrev pub keys_told : List ℕ → BodyOut
keys_told falling = body.Keys (reverse falling) (first_index falling)

-- those after a rotation
abbrev pub indices_rotated : List HeldKey → ℕ → List ℕ
indices_rotated held most = take (most - 1) (indices_of (promoted held)) ++ 0 ∷ []
