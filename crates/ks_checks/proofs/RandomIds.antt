-- The UUID of version 4 of 16 bytes is those bytes with two of them marked.
use Rattle.std.proofs.Common.{◌≡◌, ℕ, List, ◌∷◌, length, refl, arith}
use Rattle.ks_machine.specs.Outcomes.{uuid}
use Rattle.uuid.specs.Parts.{with_variant, with_version}
use Rattle.uuid.specs.declared.Variant.TheVariants.{RFC4122}
use Rattle.uuid.specs.declared.Version.TheVariants.{Random}

pub version_4_is : (bytes : List ℕ) → length bytes ≡ 16 → with_version (with_variant bytes RFC4122) Random ≡ uuid bytes
version_4_is (a ∷ b ∷ c ∷ d ∷ e ∷ f ∷ g ∷ h ∷ i ∷ bytes) long = refl
version_4_is _ long = absurd (omega arith)
