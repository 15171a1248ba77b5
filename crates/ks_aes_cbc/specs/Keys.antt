-- What a key that is ready to seal and open holds.
-- Source: FIPS 197, 5.3.5.
use Rattle.std.specs.Prelude.{◌≡◌, ℕ, ◌-◌, ◌<◌, List, []}
use Rattle.std.specs.List.{slice_index_or}
use Rattle.ks_aes_cbc.specs.Aes.{IsBlock, round_key}
use Rattle.ks_aes_cbc.specs.Inverse.{unmix_columns}
use Rattle.ks_aes_cbc.specs.Columns.{block_of}

-- the round keys as words, and those of the nine inverse rounds that mix columns, with their columns unmixed
pub record AreRoundKeys (key : List ℕ) (sealing opening : List (List ℕ)) : Type 0 where
  pub key_block : IsBlock key
  pub sealing_is : (n : ℕ) → n < 11 → block_of (slice_index_or sealing n []) ≡ round_key key n
  pub opening_is : (n : ℕ) → n < 9 → block_of (slice_index_or opening n []) ≡ unmix_columns (round_key key (9 - n))
