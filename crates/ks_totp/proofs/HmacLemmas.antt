-- The block of zeros that takes a key.
use Rattle.std.proofs.Common.{◌≡◌, ℕ, List, ◌++◌, length, drop, replicate, ap}
use Rattle.std.proofs.lemmas.List.{drop-replicate}
use Rattle.ks_totp.specs.Hmac.{zero_filled}

-- a block of zeros over whose front the bytes are written
pub over_zeros : (bytes : List ℕ) → bytes ++ drop (length bytes) (replicate 64 0) ≡ zero_filled bytes
over_zeros bytes = ap (λ zeros. bytes ++ zeros) (drop-replicate (length bytes) 64 0)
