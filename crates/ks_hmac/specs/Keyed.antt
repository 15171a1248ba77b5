-- What a key's two hashers have taken in.
use Rattle.std.specs.Prelude.{ℕ, List}
use Rattle.sha2.specs.Hashers.{Holds256}
use Rattle.ks_hmac.specs.Hmac.{block_key, padded}
use Rattle.ks_hmac.specs.declared.keyed.KeyedHash.{KeyedHash}

-- each hasher holds the key's block under its pad, and nothing more
pub record IsKeyed (hash : KeyedHash) (key : List ℕ) : Type 0 where
  pub inner : Holds256 hash.inner (padded (block_key key) 0x36)
  pub outer : Holds256 hash.outer (padded (block_key key) 0x5c)
