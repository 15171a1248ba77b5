use Rattle.std.proofs.Common.{refl}
use Rattle.sha2.specs.Hashers.{Holds256}
use Rattle.ks_hmac.specs.Hmac.{block_key, hmac_of, padded}
use Rattle.ks_hmac.proofs.keyed.KeyedHash.finish.Goals as goal

pub returns : goal.returns
unfolding hmac_of
returns c key message keyed taken =
    let outer : Holds256 c.in-Ok.outer (padded (block_key key) 0x5c) = rw c.in-Ok.ensures.cases keyed.outer in
    let digest = c.finalize-digest.ensures _ taken in
    let code = c.finalize.ensures _ (c.update.ensures _ outer) in
    rw (code, digest) refl
