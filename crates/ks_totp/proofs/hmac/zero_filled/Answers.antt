use Rattle.ks_totp.proofs.HmacLemmas.{over_zeros}
use Rattle.ks_totp.proofs.hmac.zero_filled.Goals as goal

pub returns : goal.returns
returns c = rw c.copy_from_slice.ensures.after (over_zeros c.args.bytes.now)
