use Rattle.std.proofs.Common.{◌*◌, ◌∷◌, [], refl}
use Rattle.ks_totp.specs.Base32.{eight_from}
use Rattle.ks_totp.proofs.Base32Lemmas.{made_more}
use Rattle.ks_totp.proofs.base32.gathered.Goals as goal

pub loop-i-preserved : goal.loop-i-preserved
loop-i-preserved c =
    made_more (λ k. eight_from c.args.fives.now (8 * k)) c.loop-i.i c.eight_from.result c.loop-i.bytes.items c.push.new.self.items (c.eight_from.result ∷ [])
    c.loop-i.invariant c.in_ok-push.ensures.items refl c.eight_from.ensures
