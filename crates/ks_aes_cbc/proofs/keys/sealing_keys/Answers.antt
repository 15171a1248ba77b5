use Rattle.std.proofs.Common.{refl, replicate}
use Rattle.ks_aes_cbc.proofs.KeyLemmas.{AreFirst-none, AreFirst-more}
use Rattle.ks_aes_cbc.proofs.keys.sealing_keys.Goals as goal

pub loop-i-init : goal.loop-i-init
loop-i-init c = (refl, λ n le. AreFirst-none c.args.key.now c.columns-keys.result (replicate 10 c.columns-keys.result) n le c.columns-keys.ensures)

pub loop-i-preserved : goal.loop-i-preserved
loop-i-preserved c =
    AreFirst-more c.args.key.now c.loop-i.keys c.loop-i.i c.next_key-next.result c.loop-i-test.true c.loop-i.invariant c.next_key-next.ensures
