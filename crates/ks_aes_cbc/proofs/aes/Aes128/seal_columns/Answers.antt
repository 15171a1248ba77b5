use Rattle.std.proofs.Common.{◌+◌, arith}
use Rattle.ks_aes_cbc.specs.Columns.{block_of}
use Rattle.ks_aes_cbc.proofs.KeyLemmas.{sealed_begun, sealed_on, sealed_through}
use Rattle.ks_aes_cbc.proofs.aes.Aes128.seal_columns.Goals as goal

pub loop-i-init : goal.loop-i-init
loop-i-init c =
    sealed_begun c.self.inside.key c.args.block.now c.summed-state.result _
    (c.self.invariant.sealing_is 0 (omega arith)) c.summed-state.ensures

pub loop-i-preserved : goal.loop-i-preserved
loop-i-preserved c =
    sealed_on c.self.inside.key (block_of c.args.block.now) c.loop-i.state c.sealed_round-state.result _ c.loop-i.i c.loop-i.invariant
    (c.self.invariant.sealing_is (c.loop-i.i + 1) (omega arith)) c.sealed_round-state.ensures

pub returns : goal.returns
returns c =
    rw (← c.self.view_is) (sealed_through c.self.inside.key (block_of c.args.block.now) c.loop-i.state c.last_sealed_round.result _ c.loop-i.i (omega arith)
    c.loop-i.invariant (c.self.invariant.sealing_is 10 (omega arith)) c.last_sealed_round.ensures)
