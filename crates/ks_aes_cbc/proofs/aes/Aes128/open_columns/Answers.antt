use Rattle.std.proofs.Common.{◌≡◌, sym, ap, ◌∙◌, arith}
use Rattle.ks_aes_cbc.specs.Aes.{aes}
use Rattle.ks_aes_cbc.specs.Inverse.{unaes}
use Rattle.ks_aes_cbc.specs.Columns.{block_of}
use Rattle.ks_aes_cbc.proofs.Cipher.{aes-unaes, unaes-aes}
use Rattle.ks_aes_cbc.proofs.RoundLemmas.{block_of_block}
use Rattle.ks_aes_cbc.proofs.KeyLemmas.{opened_begun, opened_on, opened_through}
use Rattle.ks_aes_cbc.proofs.aes.Aes128.open_columns.Goals as goal

pub loop-i-init : goal.loop-i-init
loop-i-init c =
    opened_begun c.self.inside.key c.args.block.now c.summed-state.result _
    (c.self.invariant.sealing_is 10 (omega arith)) c.summed-state.ensures

pub loop-i-preserved : goal.loop-i-preserved
loop-i-preserved c =
    opened_on c.self.inside.key (block_of c.args.block.now) c.loop-i.state c.opened_round-state.result _ c.loop-i.i c.self.invariant.key_block
    (block_of_block c.args.block.now) c.loop-i.invariant
    (c.self.invariant.opening_is c.loop-i.i (omega arith)) c.opened_round-state.ensures

pub returns-clause-sealed : goal.returns-clause-sealed
returns-clause-sealed c =
    let opened : block_of c.last_opened_round.result ≡ unaes c.self.inside.key (block_of c.args.block.now) =
    opened_through c.self.inside.key (block_of c.args.block.now) c.loop-i.state c.last_opened_round.result _ c.loop-i.i (omega arith)
    c.loop-i.invariant (c.self.invariant.sealing_is 0 (omega arith)) c.last_opened_round.ensures in
    rw (← c.self.view_is) (ap (aes c.self.inside.key) opened
    ∙ aes-unaes c.self.inside.key (block_of c.args.block.now) c.self.invariant.key_block (block_of_block c.args.block.now))

pub returns-clause-only : goal.returns-clause-only
returns-clause-only c = λ p h e.
    let opened : block_of c.last_opened_round.result ≡ unaes c.self.inside.key (block_of c.args.block.now) =
    opened_through c.self.inside.key (block_of c.args.block.now) c.loop-i.state c.last_opened_round.result _ c.loop-i.i (omega arith)
    c.loop-i.invariant (c.self.invariant.sealing_is 0 (omega arith)) c.last_opened_round.ensures in
    opened ∙ ap (unaes c.self.inside.key) (sym (rw (← c.self.view_is) at e)) ∙ unaes-aes c.self.inside.key p c.self.invariant.key_block h
