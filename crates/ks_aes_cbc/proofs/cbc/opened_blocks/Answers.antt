use Rattle.std.proofs.Common.{◌≡◌, ◌%◌, ℕ, List, length, refl, ◌∙◌, arith}
use Rattle.ks_aes_cbc.specs.Aes.{IsBlock, AreBytes}
use Rattle.ks_aes_cbc.specs.Inverse.{unaes}
use Rattle.ks_aes_cbc.specs.Columns.{block_of}
use Rattle.ks_aes_cbc.proofs.Cipher.{unaes_block, aes-unaes}
use Rattle.ks_aes_cbc.proofs.RoundLemmas.{block_of_block}
use Rattle.ks_aes_cbc.proofs.Chains.{AreBytes-drop}
use Rattle.ks_aes_cbc.proofs.Streams.{opened_step, opened_last}
use Rattle.ks_aes_cbc.proofs.cbc.opened_blocks.Goals as goal

pub loop-block-init : goal.loop-block-init
loop-block-init c =
    (rw (c.in_ok-out.ensures.items, c.columns-previous.ensures) refl, (λ k. let fits = c.type_inv.sealed k in omega arith), c.requires.whole)

pub loop-block-preserved : goal.loop-block-preserved
loop-block-preserved c =
    let key = c.requires.key in
    let long = c.in-Some.ensures.cases.2 in
    let found : List ℕ = block_of c.columns-sealed_block.result in
    let block : IsBlock found = block_of_block c.columns-sealed_block.result in
    let opened : block_of c.open_columns.result ≡ unaes c.args.aes.now found =
    c.open_columns.ensures.only (unaes c.args.aes.now found) (unaes_block c.args.aes.now found key block)
    (aes-unaes c.args.aes.now found key block) in
    let rest : AreBytes c.in-Some.rest.now = rw c.in-Some.ensures.cases.1 (AreBytes-drop 16 c.loop-block.left.now c.loop-block.invariant.1) in
    let even : length c.loop-block.left.now % 16 ≡ 0 = c.loop-block.invariant.2 in (
      opened_step c.loop-block.out.items _ c.args.aes.now found (block_of c.loop-block.previous) _ _ c.loop-block.left.now _ _
          (c.columns-sealed_block.ensures ∙ c.in-Some.ensures.cases.0) c.in-Some.ensures.cases.1 c.in-Some.ensures.cases.2 opened c.summed.ensures
          c.in_ok-append.ensures c.loop-block.invariant.0,
      rest,
      omega arith,
    )

pub returns : goal.returns
returns c = opened_last c.loop-block.out.items c.args.aes.now (block_of c.loop-block.previous) c.loop-block.left.now _ c.in_default.ensures.cases c.loop-block.invariant.0
