use Rattle.std.proofs.Common.{ℕ, List, length, sym, ap, ◌∙◌, arith}
use Rattle.ks_aes_cbc.specs.Aes.{IsBlock, xor_bytes}
use Rattle.ks_aes_cbc.specs.Columns.{block_of}
use Rattle.ks_aes_cbc.proofs.Chains.{uncbc_is, cbc-pad, cbc-length}
use Rattle.ks_aes_cbc.proofs.Streams.{sealed_step, sealed_end}
use Rattle.ks_aes_cbc.proofs.cbc.cbc_seal.Goals as goal

pub loop-block-init : goal.loop-block-init
loop-block-init c =
    rw (c.in_ok-out.ensures.items, c.new-aes.ensures, c.columns-previous.ensures) (sym (cbc-pad c.args.key.now c.args.iv.now c.args.plain.now))

pub loop-block-preserved : goal.loop-block-preserved
loop-block-preserved c =
    let before : List ℕ = block_of c.loop-block.previous in
    sealed_step c.loop-block.out.items _ c.new-aes.result c.in-Some.block.now before _ _ c.loop-block.left.now _ _
    c.in-Some.ensures.cases.0 c.in-Some.ensures.cases.1 c.in-Some.ensures.cases.2
    (c.summed.ensures ∙ ap (λ b. xor_bytes b before) c.columns.ensures) c.seal_columns-previous.ensures
    c.in_ok-append.ensures c.loop-block.invariant

pub returns-clause-sealed : goal.returns-clause-sealed
returns-clause-sealed c =
    let before : List ℕ = block_of c.loop-block.previous in
    sealed_end c.loop-block.out.items _ c.new-aes.result c.padded.result before _ _ c.loop-block.left.now _
    c.padded.ensures c.in_default.ensures.cases
    (c.summed-2.ensures ∙ ap (λ b. xor_bytes b before) c.columns-2.ensures) c.seal_columns.ensures
    c.in_ok-append-2.ensures c.loop-block.invariant

pub returns-clause-opens : goal.returns-clause-opens
returns-clause-opens c =
    let key : IsBlock c.args.key.now = record { long = c.told-key; bytes = c.fits-key } in
    let iv : IsBlock c.args.iv.now = record { long = c.told-iv; bytes = c.fits-iv } in
    uncbc_is c.args.key.now c.args.iv.now c.args.plain.now _ key iv (λ k. let fits = c.type_inv.plain k in omega arith) (sym (returns-clause-sealed c))

pub returns-clause-length : goal.returns-clause-length
returns-clause-length c =
    let key : IsBlock c.args.key.now = record { long = c.told-key; bytes = c.fits-key } in
    let iv : IsBlock c.args.iv.now = record { long = c.told-iv; bytes = c.fits-iv } in
    ap length (returns-clause-sealed c) ∙ cbc-length c.args.key.now c.args.iv.now c.args.plain.now key iv (λ k. let fits = c.type_inv.plain k in omega arith)
