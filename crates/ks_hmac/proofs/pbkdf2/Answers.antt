use Rattle.std.proofs.Common.{◌≡◌, ◌+◌, ◌-◌, ◌∷◌, ◌++◌, [], ap, append_assoc, arith, length, ◌∙◌}
use Rattle.ks_hmac.specs.Hmac.{hmac_of}
use Rattle.ks_hmac.proofs.HmacLemmas.{length_of_hmac}
use Rattle.ks_hmac.proofs.Pbkdf2Lemmas.{part_sum_all, part_sum_first, part_sum_next}
use Rattle.ks_hmac.proofs.pbkdf2.Goals as goal

pub rounds-init : goal.rounds-init
rounds-init c =
    let salted = c.update.ensures _ (c.start-first.ensures _ c.new-keyed.ensures) in
    let numbered = rw (append_assoc, c.to_be_bytes.ensures) at (c.update-2.ensures _ salted) in
    let is : c.finish-block.result ≡ hmac_of c.args.password.now (c.args.salt.now ++ 0 ∷ 0 ∷ 0 ∷ 1 ∷ []) =
    c.finish-block.ensures _ _ c.new-keyed.ensures numbered in
    part_sum_first c.args.password.now c.args.salt.now c.finish-block.result (c.args.rounds - 1) c.args.rounds
    (omega arith) (ap length is ∙ length_of_hmac _ _) is

pub rounds-preserved : goal.rounds-preserved
rounds-preserved c =
    part_sum_next c.args.password.now c.args.salt.now c.rounds.block c.rounds.sum c.sign-block.result
    c.add_block.new.sum (c.args.rounds - c.rounds.counter) (c.args.rounds - (c.rounds.counter + 1)) c.args.rounds
    c.rounds.invariant (omega arith) (c.sign-block.ensures _ c.new-keyed.ensures) c.add_block.array_long
    c.add_block.ensures

pub returns : goal.returns
returns c =
    part_sum_all c.args.password.now c.args.salt.now c.rounds.block c.rounds.sum
    (c.args.rounds - c.rounds.counter) c.args.rounds c.rounds.invariant (omega arith)
