use Rattle.std.proofs.Common.{◌/◌, ◌%◌, ℕ, slice_index, refl, arith}
use Rattle.ks_aes_cbc.proofs.WordLemmas.{from_bytes, sbox_word}
use Rattle.ks_aes_cbc.proofs.RoundLemmas.{next_columns}
use Rattle.ks_aes_cbc.proofs.rounds.next_key.Goals as goal

pub returns : goal.returns
returns c =
    let last : ℕ = slice_index c.args.key.now 3 in
    next_columns c.args.key.now c.args.constant c.from_be_bytes-turned.result c.from_be_bytes.result _ _ _ _
    (sbox_word (last / 65536 % 256) (last / 256 % 256) (last % 256) (last / 16777216 % 256) c.from_be_bytes-turned.result
    (omega arith) (omega arith) (omega arith) (omega arith) c.from_be_bytes-turned.ensures)
    (from_bytes c.args.constant 0 0 0 c.from_be_bytes.result (omega arith) (omega arith) (omega arith) (omega arith) c.from_be_bytes.ensures)
    refl refl refl refl
