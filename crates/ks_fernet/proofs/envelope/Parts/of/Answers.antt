use Rattle.std.proofs.Common.{arith, ap, ◌∙◌}
use Rattle.std.specs.Int.{w64, from_be_bytes}
use Rattle.ks_aes_cbc.specs.Aes.{AreBytes}
use Rattle.ks_fernet.proofs.Tokens.{AreCut, cut_ciphertext, cut_iv, cut_signed, cut_time}
use Rattle.ks_fernet.proofs.envelope.Parts.of.Goals as goal

pub returns : goal.returns
returns c =
    let bytes : AreBytes c.args.bytes.now = λ i. let fits = c.type_inv.bytes i in omega arith in
    let cut : AreCut c.args.bytes.now c.in-Some.signed.now c.split_at.result.1.now c.in-Some-split_first_chunk.time.now c.in-Some-split_first_chunk.rest.now
    c.in-Some-split_first_chunk-2.iv.now c.in-Some-split_first_chunk-2.ciphertext.now c.in-Some.mac.now = record {
      signed_is = c.in-Some.ensures.cases.0;
      mac_is = c.in-Some.ensures.cases.1;
      after_version_is = c.split_at.ensures.back;
      time_is = c.in-Some-split_first_chunk.ensures.cases.0;
      after_time_is = c.in-Some-split_first_chunk.ensures.cases.1;
      iv_is = c.in-Some-split_first_chunk-2.ensures.cases.0;
      ciphertext_is = c.in-Some-split_first_chunk-2.ensures.cases.1;
    } in
    record {
      signed = cut_signed c.args.bytes.now _ c.requires.long bytes c.requires.version cut.signed_is;
      time = c.from_be_bytes.ensures ∙ ap (from_be_bytes w64) (cut_time _ _ _ _ _ _ _ _ c.requires.long cut);
      iv = cut_iv _ _ _ _ _ _ _ _ c.requires.long cut;
      ciphertext = cut_ciphertext _ _ _ _ _ _ _ _ c.requires.long cut;
      mac = cut.mac_is;
    }
