use Rattle.std.proofs.Common.{◌++◌, drop, replicate, length, ◌-◌, ap, ◌∙◌}
use Rattle.ks_aes_cbc.proofs.Streams.{pad_filled}
use Rattle.ks_aes_cbc.proofs.cbc.padded.Goals as goal

pub returns : goal.returns
returns c =
    ap (λ x. x ++ drop (length c.args.bytes.now) (replicate 16 (16 - length c.args.bytes.now))) c.copy_from_slice.ensures.after
    ∙ pad_filled c.args.bytes.now c.requires
