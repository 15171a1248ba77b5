use Rattle.std.proofs.Common.{ap, ◌∙◌}
use Rattle.ks_aes_cbc.specs.Aes.{aes}
use Rattle.ks_aes_cbc.proofs.aes.Aes128.seal_block.Goals as goal

pub returns : goal.returns
returns c = c.bytes.ensures ∙ c.seal_columns.ensures ∙ ap (aes c.args.self.now) c.columns.ensures
