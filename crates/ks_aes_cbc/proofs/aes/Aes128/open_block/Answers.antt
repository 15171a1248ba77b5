use Rattle.std.proofs.Common.{sym, ap, ◌∙◌}
use Rattle.ks_aes_cbc.specs.Aes.{aes}
use Rattle.ks_aes_cbc.proofs.aes.Aes128.open_block.Goals as goal

pub returns-clause-sealed : goal.returns-clause-sealed
returns-clause-sealed c = ap (aes c.args.self.now) c.bytes.ensures ∙ c.open_columns.ensures.sealed ∙ c.columns.ensures

pub returns-clause-only : goal.returns-clause-only
returns-clause-only c = λ p h e. c.bytes.ensures ∙ c.open_columns.ensures.only p h (e ∙ sym c.columns.ensures)
