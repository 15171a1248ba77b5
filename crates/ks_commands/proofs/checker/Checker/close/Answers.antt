use Rattle.ks_commands.proofs.CheckerLemmas.{closes, closes_short}
use Rattle.ks_commands.proofs.checker.Checker.close.Goals as goal

pub returns-in_default-clause-told : goal.returns-in_default-clause-told
returns-in_default-clause-told g c text before left h =
    closes_short c.args.ended c.in_default.field-0 text before left _ _ c.args.self.now c.write_out.new.self h c.in_default.ensures.told c.requires

pub returns-clause-told : goal.returns-clause-told
returns-clause-told g c text before left h =
    closes c.args.ended text before left _ _ c.args.self.now c.write_out.new.self h c.in-Ok.ensures.told c.requires
