use Rattle.std.proofs.Common.{◌∙◌}
use Rattle.ks_state.proofs.DropLemmas.{factors_of}
use Rattle.ks_state.proofs.domain_gone.drop_factors.Goals as goal

pub returns : goal.returns
returns c = c.keep_users.ensures.state ∙ factors_of c.args.gone.now c.args.people.now c.args.factors.now.state c.requires
