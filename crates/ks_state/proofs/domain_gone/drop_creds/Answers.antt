use Rattle.std.proofs.Common.{◌∙◌}
use Rattle.ks_state.proofs.DropLemmas.{creds_of}
use Rattle.ks_state.proofs.domain_gone.drop_creds.Goals as goal

pub returns : goal.returns
returns c = c.keep.ensures ∙ creds_of c.args.gone.now c.args.tree.now c.args.people.now c.args.creds.now c.requires
