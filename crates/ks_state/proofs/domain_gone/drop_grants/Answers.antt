use Rattle.std.proofs.Common.{◌∙◌}
use Rattle.ks_state.proofs.DropLemmas.{grants_of}
use Rattle.ks_state.proofs.domain_gone.drop_grants.Goals as goal

pub returns : goal.returns
returns c = c.keep.ensures ∙ grants_of c.args.gone.now c.args.tree.now c.args.people.now c.args.grants.now c.requires
