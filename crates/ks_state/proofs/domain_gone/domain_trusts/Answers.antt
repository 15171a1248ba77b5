use Rattle.ks_state.proofs.DropLemmas.{domain_left, domain_told}
use Rattle.ks_state.proofs.domain_gone.domain_trusts.Goals as goal

pub returns-clause-things : goal.returns-clause-things
returns-clause-things c =
    domain_told c.args.gone.now c.args.tree.now c.args.people.now c.args.trusts.now c.in_ok-first.first c.trusts_gone.result c.requires c.in_ok-first.ensures c.trusts_gone.ensures.things

pub returns-clause-left : goal.returns-clause-left
returns-clause-left c =
    domain_left c.args.gone.now c.args.tree.now c.args.people.now c.args.trusts.now c.trusts_gone.result c.requires c.trusts_gone.ensures.left
