use Rattle.ks_relations.proofs.GivenLemmas.{all_given}
use Rattle.ks_relations.proofs.effective.given_at_all.Goals as goal

pub returns : goal.returns
returns c =
    all_given c.args.tables.now c.args.user.now c.in_ok-targets.targets.items c.as_slice.result.now c.given_to.result c.in_ok-targets.ensures c.as_slice.ensures.value c.given_to.ensures
