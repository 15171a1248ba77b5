use Rattle.ks_service.proofs.RoundLemmas.{gave_back, lands_back}
use Rattle.ks_service.proofs.rounds.step_back.Goals as goal

pub release-requires-clause-lands : goal.release-requires-clause-lands
release-requires-clause-lands g c =
    (c.args.held.pass.seen, lands_back g.I.Journaled.stands c.args.held.value c.args.held.pass.seen g.met.I.Decides.alone c.requires.stands)

pub returns : goal.returns
returns g c = gave_back g.I.Journaled.stands c.args.held.value c.args.held.pass c.release.result c.release.ensures c.requires.stands
