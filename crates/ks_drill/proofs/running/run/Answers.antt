use Rattle.ks_policy.specs.Openings.{plain}
use Rattle.ks_drill.proofs.AloneLemmas.{run_ok}
use Rattle.ks_drill.proofs.running.run.Goals as goal

pub returns : goal.returns
returns g c =
    run_ok c.args.start c.args.count g.N.First.front (plain c.args.opening.value) c.args.opening.value.rules c.in_ok-session.session c.play.result
    c.requires.front c.requires.opening c.in_ok-session.ensures c.requires.rules c.play.ensures
