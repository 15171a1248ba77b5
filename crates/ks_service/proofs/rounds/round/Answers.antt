use Rattle.ks_service.proofs.RoundLemmas.{answered_in, took_waits}
use Rattle.ks_service.proofs.rounds.round.Goals as goal

pub returns-in-Done : goal.returns-in-Done
returns-in-Done g c =
    answered_in c.args.pass c.hold-held.result.pass c.judge-changes.new.held.pass _ _ _ (took_waits _ _ _ _ _ c.hold-held.ensures) c.judge-changes.ensures.pass
    c.settle-pass.ensures
