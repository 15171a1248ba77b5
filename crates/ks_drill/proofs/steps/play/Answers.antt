use Rattle.std.proofs.Common.{◌≡◌, refl, ◌∙◌}
use Rattle.ks_drill.specs.Drill.{log_in}
use Rattle.ks_drill.specs.Openings.{root}
use Rattle.ks_drill.proofs.StepLemmas.{play_ok}
use Rattle.ks_drill.proofs.steps.play.Goals as goal

pub returns : goal.returns
returns g c =
    let is_login : c.in_ok-command.command ≡ log_in root root root =
    c.in_ok-command.ensures.made ∙ rw (c.root_id.ensures, c.in_ok-password.ensures, c.root_id-2.ensures) refl in
    play_ok c.args.start c.args.count c.args.session _ c.in_ok-session.session _ c.in_ok-session-2.session c.in_ok-session-3.session c.in_ok-command.command c.in_ok-session.login
    c.in_ok-caller.caller c.in_ok-session-2.logins c.as_slice.result.now c.as_slice-2.result.now c.as_slice-3.result.now c.in_ok-found.found c.as_slice-4.result.now c.line.result
    c.in_ok-session.ensures.told is_login refl
    c.in_ok-caller.ensures refl c.in_ok-session-2.ensures.made
    c.as_slice.ensures c.in_ok-session-3.ensures.ended
    c.as_slice-2.ensures c.in_ok-found.ensures
    c.as_slice-3.ensures c.as_slice-4.ensures c.line.ensures
