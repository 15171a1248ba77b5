use Rattle.std.proofs.Common.{◌≡◌, None, refl, ◌∙◌}
use Rattle.std.specs.Prelude.{codes}
use Rattle.ks_drill.specs.Drill.{grant, id_in, log_in, role_number}
use Rattle.ks_drill.specs.Openings.{numbered, role_id}
use Rattle.ks_drill.proofs.StepLemmas.{asked_as, member_ok}
use Rattle.ks_drill.proofs.steps.member.Goals as goal

pub returns-clause-made : goal.returns-clause-made
returns-clause-made g c =
    let granting : c.grant.result ≡ grant (id_in c.in_ok-session-2.user) (id_in c.in_ok-session.project) (role_id (role_number c.args.start c.args.i)) =
    c.grant.ensures.made ∙ rw (c.id_in-user.ensures, c.id_in-project.ensures, c.in_ok-role.ensures, c.role_number.ensures, c.from.ensures) refl in
    let logging : c.in_ok-command.command ≡ log_in (id_in c.in_ok-session-2.user) (numbered (codes "w") c.args.i) (id_in c.in_ok-session.project) =
    c.in_ok-command.ensures.made ∙ rw (c.id_in-user.ensures, c.id_in-project.ensures, c.in_ok-password.ensures.made, c.from-2.ensures) refl in
    member_ok c.args.caller.now c.args.start c.args.i c.args.session c.in_ok-session.session c.in_ok-session-2.session c.in_ok-session-3.session _
    c.in_ok-session.project c.in_ok-session-2.user c.in_ok-session-3._granted c.in_ok-command.command c.ask-4.result
    (asked_as _ _ _ _ _ _ _ c.args.session _ c.in_ok-session.ensures.told c.in_ok-new_project.ensures.made c.in_ok-copied.ensures refl refl)
    (asked_as _ _ _ _ _ _ _ c.in_ok-session.session _ c.in_ok-session-2.ensures.told c.in_ok-new_user.ensures.made c.in_ok-copied-2.ensures refl refl)
    (asked_as _ _ _ _ _ _ _ c.in_ok-session-2.session _ c.in_ok-session-3.ensures.told granting c.in_ok-copied-3.ensures refl c.session.view_is)
    logging refl c.ask-4.ensures.told
