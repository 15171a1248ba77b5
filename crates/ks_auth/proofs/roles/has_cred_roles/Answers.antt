use Rattle.std.proofs.Common.{ap, ◌∙◌}
use Rattle.std.specs.List.{list_all}
use Rattle.ks_base.specs.Rows.{has_id}
use Rattle.ks_base.specs.declared.grants.Target.TheVariants as target
use Rattle.ks_auth.specs.Answers.{rows_told}
use Rattle.ks_auth.proofs.RoleLemmas.{all_listed}
use Rattle.ks_auth.proofs.roles.has_cred_roles.Goals as goal

pub returns : goal.returns
returns c =
    c.have_all.ensures
    ∙ ap (λ held. list_all (has_id held) c.as_slice-2.result.now) c.as_slice.ensures
    ∙ ap (list_all (has_id c.in_ok-held.held)) c.as_slice-2.ensures
    ∙ all_listed (rows_told c.args.tables.now) c.args.cred.now.user (target.Project c.args.cred.now.project) c.in_ok-held.held c.args.cred.now.roles
    c.in_ok-held.ensures.members
