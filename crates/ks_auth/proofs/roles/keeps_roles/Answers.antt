use Rattle.std.proofs.Common.{ap, ◌∙◌}
use Rattle.std.specs.List.{list_all}
use Rattle.std.specs.Option.{option_map}
use Rattle.ks_base.specs.Rows.{has_id}
use Rattle.ks_base.specs.Trusts.{first_trustor}
use Rattle.ks_base.specs.declared.grants.Target.TheVariants as target
use Rattle.ks_auth.specs.Answers.{rows_told}
use Rattle.ks_auth.proofs.RoleLemmas.{all_listed, kept_by}
use Rattle.ks_auth.proofs.roles.keeps_roles.Goals as goal

pub returns : goal.returns
returns c =
    c.have_all.ensures
    ∙ ap (λ held. list_all (has_id held) c.as_slice-2.result.now) c.as_slice.ensures
    ∙ ap (list_all (has_id c.in_ok-held.held)) c.as_slice-2.ensures
    ∙ all_listed (rows_told c.args.tables.now) c.in-Some.first (target.Project c.args.trust.now.project) c.in_ok-held.held c.args.trust.now.roles
    c.in_ok-held.ensures.members
    ∙ kept_by (rows_told c.args.tables.now) c.args.trust.now c.in-Some.first
    (c.in-Some.ensures.first ∙ ap (option_map (first_trustor c.args.tables.now.trusts.now)) c.requires)
