use Rattle.std.proofs.Common.{◌≡◌, ap, refl, ◌∙◌}
use Rattle.std.specs.Prelude.{codes}
use Rattle.ks_machine.specs.Assignments.{agrees, domain_of_target, project_of_target, system_of_target}
use Rattle.ks_relations.proofs.assignments.is_scope_listed.Goals as goal

pub returns : goal.returns
returns c =
    let project : c.agrees.result ≡ agrees c.args.fields.now (codes "scope.project.id") (project_of_target c.args.target.now) =
    c.agrees.ensures ∙ ap (agrees c.args.fields.now (codes "scope.project.id")) c.project_of_target.ensures in
    let domain : c.agrees-2.result ≡ agrees c.args.fields.now (codes "scope.domain.id") (domain_of_target c.args.target.now) =
    c.agrees-2.ensures ∙ ap (agrees c.args.fields.now (codes "scope.domain.id")) c.domain_of_target.ensures in
    let system : c.agrees-3.result ≡ agrees c.args.fields.now (codes "scope.system") (system_of_target c.args.target.now) =
    c.agrees-3.ensures ∙ ap (agrees c.args.fields.now (codes "scope.system")) c.system_of_target.ensures in
    c.are_all.ensures ∙ rw (project, domain, system) refl
