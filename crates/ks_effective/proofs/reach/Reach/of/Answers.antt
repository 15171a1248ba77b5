use Rattle.std.proofs.Common.{◌≡◌, rules}
use Rattle.std.specs.Option.{option_map}
use Rattle.ks_base.specs.Rows.{project_of}
use Rattle.ks_effective.proofs.ReachLemmas.{domain_sites, project_sites, system_sites}
use Rattle.ks_effective.proofs.reach.Reach.of.Goals as goal

pub returns-in-System : goal.returns-in-System
returns-in-System c = rw c.in-System.is (system_sites c.args.tree.now.projects)

pub returns-in-Domain : goal.returns-in-Domain
returns-in-Domain c = rw c.in-Domain.is (domain_sites c.args.tree.now.projects c.in-Domain.id)

pub returns-in_ok-ancestors-in-Project : goal.returns-in_ok-ancestors-in-Project
returns-in_ok-ancestors-in-Project c =
    let projects = c.args.tree.now.projects in
    let id = c.in-Project.id in
    let domain : c.map.result ≡ option_map (λ row. row.domain) (project_of id projects) = search rules in
    rw c.in-Project.is (project_sites projects id c.map.result c.in_ok-ancestors-in-Project.field-0 c.project.ensures.ascending domain c.in_ok-ancestors-in-Project.ensures)
