use Rattle.ks_relations.proofs.UserProjectLemmas.{all_found}
use Rattle.ks_relations.proofs.user_projects.projects_found.Goals as goal

pub returns : goal.returns
returns c =
    all_found c.args.tables.now c.args.user.now c.in_ok-targets.targets.items c.as_slice.result.now c.rows_among.result c.project-ascending.ensures.ascending c.in_ok-targets.ensures c.as_slice.ensures.value c.rows_among.ensures
