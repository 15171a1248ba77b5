use Rattle.ks_effective.specs.State.{rows_of}
use Rattle.ks_auth.specs.Answers.{rows_told}
use Rattle.ks_auth.proofs.RoleLemmas.{gathered_list, gathered_members}
use Rattle.ks_auth.proofs.roles.roles_at.Goals as goal

pub returns-clause-list : goal.returns-clause-list
returns-clause-list c =
    gathered_list (rows_of c.args.tables.now.tree.now c.args.tables.now.people.now c.args.tables.now.roles.now c.args.tables.now.grants.now)
    (rows_told c.args.tables.now) c.args.user.now c.args.target.now c.roles_of.result c.roles_are_effective.ensures
    c.roles_of.ensures.effective c.roles_of.ensures.ascending

pub returns-clause-members : goal.returns-clause-members
returns-clause-members c =
    gathered_members (rows_of c.args.tables.now.tree.now c.args.tables.now.people.now c.args.tables.now.roles.now c.args.tables.now.grants.now)
    (rows_told c.args.tables.now) c.args.user.now c.args.target.now c.roles_of.result c.roles_of.ensures.effective
