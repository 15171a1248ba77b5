use Rattle.ks_auth.specs.Answers.{rows_told}
use Rattle.ks_auth.proofs.RoleLemmas.{gathered_closure}
use Rattle.ks_auth.proofs.roles.closure.Goals as goal

pub returns : goal.returns
returns c =
    gathered_closure (rows_told c.args.tables.now) c.args.roles.now c.closure.result c.roles_are_implied.ensures
    c.closure.ensures.implied c.closure.ensures.ascending
