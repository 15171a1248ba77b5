use Rattle.ks_effective.specs.State.{rows_of}
use Rattle.ks_effective.proofs.GrantedLemmas.{closes}
use Rattle.ks_effective.proofs.effective.roles_of.Goals as goal

pub returns-clause-effective : goal.returns-clause-effective
returns-clause-effective c =
    closes _ c.closure.result (rows_of c.args.tree.now c.args.people.now c.args.roles.now c.args.grants.now) c.args.user.now c.args.target.now
    c.in_ok-actors.actors c.in_ok-reach.reach c.in_ok-granted.granted c.in_ok-actors.ensures c.in_ok-reach.ensures c.in_ok-granted.ensures c.closure.ensures.implied
