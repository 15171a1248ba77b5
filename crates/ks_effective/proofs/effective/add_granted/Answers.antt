use Rattle.std.proofs.Common.{refl, filter}
use Rattle.ks_base.specs.Grants.{is_of_actor}
use Rattle.ks_effective.specs.Reach.{sites}
use Rattle.ks_effective.proofs.GrantedLemmas.{none_added}
use Rattle.ks_effective.proofs.effective.add_granted.Goals as goal

pub returns-in-None : goal.returns-in-None
returns-in-None c =
    none_added c.args.roles.now (filter (is_of_actor c.args.actor) c.args.grants.now) (sites c.args.actor c.args.reach.now) (c.in-None.ensures.none.0 refl)
