use Rattle.std.proofs.Common.{vec_len, ◌∙◌}
use Rattle.ks_roles.proofs.ClosureLemmas.{comes, less, ends_with}
use Rattle.ks_roles.proofs.roles.Roles.closure.Goals as goal

pub walk-smaller : goal.walk-smaller
walk-smaller c =
    less c.args.self.now.implications c.walk.reached c.pop.new.self.items c.walk.next.items c.come_to.new.reached c.come_to.new.next.items c.in-Some.id
    c.in-Some.ensures.items c.in_ok-come_to.ensures.passed c.in_ok-come_to.ensures.followed

pub walk-preserved : goal.walk-preserved
walk-preserved c =
    comes c.args.self.now.implications c.args.roles.now c.walk.reached c.pop.new.self.items c.walk.next.items c.come_to.new.reached c.come_to.new.next.items c.in-Some.id
    c.in-Some.ensures.items c.walk.invariant c.in_ok-come_to.ensures.passed c.in_ok-come_to.ensures.followed

pub returns-clause-implied : goal.returns-clause-implied
returns-clause-implied c =
    ends_with c.args.self.now.implications c.args.roles.now c.walk.reached c.rows.result.now c.from_vec.result c.walk.next.items c.pop.new.self.items (vec_len c.walk.next)
    c.in_default.ensures.items c.in_default.ensures.rest c.in_default.ensures.cases.0 c.rows.ensures.rows (c.from_vec.ensures ∙ c.in_ok-ids.ensures) c.walk.invariant
