use Rattle.std.proofs.Common.{sym, subst, IsSome, arith}
use Rattle.ks_base.specs.Rows.{user_of}
use Rattle.ks_base.specs.People.{PeopleState}
use Rattle.ks_base.specs.PeopleFaults.{set_user_fault}
use Rattle.ks_people.proofs.people.People.set_user.Goals as goal

pub returns-in_err-put-clause-memory : goal.returns-in_err-put-clause-memory
unfolding set_user_fault
returns-in_err-put-clause-memory c =
    let stands : IsSome (user_of c.args.row.id c.args.self.now.users) = grind (arith, c.in_ok-may_set_user.ensures) in
    let put = c.in_err-put.ensures.stands (subst (λ (state : PeopleState). IsSome (user_of c.args.row.id state.users)) (sym c.self.view_is) stands) in
    λ is. cc
