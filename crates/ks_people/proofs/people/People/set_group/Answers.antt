use Rattle.std.proofs.Common.{sym, subst, IsSome, arith}
use Rattle.ks_base.specs.Rows.{group_of}
use Rattle.ks_base.specs.People.{PeopleState}
use Rattle.ks_base.specs.PeopleFaults.{set_group_fault}
use Rattle.ks_people.proofs.people.People.set_group.Goals as goal

pub returns-in_err-put-clause-memory : goal.returns-in_err-put-clause-memory
unfolding set_group_fault
returns-in_err-put-clause-memory c =
    let stands : IsSome (group_of c.args.row.id c.args.self.now.groups) = grind (arith, c.in_ok-may_set_group.ensures) in
    let put = c.in_err-put.ensures.stands (subst (λ (state : PeopleState). IsSome (group_of c.args.row.id state.groups)) (sym c.self.view_is) stands) in
    λ is. cc
