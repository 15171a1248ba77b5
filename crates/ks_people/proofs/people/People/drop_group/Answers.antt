use Rattle.std.proofs.Common.{◌≡◌, filter, not, rules, ◌∙◌}
use Rattle.ks_base.specs.People.{is_of_group}
use Rattle.ks_base.specs.PeopleFaults.{drop_group_fault}
use Rattle.ks_people.proofs.MemberLemmas.{not_in_group}
use Rattle.ks_people.proofs.people.People.drop_group.Goals as goal

pub returns-clause-decides : goal.returns-clause-decides
unfolding drop_group_fault
returns-clause-decides c =
    let others : c.drop_of.new.self ≡ filter (λ row. not (is_of_group c.args.id.now row)) c.self.inside.members = c.drop_of.ensures ∙ not_in_group c.args.id.now c.self.inside.members in
    (search rules, search rules)
