use Rattle.std.proofs.Common.{◌≡◌, filter, not, rules, ◌∙◌}
use Rattle.ks_base.specs.People.{is_of_user}
use Rattle.ks_base.specs.PeopleFaults.{drop_user_fault}
use Rattle.ks_people.proofs.MemberLemmas.{not_of_user}
use Rattle.ks_people.proofs.people.People.drop_user.Goals as goal

pub returns-clause-decides : goal.returns-clause-decides
unfolding drop_user_fault
returns-clause-decides c =
    let others : c.drop_at.new.self ≡ filter (λ row. not (is_of_user c.args.id.now row)) c.self.inside.members = c.drop_at.ensures ∙ not_of_user c.args.id.now c.self.inside.members in
    (search rules, search rules)
