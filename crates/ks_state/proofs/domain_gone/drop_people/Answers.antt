use Rattle.ks_state.proofs.DropLemmas.{people_left}
use Rattle.ks_state.proofs.domain_gone.drop_people.Goals as goal

pub returns : goal.returns
returns c =
    people_left c.args.gone.now c.args.people.now c.keep_members.new.self c.keep_users.new.self c.keep_groups.new.self c.requires.users c.requires.groups
    c.keep_members.ensures c.keep_users.ensures c.keep_groups.ensures
