use Rattle.std.proofs.Common.{◌∙◌}
use Rattle.ks_relations.proofs.MemberLists.{found_users}
use Rattle.ks_relations.proofs.members.users_found.Goals as goal

pub returns : goal.returns
returns c =
    found_users c.args.tables.now.people.now c.args.group.now c.as_slice.result.now c.users_among.result (c.as_slice.ensures ∙ c.in_ok-ids.ensures.ids)
    c.users_among.ensures
