use Rattle.std.proofs.Common.{◌∙◌}
use Rattle.ks_relations.proofs.MemberLists.{found_groups}
use Rattle.ks_relations.proofs.members.groups_found.Goals as goal

pub returns : goal.returns
returns c =
    found_groups c.args.tables.now.people.now c.args.user.now c.as_slice.result.now c.groups_among.result (c.as_slice.ensures ∙ c.in_ok-ids.ensures.ids)
    c.groups_among.ensures
