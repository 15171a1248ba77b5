use Rattle.std.proofs.Common.{◌≡◌, take, map}
use Rattle.serde_json.specs.View as owned
use Rattle.ks_json.specs.View.{view, members_view}
use Rattle.ks_json.proofs.owned.+copy.Given as goal

abbrev pub invariant-copy_items-loop-item : goal.invariant-copy_items-loop-item
invariant-copy_items-loop-item l = map owned.view l.copies.items ≡ map view (take l.item-index l.item-items)

abbrev pub invariant-copy_members-loop-member : goal.invariant-copy_members-loop-member
invariant-copy_members-loop-member l = owned.members_view l.copies.entries ≡ members_view (take l.member-index l.member-items)
