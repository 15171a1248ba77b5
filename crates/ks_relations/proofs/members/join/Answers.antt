use Rattle.std.proofs.Common.{ap, sym, ◌∙◌}
use Rattle.ks_base.specs.PeopleFaults.{join_group_fault}
use Rattle.ks_machine.specs.Tables.{unless_row}
use Rattle.ks_checks.proofs.Unrefused.{unrefused}
use Rattle.ks_relations.proofs.members.join.Goals as goal

pub is_joined-stands-requires : goal.is_joined-stands-requires
is_joined-stands-requires c =
    unrefused (join_group_fault c.args.tables.now.people.now c.args.member.now) (ap unless_row (sym c.may_join.ensures) ∙ c.in_ok-row.ensures)
