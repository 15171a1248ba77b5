use Rattle.std.proofs.Common.{ap, sym, ◌∙◌}
use Rattle.ks_base.specs.RoleFaults.{imply_fault}
use Rattle.ks_machine.specs.Tables.{unless_row}
use Rattle.ks_checks.proofs.Unrefused.{unrefused}
use Rattle.ks_relations.proofs.members.imply.Goals as goal

pub is_implication-stands-requires : goal.is_implication-stands-requires
is_implication-stands-requires c =
    unrefused (imply_fault c.args.tables.now.roles.now c.args.inference.now) (ap unless_row (sym c.may_imply.ensures) ∙ c.in_ok-row.ensures)
