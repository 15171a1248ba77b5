use Rattle.std.proofs.Common.{true, Option, subst}
use Rattle.ks_base.specs.declared.faults.TreeFault.{TreeFault}
use Rattle.ks_machine.specs.declared.body_out.BodyOut.TheVariants as body
use Rattle.ks_machine.specs.declared.body_out.Row.TheVariants as row
use Rattle.ks_machine.specs.declared.change.Change.TheVariants as change
use Rattle.ks_machine.specs.Creations.{create_project}
use Rattle.ks_machine.specs.Outcomes.{changes}
use Rattle.ks_checks.specs.Checked.{after_tree}
use Rattle.ks_checks.specs.Plans.{Plans}
use Rattle.ks_rows.proofs.creations.create_project.Goals as goal

pub returns : goal.returns
unfolding create_project
returns c =
    let Q : Option TreeFault → Type 0 = λ fault.
    Plans c.put_project.result (after_tree fault (changes (change.PutProject c.args.new) (body.One (row.Project c.args.new) true))) in
    subst Q c.may_add_project-checked.ensures c.put_project.ensures
