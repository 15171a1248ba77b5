use Rattle.std.proofs.Common.{true, Option, subst}
use Rattle.ks_auth.specs.Answers.{rows_told}
use Rattle.ks_base.specs.declared.faults.TreeFault.{TreeFault}
use Rattle.ks_base.specs.declared.rows.DomainRow.{DomainRow}
use Rattle.ks_base.specs.TreeFaults.{add_domain_fault}
use Rattle.ks_machine.specs.declared.body_out.BodyOut.TheVariants as body
use Rattle.ks_machine.specs.declared.body_out.Row.TheVariants as row
use Rattle.ks_machine.specs.declared.change.Change.TheVariants as change
use Rattle.ks_machine.specs.Creations.{create_domain}
use Rattle.ks_machine.specs.Outcomes.{changes}
use Rattle.ks_machine.specs.Tables.{trees}
use Rattle.ks_checks.specs.Checked.{after_tree}
use Rattle.ks_checks.specs.Plans.{Plans}
use Rattle.ks_rows.proofs.creations.create_domain.Goals as goal

pub returns : goal.returns
unfolding create_domain
returns c =
    let P : DomainRow → Type 0 = λ new.
    Plans c.put_domain.result (after_tree (add_domain_fault (trees (rows_told c.args.tables.now)) new) (changes (change.PutDomain new) (body.One (row.Domain new) true))) in
    let Q : Option TreeFault → Type 0 = λ fault.
    Plans c.put_domain.result (after_tree fault (changes (change.PutDomain c.in_ok-new.new) (body.One (row.Domain c.in_ok-new.new) true))) in
    subst P c.in_ok-new.ensures (subst Q c.may_add_domain-checked.ensures c.put_domain.ensures)
