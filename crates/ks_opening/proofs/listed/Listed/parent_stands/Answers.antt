use Rattle.std.proofs.Common.{Some, None, sym, ap, ◌∙◌}
use Rattle.ks_base.specs.declared.kinds.Kind.TheVariants as kind
use Rattle.ks_base.specs.Refusals.{fault_if}
use Rattle.ks_machine.specs.declared.settings.OpenFault.TheVariants as fault
use Rattle.ks_opening.proofs.ParentLemmas.{parent_is}
use Rattle.ks_opening.proofs.listed.Listed.parent_stands.Goals as goal

pub returns-in-Some : goal.returns-in-Some
returns-in-Some c =
    c.refuse_if.ensures ∙ ap (λ b. fault_if b (fault.Absent kind.Project c.args.row.now.parent)) c.ne.ensures
    ∙ sym (parent_is c.args.self.now.projects c.args.at c.args.row.now (Some c.in-Some.parent.now) c.get_before.ensures.apart (sym c.eq.ensures ∙ c.if-eq.false) c.in-Some.ensures.found)

pub returns-in-None : goal.returns-in-None
returns-in-None c =
    sym (parent_is c.args.self.now.projects c.args.at c.args.row.now None c.get_before.ensures.apart (sym c.eq.ensures ∙ c.if-eq.false) c.in-None.ensures.found)
