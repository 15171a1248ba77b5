use Rattle.std.specs.Option.{option_copied}
use Rattle.ks_auth.specs.Answers.{rows_told}
use Rattle.ks_base.specs.declared.receipt.Drawn.TheVariants.{Bytes}
use Rattle.ks_checks.specs.Plans.{valid_of}
use Rattle.ks_delegations.proofs.TrustLemmas.{created_by}
use Rattle.ks_delegations.proofs.trusts.create_trust.Goals as goal

pub returns : goal.returns
returns c =
    created_by (rows_told c.args.tables.now) c.args.moment (Bytes c.args.drawn.now) (valid_of c.args.caller.now) c.args.asked.now
    c.eq.result c.has_roles.result c.may_count.result c.in_ok-_trustee._trustee.now c.in_ok-_project._project.now (option_copied c.in_ok-parent.parent)
    c.in_ok-roles.roles c.as_slice.result.now c.in_ok-in_order.field-0 c.made_id.result c.new_trust-new.result c.put_trust.result
    c.in_ok-unrestricted.ensures c.eq.ensures c.in_ok-needs.ensures c.in_ok-_trustee.ensures c.in_ok-_project.ensures c.in_ok-parent.ensures
    c.has_roles.ensures c.in_ok-needs-2.ensures c.in_ok-roles.ensures c.may_count.ensures c.in_ok-needs-3.ensures
    c.made_id.ensures c.as_slice.ensures c.in_ok-in_order.ensures c.new_trust-new.ensures c.put_trust.ensures
