use Rattle.std.proofs.Common.{◌≡◌, Some, rules, get_or, sym, ap, subst, ◌∙◌}
use Rattle.ks_base.specs.Refusals.{fault_in}
use Rattle.ks_base.specs.Tables.{id_cmp}
use Rattle.ks_base.specs.Trusts.{found_use_fault}
use Rattle.ks_base.proofs.PlaceLemmas.{find_gap}
use Rattle.ks_trust.proofs.UseLemmas.{use_absent, use_found, use_takes_none}
use Rattle.ks_trust.proofs.checks.usable.Goals as goal

pub returns-in_default-clause-refusal : goal.returns-in_default-clause-refusal
returns-in_default-clause-refusal c =
    sym (use_absent c.args.rows.now c.args.id.now c.args.trustee.now c.args.moment
    (find_gap id_cmp (λ row. row.id) c.args.id.now c.args.rows.now c.in_default.field-0 c.in_default.ensures.place))

pub returns-in_err-may_use-clause-refusal : goal.returns-in_err-may_use-clause-refusal
returns-in_err-may_use-clause-refusal c =
    let row = c.get.result.now in
    let is = subst (λ (r : _). r ≡ get_or c.args.rows.now c.in-Ok.at r) (sym c.get.ensures) c.index-rows-at.is in
    let fault : fault_in c.from_residual.result ≡ found_use_fault row.id c.args.trustee.now c.args.moment (Some row) = search rules in
    fault ∙ sym (use_found c.args.rows.now c.args.id.now c.args.trustee.now c.args.moment c.in-Ok.at row c.in-Ok.ensures.place is)

pub returns-in_err-may_use-clause-memory : goal.returns-in_err-may_use-clause-memory
returns-in_err-may_use-clause-memory c =
    let row = c.get.result.now in
    let fault : fault_in c.from_residual.result ≡ found_use_fault row.id c.args.trustee.now c.args.moment (Some row) = search rules in
    λ is. use_takes_none row.id c.args.trustee.now c.args.moment row (sym fault ∙ ap fault_in is)

pub returns-clause-refusal : goal.returns-clause-refusal
returns-clause-refusal c =
    let row = c.get.result.now in
    let is = subst (λ (r : _). r ≡ get_or c.args.rows.now c.in-Ok.at r) (sym c.get.ensures) c.index-rows-at.is in
    c.in_ok-may_use.ensures ∙ sym (use_found c.args.rows.now c.args.id.now c.args.trustee.now c.args.moment c.in-Ok.at row c.in-Ok.ensures.place is)
