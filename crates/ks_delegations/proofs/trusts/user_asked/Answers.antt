use Rattle.std.proofs.Common.{◌≡◌, Bool, Bor, codes, Some, Result, Ok, Err, IfOk, ap, sym, subst, ◌∙◌}
use Rattle.std.specs.Prelude.{IfSome}
use Rattle.std.specs.Result.{result_ok}
use Rattle.std.proofs.lemmas.Bool.{and_parts, or_left, or_right}
use Rattle.std.proofs.lemmas.Slice.Eq.{bytes_eq-Decides}
use Rattle.ks_base.specs.declared.text.Text.{Text}
use Rattle.ks_base.specs.declared.trusts.TrustRow.{TrustRow}
use Rattle.ks_base.specs.Ids.{IsId}
use Rattle.ks_base.specs.Rows.{Id, same}
use Rattle.ks_rule.specs.Kinds.{Fields, value_in}
use Rattle.ks_machine.specs.Assignments.{agrees}
use Rattle.ks_machine.specs.TrustCommands.{is_trust_listed}
use Rattle.ks_checks.proofs.ListedLemmas.{agrees_with}
use Rattle.ks_delegations.specs.Listed.{IsOfAll}
use Rattle.ks_delegations.proofs.trusts.user_asked.Goals.{in-Some, in-None+in_ok-wanted-in-None}
use Rattle.ks_delegations.proofs.trusts.user_asked.Goals as goal

by_trustor : (filters : Fields) (wanted : Id) → Some wanted ≡ value_in filters (codes "trustor_user_id") → IsOfAll (is_trust_listed filters) wanted
by_trustor filters wanted is trust pass =
    let agreed = (and_parts (agrees filters (codes "trustor_user_id") (Some trust.trustor)) (agrees filters (codes "trustee_user_id") (Some trust.trustee)) pass).0 in
    or_left (same trust.trustor wanted) (same trust.trustee wanted) ((bytes_eq-Decides trust.trustor wanted).1 (agrees_with (codes "trustor_user_id") filters wanted trust.trustor is agreed))

by_trustee : (filters : Fields) (wanted : Id) → Some wanted ≡ value_in filters (codes "trustee_user_id") → IsOfAll (is_trust_listed filters) wanted
by_trustee filters wanted is trust pass =
    let agreed = (and_parts (agrees filters (codes "trustor_user_id") (Some trust.trustor)) (agrees filters (codes "trustee_user_id") (Some trust.trustee)) pass).1 in
    or_right (same trust.trustor wanted) (same trust.trustee wanted) ((bytes_eq-Decides trust.trustee wanted).1 (agrees_with (codes "trustee_user_id") filters wanted trust.trustee is agreed))

-- an id that is read is the text
read_of : {E : Type 0} (test : TrustRow → Bool) (wanted text : Id) (read : Result Id E) → text ≡ wanted → IsOfAll test wanted → IfOk read (λ id. (id ≡ text) × IsId text) →
    IfSome (result_ok read) (IsOfAll test)
read_of test wanted text (Ok id) is all ok = subst (IsOfAll test) (sym (ok.0 ∙ is)) all
read_of test wanted text (Err fault) is all ok = tt

pub returns : goal.returns
returns c =
    let filters = c.args.filters.now in
    let wanted = c.match-value_in.wanted.now in
    let all : IsOfAll (is_trust_listed filters) wanted = elim c.match-value_in.branch [
      | in-Some w ↦ by_trustor filters wanted (ap (λ (t : Bor Text). Some t.now) w.wanted-is ∙ w.in-Some.ensures)
      | in-None+in_ok-wanted-in-None w ↦ by_trustee filters wanted (ap (λ (t : Bor Text). Some t.now) w.wanted-is ∙ w.in_ok-wanted-in-None.ensures)
    ] in
    subst (λ o. IfSome o (IsOfAll (is_trust_listed filters))) (sym c.ok.ensures.value)
    (read_of (is_trust_listed filters) wanted c.as_slice.result.now c.read.result c.as_slice.ensures.bytes all c.read.ensures.ok)
