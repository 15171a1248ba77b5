use Rattle.std.proofs.Common.{arith, rules, map, filter, ◌∙◌}
use Rattle.ks_auth.specs.Answers.{rows_told}
use Rattle.ks_base.specs.declared.events.Revoke.TheVariants as revoke
use Rattle.ks_base.specs.declared.trusts.TrustRow.{TrustRow}
use Rattle.ks_base.specs.Trusts.{names_trust}
use Rattle.ks_base.proofs.RowLemmas.{among_filter}
use Rattle.ks_machine.specs.TrustCommands.{is_trust_listed, told_trust}
use Rattle.ks_checks.proofs.ListedLemmas.{all_listed, filter_passed, listed, never_absent, next_is, passed_over}
use Rattle.ks_delegations.proofs.trusts.trusts_of_user.Goals.{then-is_trust_listed+in_ok-told_trust+in_ok-push, else-is_trust_listed}
use Rattle.ks_delegations.proofs.trusts.trusts_of_user.Goals as goal

pub loop-id-init : goal.loop-id-init
loop-id-init c =
    rw (c.new-rows.ensures, filter_passed (is_trust_listed c.args.filters.now) (names_trust (revoke.User c.args.user.now)) c.requires c.args.tables.now.trusts.now)

pub unreachable-requires : goal.unreachable-requires
unreachable-requires c =
    let trusts = c.args.tables.now.trusts.now in
    let chosen = names_trust (revoke.User c.args.user.now) in
    never_absent (λ (trust : TrustRow). trust.id) trusts (filter chosen trusts) c.as_slice-id-items.result.now c.loop-id.id-index c.id-item.result c.trust.ensures.ascending
    (λ trust among. (among_filter chosen trusts trust among).0) (c.as_slice-id-items.ensures ∙ c.in_ok-ids.ensures.ids) c.loop-id-test.true c.id-item.is (search rules)

pub loop-id-preserved : goal.loop-id-preserved
loop-id-preserved c =
    let trusts = c.args.tables.now.trusts.now in
    let chosen = names_trust (revoke.User c.args.user.now) in
    let of_user = filter chosen trusts in
    let tell = told_trust (rows_told c.args.tables.now) in
    let passes = is_trust_listed c.args.filters.now in
    let trust = c.in-Some.trust.now in
    let whole = map tell (filter passes trusts) in
    let next = next_is (λ (row : TrustRow). row.id) trusts of_user c.as_slice-id-items.result.now c.loop-id.id-index c.id-item.result c.trust.ensures.ascending
    (λ row among. (among_filter chosen trusts row among).0) (c.as_slice-id-items.ensures ∙ c.in_ok-ids.ensures.ids) c.loop-id-test.true c.id-item.is trust c.in-Some.ensures.found in
    elim c.if-is_trust_listed.branch [
      | then-is_trust_listed+in_ok-told_trust+in_ok-push w ↦
          listed tell of_user c.loop-id.id-index trust c.loop-id.rows c.if-is_trust_listed.rows whole next passes (search rules) (search rules) c.loop-id.invariant
      | else-is_trust_listed w ↦
          passed_over tell of_user c.loop-id.id-index trust c.loop-id.rows c.if-is_trust_listed.rows whole next passes (search rules) w.rows-is c.loop-id.invariant
    ]

pub returns : goal.returns
returns c =
    let trusts = c.args.tables.now.trusts.now in
    let tell = told_trust (rows_told c.args.tables.now) in
    let passes = is_trust_listed c.args.filters.now in
    all_listed (λ (trust : TrustRow). trust.id) tell passes (filter (names_trust (revoke.User c.args.user.now)) trusts) c.as_slice-id-items.result.now c.loop-id.id-index c.loop-id.rows
    (map tell (filter passes trusts)) (c.as_slice-id-items.ensures ∙ c.in_ok-ids.ensures.ids) (omega (arith, c.loop-id-test.false)) c.loop-id.invariant
