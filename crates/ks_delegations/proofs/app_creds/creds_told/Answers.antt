use Rattle.std.proofs.Common.{filter, map, refl, ◌∙◌}
use Rattle.ks_auth.specs.Answers.{rows_told}
use Rattle.ks_base.specs.AppCreds.{is_of_user}
use Rattle.ks_base.proofs.RowLemmas.{among_filter}
use Rattle.ks_machine.specs.AppCredCommands.{told_cred}
use Rattle.ks_checks.proofs.ListedLemmas.{never_absent, next_is, told_next}
use Rattle.ks_delegations.proofs.app_creds.creds_told.Goals as goal

pub unreachable-requires : goal.unreachable-requires
unreachable-requires c =
    let creds = c.args.tables.now.app_creds.now in
    let own = is_of_user c.args.user.now in
    never_absent (λ cred. cred.id) creds (filter own creds) c.args.ids.now c.loop-id.id-index c.id-item.result c.in-None.ensures.ascending
    (λ cred among. (among_filter own creds cred among).0) c.requires c.loop-id-test.true c.id-item.is c.in-None.ensures.found

pub loop-id-preserved : goal.loop-id-preserved
loop-id-preserved c =
    let creds = c.args.tables.now.app_creds.now in
    let own = is_of_user c.args.user.now in
    let tell = told_cred (rows_told c.args.tables.now) in
    let next = next_is (λ cred. cred.id) creds (filter own creds) c.args.ids.now c.loop-id.id-index c.id-item.result c.in-Some.ensures.ascending
    (λ cred among. (among_filter own creds cred among).0) c.requires c.loop-id-test.true c.id-item.is c.in-Some.cred.now c.in-Some.ensures.found in
    told_next tell (filter own creds) c.loop-id.id-index c.in-Some.cred.now c.loop-id.rows c.push.new.self (map tell (filter own creds)) next
    (c.in_ok-push-in-Some.ensures.ok ∙ rw c.in_ok-told_cred-in-Some.ensures refl) c.loop-id.invariant
