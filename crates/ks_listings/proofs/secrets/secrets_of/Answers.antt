use Rattle.std.proofs.Common.{map, refl, ◌∙◌}
use Rattle.ks_machine.specs.declared.body_out.Row.TheVariants as row
use Rattle.ks_checks.proofs.ListedLemmas.{never_absent, next_is, told_next}
use Rattle.ks_listings.proofs.secrets.secrets_of.Goals as goal

pub unreachable-requires : goal.unreachable-requires
unreachable-requires c =
    let secrets = c.args.factors.now.state.secrets in
    never_absent (λ secret. secret.id) secrets secrets c.args.ids.now c.loop-id.id-index c.id-item.result c.in-None.ensures.ascending
    (λ secret among. among) c.requires c.loop-id-test.true c.id-item.is c.in-None.ensures.found

pub loop-id-preserved : goal.loop-id-preserved
loop-id-preserved c =
    let secrets = c.args.factors.now.state.secrets in
    let tell = λ (found : _). row.Secret found in
    let next = next_is (λ secret. secret.id) secrets secrets c.args.ids.now c.loop-id.id-index c.id-item.result c.in-Some.ensures.ascending
    (λ secret among. among) c.requires c.loop-id-test.true c.id-item.is c.in-Some.secret.now c.in-Some.ensures.found in
    told_next tell secrets c.loop-id.id-index c.in-Some.secret.now c.loop-id.rows c.push.new.self (map tell secrets) next
    (c.in_ok-push-in-Some.ensures.ok ∙ rw c.in_ok-copy-in-Some.ensures refl) c.loop-id.invariant
