use Rattle.std.proofs.Common.{◌≡◌, ◌+◌, drop, sym, ap, ◌∙◌}
use Rattle.ks_json.specs.View.{items_view, view}
use Rattle.ks_shape.specs.Names.{all_named, named_at}
use Rattle.ks_shape.specs.Places.{place_of}
use Rattle.ks_shape.proofs.NameLemmas.{behind, entry, each_end, each_step, named_refused}
use Rattle.ks_shape.proofs.RefusalLemmas.{stops}
use Rattle.ks_shape.proofs.names.all_named.Goals as goal

pub returns-in_err-row : goal.returns-in_err-row
returns-in_err-row c =
    let place : place_of c.known_as-entry.result ≡ entry c.args.path.now (view c.value-item.result) =
    c.known_as-entry.ensures ∙ ap (λ path. entry path (view c.value-item.result)) c.in_ok-own.ensures in
    let whole : behind c.loop-value.rows (all_named c.args.path.now (items_view (drop c.loop-value.value-index c.args.values.now)))
    ≡ all_named c.args.path.now (items_view c.args.values.now) = c.loop-value.invariant in
    stops c.from_residual-in_err-row.result c.in_err-row.field-0.0
    (behind c.loop-value.rows (all_named c.args.path.now (items_view (drop c.loop-value.value-index c.args.values.now))))
    (all_named c.args.path.now (items_view c.args.values.now)) c.from_residual-in_err-row.ensures.1
    (named_refused c.in_err-row.field-0.0 c.args.path.now c.loop-value.rows c.args.values.now c.loop-value.value-index c.value-item.result
    c.loop-value-test.true c.value-item.is (rw place at c.in_err-row.ensures))
    (λ fault h. sym whole ∙ h)

pub loop-value-preserved : goal.loop-value-preserved
loop-value-preserved c =
    let place : place_of c.known_as-entry.result ≡ entry c.args.path.now (view c.value-item.result) =
    c.known_as-entry.ensures ∙ ap (λ path. entry path (view c.value-item.result)) c.in_ok-own.ensures in
    let step = each_step (λ v. named_at (entry c.args.path.now v)) c.loop-value.rows c.args.values.now c.loop-value.value-index c.value-item.result c.in_ok-row.row
    c.loop-value-test.true c.value-item.is (rw place at c.in_ok-row.ensures) in
    ap (λ rows. behind rows (all_named c.args.path.now (items_view (drop (c.loop-value.value-index + 1) c.args.values.now)))) c.in_ok-push.ensures.ok
    ∙ (step ∙ c.loop-value.invariant)

pub returns : goal.returns
returns c =
    sym c.loop-value.invariant ∙ each_end (λ v. named_at (entry c.args.path.now v)) c.loop-value.rows c.args.values.now c.loop-value.value-index c.loop-value-test.false
