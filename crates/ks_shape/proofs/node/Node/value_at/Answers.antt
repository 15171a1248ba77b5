use Rattle.std.proofs.Common.{◌≡◌, [], true, false, Err, sym, ap, ◌∙◌}
use Rattle.std.specs.Prelude.{is_some}
use Rattle.serde_json.specs.Find.{as_object}
use Rattle.ks_json.specs.View.{view}
use Rattle.ks_base.specs.declared.shapes.ShapeFault.TheVariants as fault
use Rattle.ks_shape.proofs.PlaceLemmas.{value_step, value_start, value_end, value_none, value_stuck}
use Rattle.ks_shape.proofs.node.Node.value_at.Goals as goal

pub loop-passed-init : goal.loop-passed-init
loop-passed-init c = value_start _ _ _

pub returns-in_default : goal.returns-in_default
returns-in_default c =
    let whole = rw c.in_default.is at c.loop-passed.invariant in
    sym whole ∙ value_none _ _

pub returns-then-not-is_object : goal.returns-then-not-is_object
returns-then-not-is_object c =
    let whole = rw c.in-Some.is at c.loop-passed.invariant in
    let no_object : is_some (as_object (view c.in-Some.above.now)) ≡ false = sym c.if-not-is_object.ensures in
    sym whole ∙ (value_stuck _ c.args.names.now c.loop-passed.passed (view c.in-Some.above.now) c.loop-passed-test.true no_object
    ∙ ap (λ path. Err (fault.Kind path)) (sym c.in_ok-path.ensures))

pub loop-passed-preserved : goal.loop-passed-preserved
loop-passed-preserved c =
    let whole = rw c.in-Some.is at c.loop-passed.invariant in
    let object : is_some (as_object (view c.in-Some.above.now)) ≡ true = sym c.if-not-is_object.ensures in
    rw c.get-value.ensures
    (sym (value_step c.args.self.now.path c.args.names.now c.loop-passed.passed (record { ref_ptr = (0, 0); now = [] })
    (view c.in-Some.above.now) c.loop-passed-test.true object) ∙ whole)

pub returns : goal.returns
returns c = sym c.loop-passed.invariant ∙ value_end _ c.args.names.now c.loop-passed.passed _ c.loop-passed-test.false
