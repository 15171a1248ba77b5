use Rattle.std.proofs.Common.{◌≡◌, [], sym, ◌∙◌, drop}
use Rattle.ks_shape.specs.Places.{names_in, path_below}
use Rattle.ks_shape.proofs.PlaceLemmas.{path_step, path_end}
use Rattle.ks_shape.proofs.node.Node.path_at.Goals as goal

pub loop-name-preserved : goal.loop-name-preserved
loop-name-preserved c =
    path_step c.loop-name.path.bytes.items c.push_name.new.path.bytes.items c.args.names.now c.loop-name.name-index
    (record { ref_ptr = (0, 0); now = [] }) c.loop-name-test.true c.in_ok-push_name.ensures
    ∙ c.loop-name.invariant

pub returns : goal.returns
returns c =
    let whole : path_below c.loop-name.path.bytes.items (names_in (drop c.loop-name.name-index c.args.names.now))
    ≡ path_below c.args.self.now.path (names_in c.args.names.now) = c.loop-name.invariant in
    c.from_string.ensures ∙ (sym (path_end c.loop-name.path.bytes.items c.args.names.now c.loop-name.name-index c.loop-name-test.false) ∙ whole)
