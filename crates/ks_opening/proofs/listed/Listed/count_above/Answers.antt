use Rattle.std.proofs.Common.{◌≡◌, ◌+◌, ◌-◌, Some, None, length, ap, arith}
use Rattle.ks_base.specs.Tree.{parent_of}
use Rattle.ks_tree.proofs.WalkLemmas.{no_steps, none_above, step_up}
use Rattle.ks_opening.proofs.listed.Listed.count_above.Goals as goal

pub returns-in_default : goal.returns-in_default
returns-in_default c =
    let none : None ≡ parent_of c.args.self.now.projects c.up.top.now = c.in_default.ensures in
    omega (arith, ap length (none_above (length c.rows-end.result.now - c.up.counter) c.args.self.now.projects c.up.top.now none), c.up.invariant.rest)

pub up-preserved : goal.up-preserved
up-preserved c =
    let some : Some c.in-Some.parent.now ≡ parent_of c.args.self.now.projects c.up.top.now = c.in-Some.ensures in
    let up = step_up (length c.rows-end.result.now - c.up.counter) (length c.rows-end.result.now - (c.up.counter + 1)) c.args.self.now.projects c.up.top.now c.in-Some.parent.now (omega arith) some in
    record { counted = omega arith; end = c.up.invariant.end; rest = omega (arith, ap length up, c.up.invariant.rest) }

pub returns : goal.returns
returns c =
    omega (arith, ap length (no_steps (length c.rows-end.result.now - c.up.counter) c.args.self.now.projects c.up.top.now (omega arith)), c.up.invariant.rest)
