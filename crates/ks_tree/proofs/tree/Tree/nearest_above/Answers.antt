use Rattle.std.proofs.Common.{◌≡◌, ◌+◌, ◌-◌, Some, None, ap, sym, ◌∙◌, arith}
use Rattle.std.specs.List.{find}
use Rattle.std.specs.Option.{option_copied}
use Rattle.ks_base.specs.Tree.{parent_of}
use Rattle.ks_tree.proofs.WalkLemmas.{no_steps, none_above, step_up, found_here, found_behind}
use Rattle.ks_tree.proofs.tree.Tree.nearest_above.Goals as goal

pub returns-in_err-parent : goal.returns-in_err-parent
returns-in_err-parent g c =
    let none : None ≡ parent_of c.args.self.now.projects c.up.top.now = c.in_err-parent.ensures in
    ap option_copied c.from_residual.ensures ∙ sym (ap (find (g.T.Test.test c.args.test.now)) (none_above (c.len-end.result - c.up.counter) c.args.self.now.projects c.up.top.now none)) ∙ c.up.invariant.rest

pub returns-then-test : goal.returns-then-test
returns-then-test g c =
    let some : Some c.in_ok-parent.parent.now ≡ parent_of c.args.self.now.projects c.up.top.now = c.in_ok-parent.ensures in
    let up = step_up (c.len-end.result - c.up.counter) (c.len-end.result - (c.up.counter + 1)) c.args.self.now.projects c.up.top.now c.in_ok-parent.parent.now (omega arith) some in
    sym (found_here (g.T.Test.test c.args.test.now) _ _ c.in_ok-parent.parent.now up (sym c.test.ensures ∙ c.if-test.true)) ∙ c.up.invariant.rest

pub up-preserved : goal.up-preserved
up-preserved g c =
    let some : Some c.in_ok-parent.parent.now ≡ parent_of c.args.self.now.projects c.up.top.now = c.in_ok-parent.ensures in
    let up = step_up (c.len-end.result - c.up.counter) (c.len-end.result - (c.up.counter + 1)) c.args.self.now.projects c.up.top.now c.in_ok-parent.parent.now (omega arith) some in
    record { end = c.up.invariant.end; rest = sym (found_behind (g.T.Test.test c.args.test.now) _ _ c.in_ok-parent.parent.now up (sym c.test.ensures ∙ c.if-test.false)) ∙ c.up.invariant.rest }

pub returns : goal.returns
returns g c = sym (ap (find (g.T.Test.test c.args.test.now)) (no_steps (c.len-end.result - c.up.counter) c.args.self.now.projects c.up.top.now (omega arith))) ∙ c.up.invariant.rest
