use Rattle.std.proofs.Common.{◌≡◌, ◌+◌, ◌-◌, ◌++◌, map, Some, None, ap, sym, ◌∙◌, arith, append-nil}
use Rattle.ks_base.specs.Tree.{parent_of}
use Rattle.ks_tree.proofs.WalkLemmas.{no_steps, none_above, step_up, gathered}
use Rattle.ks_tree.proofs.tree.Tree.ancestors.Goals as goal

pub returns-in_default-parent : goal.returns-in_default-parent
returns-in_default-parent c =
    let none : None ≡ parent_of c.args.self.now.projects c.up.top.now = c.in_default-parent.ensures in
    sym (append-nil c.up.ids) ∙ sym (ap (λ rows. c.up.ids ++ map (λ row. row.id) rows) (none_above (c.len-end.result - c.up.counter) c.args.self.now.projects c.up.top.now none)) ∙ c.up.invariant.rest

pub up-preserved : goal.up-preserved
up-preserved c =
    let some : Some c.in-Some-parent.parent.now ≡ parent_of c.args.self.now.projects c.up.top.now = c.in-Some-parent.ensures in
    let up = step_up (c.len-end.result - c.up.counter) (c.len-end.result - (c.up.counter + 1)) c.args.self.now.projects c.up.top.now c.in-Some-parent.parent.now (omega arith) some in
    record { end = c.up.invariant.end; rest = rw c.in_ok-push.ensures.ok (gathered (λ row. row.id) c.up.ids _ _ c.in-Some-parent.parent.now up ∙ c.up.invariant.rest) }

pub returns : goal.returns
returns c = sym (append-nil c.up.ids) ∙ sym (ap (λ rows. c.up.ids ++ map (λ row. row.id) rows) (no_steps (c.len-end.result - c.up.counter) c.args.self.now.projects c.up.top.now (omega arith))) ∙ c.up.invariant.rest
