use Rattle.std.proofs.Common.{◌≡◌, ◌+◌, ◌-◌, not, length, Some, None, ap, sym, ◌∙◌, arith}
use Rattle.std.specs.List.{find}
use Rattle.std.specs.Option.{option_copied}
use Rattle.ks_base.specs.declared.rows.ProjectRow.{ProjectRow}
use Rattle.ks_base.specs.Tree.{parent_of}
use Rattle.ks_tree.proofs.WalkLemmas.{found_behind, found_here, no_steps, none_above, step_up}
use Rattle.ks_opening.proofs.listed.Listed.first_disabled.Goals as goal

pub returns-in_err-parent : goal.returns-in_err-parent
returns-in_err-parent c =
    let none : None ≡ parent_of c.args.self.now.projects c.up.top.now = c.in_err-parent.ensures in
    ap option_copied c.from_residual.ensures
    ∙ sym (ap (find (λ (row : ProjectRow). not row.enabled)) (none_above (length c.rows-end.result.now - c.up.counter) c.args.self.now.projects c.up.top.now none)) ∙ c.up.invariant.rest

pub returns-then-not-parent : goal.returns-then-not-parent
returns-then-not-parent c =
    let some : Some c.in_ok-parent.parent.now ≡ parent_of c.args.self.now.projects c.up.top.now = c.in_ok-parent.ensures in
    let up = step_up (length c.rows-end.result.now - c.up.counter) (length c.rows-end.result.now - (c.up.counter + 1)) c.args.self.now.projects c.up.top.now c.in_ok-parent.parent.now (omega arith) some in
    sym (found_here (λ (row : ProjectRow). not row.enabled) _ _ c.in_ok-parent.parent.now up (ap not c.if-not-parent.true)) ∙ c.up.invariant.rest

pub up-preserved : goal.up-preserved
up-preserved c =
    let some : Some c.in_ok-parent.parent.now ≡ parent_of c.args.self.now.projects c.up.top.now = c.in_ok-parent.ensures in
    let up = step_up (length c.rows-end.result.now - c.up.counter) (length c.rows-end.result.now - (c.up.counter + 1)) c.args.self.now.projects c.up.top.now c.in_ok-parent.parent.now (omega arith) some in
    record { end = c.up.invariant.end; rest = sym (found_behind (λ (row : ProjectRow). not row.enabled) _ _ c.in_ok-parent.parent.now up (ap not c.if-not-parent.false)) ∙ c.up.invariant.rest }

pub returns : goal.returns
returns c =
    sym (ap (find (λ (row : ProjectRow). not row.enabled)) (no_steps (length c.rows-end.result.now - c.up.counter) c.args.self.now.projects c.up.top.now (omega arith))) ∙ c.up.invariant.rest
