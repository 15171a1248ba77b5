use Rattle.std.proofs.Common.{sym, ap, ◌∙◌}
use Rattle.ks_machine.specs.Rules.{place_of}
use Rattle.ks_policy.proofs.PlaceLemmas.{place_found, place_gap}
use Rattle.ks_policy.proofs.table.RuleTable.place_of.Goals as goal

pub returns-in-Ok-clause-place : goal.returns-in-Ok-clause-place
returns-in-Ok-clause-place c =
    let there = rw c.as_slice.ensures.value at c.in-Ok.ensures.place in
    sym (place_found c.self.inside.rules.items c.args.name.now c.in-Ok.at there) ∙ ap (λ rules. place_of rules c.args.name.now) c.self.view_is

pub returns-in-Err-clause-place : goal.returns-in-Err-clause-place
returns-in-Err-clause-place c =
    let gap = rw c.as_slice.ensures.value at c.in-Err.ensures.place in
    sym (place_gap c.self.inside.rules.items c.args.name.now _ gap) ∙ ap (λ rules. place_of rules c.args.name.now) c.self.view_is
