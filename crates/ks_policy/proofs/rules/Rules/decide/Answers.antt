use Rattle.std.proofs.Common.{◌≡◌, ◌<◌, ℕ, Bool, List, Some, None, length, sym, ◌∙◌, ap, subst, arith}
use Rattle.ks_machine.specs.Openings.{NamedRule}
use Rattle.ks_machine.specs.Rules.{place_named}
use Rattle.ks_machine.specs.Allowed.{allowed}
use Rattle.ks_policy.specs.Needs.{AreNeeds}
use Rattle.ks_policy.proofs.DecideLemmas.{allowed_placed, allowed_none}
use Rattle.ks_policy.proofs.NeedLemmas.{needs_of_row}
use Rattle.ks_policy.proofs.rules.Rules.decide.Goals as goal

pub holds_at-requires-clause-needs : goal.holds_at-requires-clause-needs
holds_at-requires-clause-needs c =
    let within : c.in-Some.at < length c.self.inside.table = c.in-Some.ensures.within.0 in
    let long = c.self.invariant.1.long in
    subst (λ (l : List ℕ). AreNeeds c.self.inside.table c.in-Some.at l) (sym c.as_slice.ensures)
    (needs_of_row c.self.inside.table c.in-Some.at c.self.inside.needs.items c.index.result.now c.index.ensures (omega arith)
    (c.self.invariant.1.each c.in-Some.at within))

pub returns-in-Some-clause-allowed : goal.returns-in-Some-clause-allowed
returns-in-Some-clause-allowed c =
    let there : place_named c.self.inside.table c.args.action.now ≡ Some c.in-Some.at = sym c.place_named.ensures.place ∙ c.in-Some.is in
    c.holds_at.ensures
    ∙ sym (allowed_placed c.self.inside.table c.args.action.now c.args.creds.now c.args.target.now c.in-Some.at c.self.invariant.0 there)
    ∙ ap (λ (rules : List NamedRule). allowed rules c.args.action.now c.args.creds.now c.args.target.now) c.self.view_is

pub returns-in-None-clause-allowed : goal.returns-in-None-clause-allowed
returns-in-None-clause-allowed c =
    let nowhere : place_named c.self.inside.table c.args.action.now ≡ None = sym c.place_named.ensures.place ∙ c.in-None.is in
    sym (allowed_none c.self.inside.table c.args.action.now c.args.creds.now c.args.target.now c.self.invariant.0 nowhere)
    ∙ ap (λ (rules : List NamedRule). allowed rules c.args.action.now c.args.creds.now c.args.target.now) c.self.view_is
