use Rattle.std.proofs.Common.{◌≡◌, get_or, length, sym, ap, subst, ◌∙◌}
use Rattle.std.specs.Iterator.{YieldsFirstRef}
use Rattle.ks_index.specs.Indexes.{picked}
use Rattle.ks_index.proofs.IndexLemmas.{get_any}
use Rattle.ks_index.proofs.PickLemmas.{first_picked, goes_on, nothing_picked, rest_within}
use Rattle.ks_index.proofs.rows.RowsIterator.next.Goals as goal

pub returns-in_err-first-clause-steps : goal.returns-in_err-first-clause-steps
returns-in_err-first-clause-steps g c =
    let rows = c.self.inside.rows.now in
    let ended = c.in_err-first.ensures.steps in
    let none = sym c.self.view_is ∙ nothing_picked rows c.self.inside.places (ap length ended.0) in
    let left = nothing_picked rows c.next.new.self (ap length ended.1) in
    subst (λ r. YieldsFirstRef (λ rows. rows) c.args.self.now r (picked rows c.next.new.self)) (sym c.from_residual.ensures) (none, left)

pub returns-clause-steps : goal.returns-clause-steps
returns-clause-steps g c =
    let rows = c.self.inside.rows.now in
    let first = c.in_ok-first.first.now in
    let are = c.in_ok-first.ensures.steps in
    let told : c.get.result.now ≡ get_or rows first c.index-self-first.result = c.get.ensures in
    let is = told ∙ get_any rows first c.index-self-first.result c.get.result.now (rest_within c.self.inside.places c.next.new.self first (length rows) are c.self.invariant).0 in
    sym c.self.view_is ∙ first_picked rows c.self.inside.places c.next.new.self first c.get.result.now are is c.self.invariant

pub returns-clause-goes : goal.returns-clause-goes
returns-clause-goes g c =
    let rows = c.self.inside.rows.now in
    let first = c.in_ok-first.first.now in
    let are = c.in_ok-first.ensures.steps in
    let told : c.get.result.now ≡ get_or rows first c.index-self-first.result = c.get.ensures in
    let is = told ∙ get_any rows first c.index-self-first.result c.get.result.now (rest_within c.self.inside.places c.next.new.self first (length rows) are c.self.invariant).0 in
    goes_on _ (λ rows. rows) c.args.self.now _ c.get.result (λ u. tt)
    (sym c.self.view_is ∙ first_picked rows c.self.inside.places c.next.new.self first c.get.result.now are is c.self.invariant)
