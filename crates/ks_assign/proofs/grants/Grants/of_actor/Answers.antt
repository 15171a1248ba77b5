use Rattle.std.proofs.Common.{◌≡◌, ◌==◌, true, false, List, [], ◌∷◌, length, eqb-true, sym, ap, refl, ◌∙◌, arith}
use Rattle.std.specs.List.{filter}
use Rattle.std.specs.Ordering.{is_eq}
use Rattle.ks_base.specs.Orders.{actor_cmp}
use Rattle.ks_base.proofs.GrantLemmas.{of_actor}
use Rattle.ks_assign.proofs.grants.Grants.of_actor.Goals as goal

no_rows : {X : Type 0} (rows : List X) → (length rows == 0) ≡ true → rows ≡ []
no_rows [] e = refl
no_rows (row ∷ rows) e = let none = eqb-true (length (row ∷ rows)) 0 e in absurd (omega (arith, none))

some_rows : {X : Type 0} (rows : List X) → (length rows == 0) ≡ false → rows ≡ [] → true ≡ false
some_rows rows e is = ap (λ (l : List _). length l == 0) (sym is) ∙ e

pub returns-then-is_empty-clause-none : goal.returns-then-is_empty-clause-none
returns-then-is_empty-clause-none c =
    let rows = c.of-rows.ensures.rows ∙ ap (filter (λ row. is_eq (actor_cmp row.actor c.args.actor.now))) c.self.view_is ∙ of_actor c.args.actor.now c.args.self.now in
    (λ e. sym rows ∙ no_rows c.of-rows.result.now (sym c.is_empty.ensures ∙ c.if-is_empty.true), λ e. refl)

pub returns-else-is_empty-clause-rows : goal.returns-else-is_empty-clause-rows
returns-else-is_empty-clause-rows c = c.of-rows.ensures.rows ∙ ap (filter (λ row. is_eq (actor_cmp row.actor c.args.actor.now))) c.self.view_is ∙ of_actor c.args.actor.now c.args.self.now

pub returns-else-is_empty-clause-none : goal.returns-else-is_empty-clause-none
returns-else-is_empty-clause-none c =
    let rows = c.of-rows.ensures.rows ∙ ap (filter (λ row. is_eq (actor_cmp row.actor c.args.actor.now))) c.self.view_is ∙ of_actor c.args.actor.now c.args.self.now in
    (λ e. cc, λ e. some_rows c.of-rows.result.now (sym c.is_empty.ensures ∙ c.if-is_empty.false) (rows ∙ e))

pub returns-else-is_empty-clause-ascending : goal.returns-else-is_empty-clause-ascending
returns-else-is_empty-clause-ascending c = c.of-rows.ensures.ascending
