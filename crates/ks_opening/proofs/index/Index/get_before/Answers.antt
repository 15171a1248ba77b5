use Rattle.std.proofs.Common.{List, take, ap, ◌∙◌}
use Rattle.std.specs.Option.{option_copied}
use Rattle.ks_base.specs.Tables.{find_row, id_cmp}
use Rattle.ks_opening.proofs.IndexLemmas.{row_before, row_behind, row_not_before}
use Rattle.ks_opening.proofs.index.Index.get_before.Goals as goal

pub returns-in_err-place-clause-found : goal.returns-in_err-place-clause-found
returns-in_err-place-clause-found g c =
    ap option_copied c.from_residual.ensures
    ∙ row_not_before g.R.Row.key c.self.inside.rows.now c.self.inside.places c.args.id.now c.args.at c.self.invariant c.in_err-place.ensures.value
    ∙ ap (λ (rows : List _). find_row id_cmp g.R.Row.key c.args.id.now (take c.args.at rows)) c.self.view_is

pub returns-then-place-at-clause-found : goal.returns-then-place-at-clause-found
returns-then-place-at-clause-found g c =
    row_before g.R.Row.key c.self.inside.rows.now c.self.inside.places c.args.id.now c.args.at c.in_ok-place.place.now c.get-then-place-at.result c.self.invariant
    c.in_ok-place.ensures.value c.get-then-place-at.ensures.lookup c.if-place-at.true
    ∙ ap (λ (rows : List _). find_row id_cmp g.R.Row.key c.args.id.now (take c.args.at rows)) c.self.view_is

pub returns-else-place-at-clause-found : goal.returns-else-place-at-clause-found
returns-else-place-at-clause-found g c =
    row_behind g.R.Row.key c.self.inside.rows.now c.self.inside.places c.args.id.now c.args.at c.in_ok-place.place.now c.self.invariant
    c.in_ok-place.ensures.value c.if-place-at.false
    ∙ ap (λ (rows : List _). find_row id_cmp g.R.Row.key c.args.id.now (take c.args.at rows)) c.self.view_is
