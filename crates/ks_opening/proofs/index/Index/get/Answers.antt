use Rattle.std.proofs.Common.{ap, ◌∙◌}
use Rattle.std.specs.Option.{option_copied}
use Rattle.ks_base.specs.Tables.{find_row, id_cmp}
use Rattle.ks_opening.proofs.IndexLemmas.{row_at, row_nowhere}
use Rattle.ks_opening.proofs.index.Index.get.Goals as goal

pub returns-in_err-at : goal.returns-in_err-at
returns-in_err-at g c =
    ap option_copied c.from_residual.ensures ∙ row_nowhere g.R.Row.key c.self.inside.rows.now c.self.inside.places c.args.id.now c.self.invariant c.in_err-at.ensures.value
    ∙ ap (find_row id_cmp g.R.Row.key c.args.id.now) c.self.view_is

pub returns : goal.returns
returns g c =
    row_at g.R.Row.key c.self.inside.rows.now c.self.inside.places c.args.id.now c.in_ok-at.at.now c.get-2.result c.self.invariant c.in_ok-at.ensures.value
    c.get-2.ensures.lookup ∙ ap (find_row id_cmp g.R.Row.key c.args.id.now) c.self.view_is
