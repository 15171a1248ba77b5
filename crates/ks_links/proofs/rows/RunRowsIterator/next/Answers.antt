use Rattle.std.proofs.Common.{◌++◌, sym, subst, ◌∙◌}
use Rattle.std.specs.Iterator.{YieldsFirstRef}
use Rattle.ks_links.specs.RunSets.{all_rows}
use Rattle.ks_links.proofs.SlotLemmas.{ended}
use Rattle.ks_links.proofs.rows.RunRowsIterator.next.Goals as goal

pub returns-in_err-first-clause-steps : goal.returns-in_err-first-clause-steps
returns-in_err-first-clause-steps g c =
    let rows = c.self.inside.rows.now in
    let both = ended rows c.begun.result.now c.self.inside.runs c.begun.new.runs c.begun.ensures.rows c.in_err-first.ensures.cases c.begun.ensures.end in
    subst (λ r. YieldsFirstRef (λ rows. rows) c.args.self.now r (rows ++ all_rows c.begun.new.runs)) (sym c.from_residual.ensures) (sym c.self.view_is ∙ both.0, both.1)
