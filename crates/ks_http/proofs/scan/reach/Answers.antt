use Rattle.std.proofs.Common.{sym, ◌∙◌, ap}
use Rattle.ks_http.proofs.ScanLemmas.{line_more, line_last}
use Rattle.ks_http.proofs.scan.reach.Goals as goal

pub lines-preserved : goal.lines-preserved
lines-preserved c =
    rw (c.behind-place.ensures) (sym (line_more c.lines.place c.lines.rest.now c.in-Some.line.now c.in-Some.behind.now (sym c.in-Some.ensures)) ∙ c.lines.invariant)

pub returns-clause-place : goal.returns-clause-place
returns-clause-place c = ap (λ r. r.place) (sym (line_last c.lines.place c.lines.rest.now (sym c.in_default.ensures)) ∙ c.lines.invariant)

pub returns-clause-line : goal.returns-clause-line
returns-clause-line c = ap (λ r. r.line) (sym (line_last c.lines.place c.lines.rest.now (sym c.in_default.ensures)) ∙ c.lines.invariant)
