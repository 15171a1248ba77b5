use Rattle.std.proofs.Common.{◌≡◌, [], ◌++◌, ap, ◌∙◌, arith}
use Rattle.std.proofs.lemmas.Bool.Decides.{nat_tests}
use Rattle.ks_links.specs.RunSets.{all_rows}
use Rattle.ks_links.proofs.SlotLemmas.{begun_is, none_is}
use Rattle.ks_links.proofs.rows.begun.Goals as goal

pub returns-in-Some-clause-rows : goal.returns-in-Some-clause-rows
returns-in-Some-clause-rows g c =
    let none : c.args.rows.now ≡ [] = none_is c.args.rows.now (grind (arith, nat_tests)) in
    ap (λ l. l ++ all_rows c.next.new.self) c.rows.ensures.rows ∙ begun_is c.args.rows.now c.in-Some.run'.now c.args.runs.now c.next.new.self none c.in-Some.ensures.steps
