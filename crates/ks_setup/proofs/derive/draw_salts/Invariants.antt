use Rattle.ks_setup.proofs.DrawLemmas.{Drawing}
use Rattle.ks_setup.proofs.derive.draw_salts.Given as goal

abbrev pub invariant-loop : goal.invariant-loop
invariant-loop g l = Drawing l.count l.counter l.salts.items (g.P.Desk.desk l.fn.desk) (g.P.Desk.desk l.desk)
