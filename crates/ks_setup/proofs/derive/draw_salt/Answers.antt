use Rattle.std.proofs.Common.{refl, rules}
use Rattle.ks_setup.proofs.DrawLemmas.{drew_piece}
use Rattle.ks_setup.proofs.derive.draw_salt.Goals as goal

pub returns : goal.returns
returns g c = (
  c.fill.new.into,
  search rules,
  refl,
  drew_piece (g.P.Desk.desk c.args.desk.now) (g.P.Desk.desk c.fill.new.self) c.fill.new.into c.in_ok-fill.ensures.told c.fill.ensures.kept
      c.fill.ensures.faults.kept (search rules) c.fill.ensures.calls,
)
