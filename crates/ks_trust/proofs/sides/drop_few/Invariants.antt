use Rattle.std.proofs.Common.{◌≡◌, drop}
use Rattle.ks_base.specs.Tables.{id_cmp, IsAscending}
use Rattle.ks_trust.specs.Sides.{AreSides}
use Rattle.ks_trust.specs.State.{without_trusts}
use Rattle.ks_trust.proofs.sides.drop_few.Given as goal

abbrev pub invariant-loop-id : goal.invariant-loop-id
invariant-loop-id l = record {
  up : IsAscending id_cmp (λ row. row.id) l.rows.items;
  are : AreSides l.rows.items l.index;
  rest : without_trusts (drop l.id-index l.ids) l.rows.items ≡ without_trusts l.ids l.initial.rows.items;
}
