use Rattle.std.proofs.Common.{◌≡◌}
use Rattle.std.specs.List.{list_any}
use Rattle.ks_base.specs.Rows.{same}
use Rattle.ks_relations.proofs.effective.none_is_member.Given as goal

abbrev pub invariant-loop-row : goal.invariant-loop-row
invariant-loop-row l = list_any (λ row. same row.user l.user) l.row-iterator ≡ list_any (λ row. same row.user l.user) l.fn.members
