use Rattle.std.proofs.Common.{◌≡◌, drop}
use Rattle.ks_rule.specs.Kinds.{value_in}
use Rattle.ks_routes.proofs.query.value_in.Given as goal

abbrev pub invariant-loop-other : goal.invariant-loop-other
invariant-loop-other l = value_in (drop l.other-index l.fields) l.name ≡ value_in l.fields l.name
