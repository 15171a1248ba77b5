use Rattle.std.proofs.Common.{◌≡◌, drop}
use Rattle.ks_rule.specs.Kinds.{value_in}
use Rattle.ks_checks.proofs.filters.value_in.Given as goal

abbrev pub invariant-loop-known : goal.invariant-loop-known
invariant-loop-known l = value_in (drop l.known-index l.known-items) l.name ≡ value_in l.fields l.name
