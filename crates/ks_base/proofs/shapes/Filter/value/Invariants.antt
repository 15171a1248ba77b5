use Rattle.std.proofs.Common.{◌≡◌, drop}
use Rattle.ks_base.specs.Filters.{value_in}
use Rattle.ks_base.proofs.shapes.Filter.value.Given as goal

abbrev pub invariant-loop-known : goal.invariant-loop-known
invariant-loop-known l = value_in (drop l.known-index l.known-items) l.name ≡ value_in l.self.fields l.name
