use Rattle.std.proofs.Common.{◌≡◌, drop}
use Rattle.ks_rule.specs.Filling.{filled}
use Rattle.ks_rule.specs.Truth.{has_role}
use Rattle.ks_rule.proofs.truth.has_role.Given as goal

abbrev pub invariant-loop-name : goal.invariant-loop-name
invariant-loop-name l = has_role (drop l.name-index l.name-items) (filled l.target l.text) ≡ has_role l.roles (filled l.target l.text)
