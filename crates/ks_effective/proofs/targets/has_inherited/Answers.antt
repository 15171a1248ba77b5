use Rattle.std.proofs.Common.{refl, sym, ap}
use Rattle.std.specs.List.{list_any}
use Rattle.ks_effective.proofs.targets.has_inherited.Goals as goal

pub returns-in-None : goal.returns-in-None
returns-in-None c = ap (list_any (λ row. row.inherited)) (sym (c.in-None.ensures.none.0 refl))
