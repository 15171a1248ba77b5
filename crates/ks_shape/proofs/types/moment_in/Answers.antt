use Rattle.std.proofs.Common.{refl}
use Rattle.ks_shape.proofs.TimeLemmas.{read_moment, no_moment}
use Rattle.ks_shape.proofs.types.moment_in.Goals as goal

pub returns-in-Some : goal.returns-in-Some
returns-in-Some c = rw (← c.as_bytes.ensures.value) (read_moment _ _ c.in-Some.ensures.some)

pub returns-in-None : goal.returns-in-None
returns-in-None c = rw (← c.as_bytes.ensures.value) (no_moment _ (c.in-None.ensures.none refl))
