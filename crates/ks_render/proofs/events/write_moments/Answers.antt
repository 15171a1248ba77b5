use Rattle.ks_render.proofs.Steps.{ending}
use Rattle.ks_render.proofs.events.write_moments.Goals as goal

pub returns : goal.returns
returns c = ending _ _ c.write_time-2.result c.in_ok-write_time.ensures c.write_time-2.ensures
