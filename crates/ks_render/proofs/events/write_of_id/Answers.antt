use Rattle.ks_render.proofs.Steps.{ending}
use Rattle.ks_render.proofs.events.write_of_id.Goals as goal

pub returns : goal.returns
returns c = ending _ _ c.write_moments.result c.in_ok-write_id.ensures c.write_moments.ensures
