use Rattle.ks_render.proofs.Steps.{ending}
use Rattle.ks_render.proofs.events.write_of_user.Goals as goal

pub returns : goal.returns
returns c = ending _ _ c.write_id.result c.in_ok-write_moments.ensures c.write_id.ensures
