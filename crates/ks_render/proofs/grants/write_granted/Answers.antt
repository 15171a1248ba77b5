use Rattle.ks_render.proofs.Steps.{ending}
use Rattle.ks_render.proofs.grants.write_granted.Goals as goal

pub returns : goal.returns
returns c = ending _ _ c.write_scope.result c.in_ok-write_id_object.ensures c.write_scope.ensures
