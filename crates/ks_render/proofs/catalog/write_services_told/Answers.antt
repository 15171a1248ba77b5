use Rattle.std.proofs.Common.{◌≡◌, arith, take}
use Rattle.std.proofs.lemmas.List.{take_all}
use Rattle.ks_render.proofs.Steps.{array}
use Rattle.ks_render.proofs.catalog.write_services_told.Goals as goal

pub returns : goal.returns
returns c =
    let whole : take c.loop-service.service-index c.args.services.now ≡ c.args.services.now =
    take_all c.loop-service.service-index c.args.services.now (omega (arith, c.loop-service-test.false)) in
    array c.end_array.result c.in_ok-begin_array.ensures (rw whole at c.loop-service.invariant) c.end_array.ensures
