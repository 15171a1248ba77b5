use Rattle.std.proofs.Common.{◌≡◌, arith, take}
use Rattle.std.proofs.lemmas.List.{take_all}
use Rattle.ks_render.proofs.Steps.{array}
use Rattle.ks_render.proofs.catalog.write_endpoints_told.Goals as goal

pub returns : goal.returns
returns c =
    let whole : take c.loop-endpoint.endpoint-index c.args.endpoints.now ≡ c.args.endpoints.now =
    take_all c.loop-endpoint.endpoint-index c.args.endpoints.now (omega (arith, c.loop-endpoint-test.false)) in
    array c.end_array.result c.in_ok-begin_array.ensures (rw whole at c.loop-endpoint.invariant) c.end_array.ensures
