use Rattle.std.proofs.Common.{◌∙◌, ap, length, map, sym, take}
use Rattle.ks_base.specs.declared.catalog.EndpointRow.{EndpointRow}
use Rattle.ks_catalog.specs.steps.Offers.{with_endpoint}
use Rattle.ks_catalog.proofs.OfferLemmas.{none_yet, one_more, services_ascend}
use Rattle.ks_catalog.proofs.offers.offers_of.Goals as goal

pub loop-row-init : goal.loop-row-init
loop-row-init c = c.in_ok-made.ensures ∙ none_yet c.args.rows.now

pub add_endpoint-requires : goal.add_endpoint-requires
add_endpoint-requires c =
    rw (c.as_mut_slice.ensures.value, c.loop-row.invariant)
    (services_ascend (take c.loop-row.row-index c.args.endpoints.now) c.args.rows.now c.requires)

pub loop-row-preserved : goal.loop-row-preserved
loop-row-preserved c =
    let told = c.in_ok-add_endpoint.ensures ∙ ap (λ (row : EndpointRow). map (with_endpoint row) c.as_mut_slice.result.now) c.get.ensures in
    one_more c.args.endpoints.now c.args.rows.now c.loop-row.row-index c.row-item.result c.loop-row.made.len c.loop-row.made.items
    c.add_endpoint.new.services c.loop-row-test.true c.row-item.is (sym (ap length c.as_mut_slice.ensures.value) ∙ c.as_mut_slice.ensures.len)
    c.loop-row.invariant (told ∙ ap (map (with_endpoint c.row-item.result)) c.as_mut_slice.ensures.value)
