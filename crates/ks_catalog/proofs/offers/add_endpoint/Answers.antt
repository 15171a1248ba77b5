use Rattle.std.proofs.Common.{sym}
use Rattle.std.proofs.lemmas.Result.{on_ok_weaker}
use Rattle.ks_catalog.proofs.OfferLemmas.{disabled, told_there, untold}
use Rattle.ks_catalog.proofs.offers.add_endpoint.Goals as goal

pub returns-then-not-row : goal.returns-then-not-row
returns-then-not-row c =
    sym (disabled c.args.row.now c.args.services.now c.if-not-row.true)

pub returns-in-Ok : goal.returns-in-Ok
returns-in-Ok c =
    on_ok_weaker c.push_endpoint.result
    (told_there c.args.row.now c.args.services.now c.in-Ok.at c.index-services-at.result c.push_endpoint.new.made
    c.if-not-row.false c.requires c.in-Ok.ensures.place) c.push_endpoint.ensures

pub returns-in-Err : goal.returns-in-Err
returns-in-Err c = sym (untold c.args.row.now c.args.services.now c.in-Err.field-0 c.in-Err.ensures.place)
