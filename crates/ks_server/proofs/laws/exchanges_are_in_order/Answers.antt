use Rattle.ks_server.proofs.LawLemmas.{moves_in_order, order_stays, receipts_are_placed}
use Rattle.ks_server.proofs.laws.exchanges_are_in_order.Goals as goal

pub returns-clause-moves : goal.returns-clause-moves
returns-clause-moves c = moves_in_order

pub returns-clause-places : goal.returns-clause-places
returns-clause-places c = receipts_are_placed

pub returns-clause-stays : goal.returns-clause-stays
returns-clause-stays c = order_stays
