use Rattle.std.proofs.Common.{map, filter}
use Rattle.std.specs.Arc.{arc_value}
use Rattle.ks_appcred.specs.Orders.{name_of}
use Rattle.ks_appcred.proofs.BothLemmas.{both_filter, both_is}
use Rattle.ks_index.specs.Indexes.{name_cmp}
use Rattle.ks_base.specs.Tables.{id_cmp}
use Rattle.ks_appcred.proofs.two_orders.TwoOrders.keep.Goals as goal

pub invariant_of-self : goal.invariant_of-self
invariant_of-self g c =
    let rows = map arc_value c.self.inside.rows.items in
    let names = map arc_value c.self.inside.names.items in
    let name = λ (row : _). name_of g.R.Named.within g.R.Named.naming row in
    let test = g.T.Test.test c.args.test.now in
    both_is id_cmp g.R.Row.key name_cmp name (filter test rows) (map arc_value c.keep.new.rows.items) (filter test names) (map arc_value c.keep-2.new.rows.items) c.keep.ensures c.keep-2.ensures
    (both_filter id_cmp g.R.Row.key name_cmp name test rows names c.self.invariant)
