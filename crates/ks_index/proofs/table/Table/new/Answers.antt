use Rattle.std.proofs.Common.{length, ap}
use Rattle.ks_index.proofs.PickLemmas.{nothing_picked}
use Rattle.ks_index.proofs.table.Table.new.Goals as goal

pub returns : goal.returns
returns g c = nothing_picked c.new.result.items c.new-2.result.items (ap length c.new-2.ensures)
