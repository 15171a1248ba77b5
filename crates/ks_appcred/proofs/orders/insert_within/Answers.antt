use Rattle.std.proofs.Common.{◌∙◌, ap, map}
use Rattle.std.specs.Arc.{arc_value}
use Rattle.ks_index.proofs.MappedLemmas.{insert_mapped}
use Rattle.ks_appcred.proofs.orders.insert_within.Goals as goal

pub returns : goal.returns
returns g c = ap (map arc_value) c.in-Ok.ensures.items ∙ insert_mapped arc_value c.args.rows.now.items c.args.at c.args.row
