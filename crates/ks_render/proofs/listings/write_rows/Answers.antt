use Rattle.ks_render.proofs.Steps.{named}
use Rattle.ks_render.proofs.listings.write_rows.Goals as goal

pub returns : goal.returns
returns g c = named _ _ c.write_list.result c.in_ok-key.ensures c.write_list.ensures
