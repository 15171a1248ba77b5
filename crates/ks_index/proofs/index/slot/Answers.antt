use Rattle.std.proofs.Common.{get_or}
use Rattle.ks_index.specs.Indexes.{full_cmp, full_name}
use Rattle.ks_index.proofs.NameLemmas.{full_total}
use Rattle.ks_base.proofs.PlaceLemmas.{searched_place}
use Rattle.ks_index.proofs.index.slot.Goals as goal

pub returns-clause-place : goal.returns-clause-place
returns-clause-place g c =
    let key = λ (place : _). full_name g.R.Named.within g.R.Named.naming g.R.Row.key (get_or c.args.rows.now place c.args.other.now) in
    searched_place full_cmp key full_total ((c.args.name.now, c.args.home.now), c.args.id.now) c.args.places.now.items c.search.result c.requires c.search.ensures.bound c.search.ensures.position
