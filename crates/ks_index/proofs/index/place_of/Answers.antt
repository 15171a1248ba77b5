use Rattle.std.proofs.Common.{get_or}
use Rattle.std.proofs.lemmas.Cmp.{nat_list_cmp_total}
use Rattle.ks_base.specs.Tables.{id_cmp}
use Rattle.ks_base.proofs.PlaceLemmas.{searched_place}
use Rattle.ks_index.proofs.index.place_of.Goals as goal

pub returns-clause-place : goal.returns-clause-place
returns-clause-place g c =
    let key = λ (place : _). g.R.Row.key (get_or c.args.rows.now place c.args.other.now) in
    searched_place id_cmp key nat_list_cmp_total c.args.id.now c.args.ids.now.items c.search.result c.requires c.search.ensures.bound c.search.ensures.position
