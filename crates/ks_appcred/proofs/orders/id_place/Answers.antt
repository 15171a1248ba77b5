use Rattle.std.proofs.Common.{rules}
use Rattle.std.proofs.lemmas.Cmp.{nat_list_cmp_total}
use Rattle.std.proofs.lemmas.Fn.{always_returns_same}
use Rattle.std.specs.Arc.{arc_value}
use Rattle.ks_appcred.proofs.MappedLemmas.{ascending_unmapped}
use Rattle.ks_index.proofs.MappedLemmas.{place_mapped}
use Rattle.ks_base.specs.Tables.{id_cmp}
use Rattle.ks_base.proofs.PlaceLemmas.{searched_place}
use Rattle.ks_appcred.proofs.orders.id_place.Goals as goal

pub returns-clause-place : goal.returns-clause-place
returns-clause-place g c =
    let rows = c.args.rows.now in
    let id = c.args.id.now in
    place_mapped id_cmp g.R.Row.key arc_value id rows c.binary_search_by.result
    (searched_place id_cmp (λ row. g.R.Row.key (arc_value row)) nat_list_cmp_total id rows c.binary_search_by.result (ascending_unmapped id_cmp g.R.Row.key arc_value rows c.requires)
    c.binary_search_by.ensures.bound (c.binary_search_by.ensures.position (λ row. id_cmp (g.R.Row.key (arc_value row)) id) (always_returns_same _ _ _ (λ a r f called. (search rules, search rules)))))
