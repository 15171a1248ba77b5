use Rattle.std.proofs.Common.{rules}
use Rattle.std.proofs.lemmas.Fn.{always_returns_same}
use Rattle.std.specs.Arc.{arc_value}
use Rattle.ks_appcred.specs.Orders.{name_of}
use Rattle.ks_appcred.proofs.MappedLemmas.{ascending_unmapped}
use Rattle.ks_index.proofs.MappedLemmas.{place_mapped}
use Rattle.ks_index.specs.Indexes.{name_cmp}
use Rattle.ks_index.proofs.NameLemmas.{name_total}
use Rattle.ks_base.proofs.PlaceLemmas.{searched_place}
use Rattle.ks_appcred.proofs.orders.name_place.Goals as goal

pub returns-clause-place : goal.returns-clause-place
returns-clause-place g c =
    let names = c.args.names.now in
    let key = λ (row : _). name_of g.R.Named.within g.R.Named.naming row in
    place_mapped name_cmp key arc_value (c.args.home.now, c.args.name.now) names c.binary_search_by.result
    (searched_place name_cmp (λ row. key (arc_value row)) name_total (c.args.home.now, c.args.name.now) names c.binary_search_by.result (ascending_unmapped name_cmp key arc_value names c.requires)
    c.binary_search_by.ensures.bound (c.binary_search_by.ensures.position (λ row. name_cmp (key (arc_value row)) (c.args.home.now, c.args.name.now)) (always_returns_same _ _ _ (λ a r f called. (search rules, search rules)))))
