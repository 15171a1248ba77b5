use Rattle.std.proofs.Common.{rules}
use Rattle.std.proofs.lemmas.Cmp.{nat_list_cmp_total}
use Rattle.std.proofs.lemmas.Fn.{always_returns_same}
use Rattle.ks_base.specs.Tables.{id_cmp}
use Rattle.ks_base.proofs.PlaceLemmas.{searched_place}
use Rattle.ks_policy.proofs.place.place.Goals as goal

pub returns-clause-place : goal.returns-clause-place
returns-clause-place g c =
    searched_place id_cmp g.R.HasName.naming nat_list_cmp_total c.args.name.now c.args.rows.now c.binary_search_by.result c.requires c.binary_search_by.ensures.bound
    (c.binary_search_by.ensures.position (λ row. id_cmp (g.R.HasName.naming row) c.args.name.now) (always_returns_same _ _ _ (λ a r f called. (search rules, search rules))))
