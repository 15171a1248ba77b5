use Rattle.std.proofs.Common.{◌∙◌, ap, map, rules}
use Rattle.std.proofs.lemmas.Fn.{filter_same}
use Rattle.std.specs.Arc.{arc_value}
use Rattle.ks_appcred.proofs.MappedLemmas.{filter_mapped}
use Rattle.ks_appcred.proofs.orders.keep.Goals as goal

pub returns : goal.returns
returns g c =
    let test = g.T.Test.test c.args.test.now in
    let e = filter_same _ (λ row. test (arc_value row)) _ (λ x b f called. (search rules, search rules)) _ _ c.retain.ensures.filtered in
    ap (map arc_value) e ∙ filter_mapped arc_value test c.args.rows.now.items
