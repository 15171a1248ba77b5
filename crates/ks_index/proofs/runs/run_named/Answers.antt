use Rattle.std.proofs.Common.{ℕ, ◌-◌, ◌≤◌, ◌∙◌, arith, get_or, length}
use Rattle.ks_index.proofs.RunLemmas.{name_run, places_ascend, places_cmp, run_places}
use Rattle.ks_base.specs.Tables.{id_cmp}
use Rattle.ks_base.proofs.RunLemmas.{in_order, parted_before, parted_within, run_is}
use Rattle.ks_index.proofs.runs.run_named.Goals as goal

pub range-requires-clause-order : goal.range-requires-clause-order
range-requires-clause-order g c =
    let rows = c.args.rows.now in
    let places = c.args.places.now.items in
    let other = c.args.other.now in
    let home = g.R.Named.within in
    let naming = g.R.Named.naming in
    let key = g.R.Row.key in
    let cmp = places_cmp home naming key rows other in
    let side = λ (p : ℕ). id_cmp (naming (get_or rows p other)) c.args.name.now in
    let run = name_run home naming key rows other c.args.name.now in
    let up = places_ascend home naming key rows other places c.requires in
    let low = c.begin_of.ensures.parted (parted_before cmp side run places up) in
    let high = c.end_of.ensures.parted (parted_within cmp side run places up) in
    in_order side places c.begin_of.result c.end_of.result c.begin_of.ensures.bound (λ k d lt. low.0 k d (omega arith) lt) (λ k d le lt. high.1 k d le lt)

pub returns : goal.returns
returns g c =
    let rows = c.args.rows.now in
    let places = c.args.places.now.items in
    let other = c.args.other.now in
    let home = g.R.Named.within in
    let naming = g.R.Named.naming in
    let key = g.R.Row.key in
    let cmp = places_cmp home naming key rows other in
    let side = λ (p : ℕ). id_cmp (naming (get_or rows p other)) c.args.name.now in
    let run = name_run home naming key rows other c.args.name.now in
    let up = places_ascend home naming key rows other places c.requires in
    let low = c.begin_of.ensures.parted (parted_before cmp side run places up) in
    let high = c.end_of.ensures.parted (parted_within cmp side run places up) in
    let first = c.begin_of.result in
    let end = c.end_of.result in
    let ordered : first ≤ end = in_order side places first end c.begin_of.ensures.bound (λ k d lt. low.0 k d (omega arith) lt) (λ k d le lt. high.1 k d le lt) in
    let fits : end ≤ length places = c.end_of.ensures.bound in
    c.range.ensures ∙ run_is side places first (end - first) (omega (arith, ordered, fits)) (λ k d lt. low.0 k d (omega arith) lt) (λ k d le lt. low.1 k d le lt)
    (λ k d lt. high.0 k d (omega arith) (omega (arith, ordered))) (λ k d le lt. high.1 k d (omega (arith, ordered)) lt)
    ∙ run_places naming rows other c.args.name.now places
