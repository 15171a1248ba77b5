use Rattle.std.proofs.Common.{◌≡◌, ℕ, List, length, ◌∙◌, ap, filter, get_or, map, rules, subst, sym}
use Rattle.std.specs.Prelude.{◌↔◌}
use Rattle.ks_index.specs.Indexes.{full_cmp, full_name}
use Rattle.ks_index.proofs.PickLemmas.{none_listed}
use Rattle.ks_index.proofs.RunLemmas.{ids_of_places}
use Rattle.ks_base.specs.Rows.{Id, same}
use Rattle.ks_base.specs.Tables.{Among}
use Rattle.ks_index.proofs.runs.ids_named.Goals as goal

pub run_named-run-requires : goal.run_named-run-requires
run_named-run-requires g c = c.requires.up c.get-other.result.now

pub returns : goal.returns
returns g c listed list =
    let key = g.R.Row.key in
    let rows = c.args.rows.now in
    let other = c.get-other.result.now in
    let test = λ (row : _). same (g.R.Named.naming row) c.args.name.now in
    let ids = c.in_ok-ids.ids.items in
    let are = c.in_ok-left.ensures ∙ ap (map (λ (p : ℕ). key (get_or rows p other))) c.run_named-run.ensures in
    c.from_vec.ensures
    ∙ ids_of_places full_cmp (full_name g.R.Named.within g.R.Named.naming key) key test rows listed c.args.places.now.items other ids c.requires list
    c.in_ok-ids.ensures.ascending (λ id. subst (λ (l : List Id). Among ids id ↔ Among l id) are (c.in_ok-ids.ensures.same id))

pub returns-in_default : goal.returns-in_default
returns-in_default g c listed list =
    let none : length c.args.rows.now ≡ 0 = search rules in
    c.new.ensures ∙ sym (ap (λ (l : List _). map g.R.Row.key (filter (λ row. same (g.R.Named.naming row) c.args.name.now) l)) (none_listed g.R.Row.key c.args.rows.now listed none list))
