use Rattle.std.proofs.Common.{◌≡◌, length, map, rules, sym, ap, get_or, ◌∙◌, ℕ}
use Rattle.ks_base.proofs.ListLemmas.{map_twice}
use Rattle.ks_index.proofs.PickLemmas.{empty_picked, picked_is}
use Rattle.ks_index.proofs.runs.ids_at.Goals as goal

pub returns-in_default : goal.returns-in_default
returns-in_default g c =
    let none : length c.args.rows.now ≡ 0 = search rules in
    c.new.ensures ∙ sym (ap (map g.R.Row.key) (empty_picked c.args.rows.now c.args.places.now.items none c.requires))

pub returns : goal.returns
returns g c =
    let other = c.get.result.now in
    c.from_vec.ensures ∙ c.in_ok-ids.ensures ∙ ap (map (λ (p : ℕ). g.R.Row.key (get_or c.args.rows.now p other))) c.iter.ensures ∙ sym (map_twice g.R.Row.key (λ (p : ℕ). get_or c.args.rows.now p other) c.args.places.now.items)
    ∙ ap (map g.R.Row.key) (sym (picked_is c.args.rows.now c.args.places.now.items other c.requires))
