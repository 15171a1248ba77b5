use Rattle.std.proofs.Common.{◌≡◌, length, rules}
use Rattle.std.proofs.Common.{Greater}
use Rattle.ks_base.specs.Tables.{id_cmp}
use Rattle.ks_index.proofs.PickLemmas.{none_picked, picked_place}
use Rattle.ks_index.proofs.index.place_among.Goals as goal

pub place_of-requires : goal.place_of-requires
place_of-requires g c = c.requires.up _

pub returns-in-Some-clause-place : goal.returns-in-Some-clause-place
returns-in-Some-clause-place g c =
    picked_place id_cmp g.R.Row.key c.args.id.now c.args.rows.now c.args.ids.now.items c.get.result.now c.place_of.result c.requires.within c.place_of.ensures.place

pub returns-in-None-clause-place : goal.returns-in-None-clause-place
returns-in-None-clause-place g c =
    let none : length c.args.rows.now ≡ 0 = search rules in
    none_picked (λ row. id_cmp (g.R.Row.key row) c.args.id.now ≡ Greater) c.args.rows.now c.args.ids.now.items none c.requires.within
