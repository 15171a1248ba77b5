use Rattle.std.proofs.Common.{◌≡◌, ℕ, get_or, sym, subst}
use Rattle.ks_index.specs.Indexes.{full_name}
use Rattle.ks_index.specs.Indexes.{AreNamesBut}
use Rattle.ks_index.proofs.NameLemmas.{out_of_names, out_not_gap}
use Rattle.ks_index.proofs.change.take_out.Goals as goal

pub slot_of-requires : goal.slot_of-requires
slot_of-requires g c =
    let row = c.get-row.result.now in
    let key_at = λ (p : ℕ). full_name g.R.Named.within g.R.Named.naming g.R.Row.key (get_or c.args.rows.now p row) in
    c.requires.names.up row

pub unreachable-requires : goal.unreachable-requires
unreachable-requires g c =
    let row = c.get-row.result.now in
    let is = subst (λ (r : _). r ≡ get_or c.args.rows.now c.args.at r) (sym c.get-row.ensures) c.index-rows-at.is in
    let key_at = λ (p : ℕ). full_name g.R.Named.within g.R.Named.naming g.R.Row.key (get_or c.args.rows.now p row) in
    out_not_gap g.R.Named.within g.R.Named.naming g.R.Row.key c.args.rows.now c.args.names.now.items c.args.at c.in-Err.field-0 row c.requires.at is c.requires.names c.in-Err.ensures.place

pub returns-clause-but : goal.returns-clause-but
returns-clause-but g c =
    let row = c.get-row.result.now in
    let is = subst (λ (r : _). r ≡ get_or c.args.rows.now c.args.at r) (sym c.get-row.ensures) c.index-rows-at.is in
    let key_at = λ (p : ℕ). full_name g.R.Named.within g.R.Named.naming g.R.Row.key (get_or c.args.rows.now p row) in
    subst (λ l. AreNamesBut g.R.Named.within g.R.Named.naming g.R.Row.key c.args.rows.now l c.args.at) (sym c.remove-place.ensures.items)
    (out_of_names g.R.Named.within g.R.Named.naming g.R.Row.key c.args.rows.now c.args.names.now.items c.args.at c.in-Ok.slot row c.requires.at is c.requires.names c.in-Ok.ensures.place)
