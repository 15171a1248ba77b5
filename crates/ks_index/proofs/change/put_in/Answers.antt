use Rattle.std.proofs.Common.{◌≡◌, ℕ, get_or, sym, subst}
use Rattle.ks_index.specs.Indexes.{full_name}
use Rattle.ks_index.specs.Indexes.{AreNamesOf}
use Rattle.ks_index.proofs.NameLemmas.{put_into_names, put_not_found}
use Rattle.ks_index.proofs.change.put_in.Goals as goal

pub slot_of-requires : goal.slot_of-requires
slot_of-requires g c =
    let row = c.get-row.result.now in
    let key_at = λ (p : ℕ). full_name g.R.Named.within g.R.Named.naming g.R.Row.key (get_or c.args.rows.now p row) in
    c.requires.but.up row

pub unreachable-requires : goal.unreachable-requires
unreachable-requires g c =
    let row = c.get-row.result.now in
    let is = subst (λ (r : _). r ≡ get_or c.args.rows.now c.args.at r) (sym c.get-row.ensures) c.index-rows-at.is in
    let key_at = λ (p : ℕ). full_name g.R.Named.within g.R.Named.naming g.R.Row.key (get_or c.args.rows.now p row) in
    put_not_found g.R.Named.within g.R.Named.naming g.R.Row.key c.args.rows.now c.args.names.now.items c.args.at c.in-Ok.field-0 row c.requires.at is c.requires.unlike c.requires.but
    c.in-Ok.ensures.bound c.in-Ok.ensures.place

pub returns : goal.returns
returns g c =
    let row = c.get-row.result.now in
    let is = subst (λ (r : _). r ≡ get_or c.args.rows.now c.args.at r) (sym c.get-row.ensures) c.index-rows-at.is in
    let key_at = λ (p : ℕ). full_name g.R.Named.within g.R.Named.naming g.R.Row.key (get_or c.args.rows.now p row) in
    subst (λ l. AreNamesOf g.R.Named.within g.R.Named.naming g.R.Row.key c.args.rows.now l) (sym c.insert.ensures)
    (put_into_names g.R.Named.within g.R.Named.naming g.R.Row.key c.args.rows.now c.args.names.now.items c.args.at c.in-Err.slot row c.requires.at is c.requires.but c.in-Err.ensures.place)
