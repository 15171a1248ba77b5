use Rattle.std.proofs.Common.{◌∙◌, ap, map, sym}
use Rattle.std.proofs.lemmas.Cmp.{nat_list_cmp_total}
use Rattle.std.specs.Arc.{arc_value}
use Rattle.std.specs.List.{insert}
use Rattle.ks_appcred.specs.Orders.{name_of}
use Rattle.ks_appcred.proofs.BothLemmas.{both_insert, both_is, named_across}
use Rattle.ks_index.specs.Indexes.{name_cmp}
use Rattle.ks_base.specs.Tables.{id_cmp}
use Rattle.ks_index.proofs.NameLemmas.{name_total}
use Rattle.ks_base.proofs.PlaceLemmas.{find_found, put_gap}
use Rattle.ks_appcred.proofs.orders.put_shared.Goals as goal

pub unreachable-requires : goal.unreachable-requires
unreachable-requires g c =
    let rows = map arc_value c.args.rows.now.items in
    let names = map arc_value c.args.names.now.items in
    let home = g.R.Named.within in
    let naming = g.R.Named.naming in
    let key = g.R.Row.key in
    let row = arc_value c.args.row in
    let there = rw (c.as_slice.ensures.value, c.id.ensures, c.deref.ensures) at c.in_default.ensures.place in
    let found = find_found id_cmp key (key row) rows c.in_default.field-0 row there in
    let none = c.requires.new in
    cc

pub unreachable-requires-in_default-name_place : goal.unreachable-requires-in_default-name_place
unreachable-requires-in_default-name_place g c =
    let rows = map arc_value c.args.rows.now.items in
    let names = map arc_value c.args.names.now.items in
    let home = g.R.Named.within in
    let naming = g.R.Named.naming in
    let key = g.R.Row.key in
    let row = arc_value c.args.row in
    let there = rw (c.as_slice-2.ensures.value, c.home.ensures, c.deref-2.ensures, c.as_slice-3.ensures.bytes, c.name.ensures, c.deref-3.ensures) at c.in_default-name_place.ensures.place in
    let found = find_found name_cmp (name_of home naming) (home row, naming row) names c.in_default-name_place.field-0 row there in
    let across = named_across home naming key (home row) (naming row) rows names c.requires.both in
    let none = c.requires.unnamed in
    cc

pub returns-clause-rows : goal.returns-clause-rows
returns-clause-rows g c =
    let rows = map arc_value c.args.rows.now.items in
    let names = map arc_value c.args.names.now.items in
    let home = g.R.Named.within in
    let naming = g.R.Named.naming in
    let key = g.R.Row.key in
    let row = arc_value c.args.row in
    let gap = rw (c.as_slice.ensures.value, c.id.ensures, c.deref.ensures) at c.in-Err.ensures.place in
    c.insert_within.ensures ∙ sym (put_gap id_cmp key row rows c.in-Err.at gap)

pub returns-clause-both : goal.returns-clause-both
returns-clause-both g c =
    let rows = map arc_value c.args.rows.now.items in
    let names = map arc_value c.args.names.now.items in
    let home = g.R.Named.within in
    let naming = g.R.Named.naming in
    let key = g.R.Row.key in
    let row = arc_value c.args.row in
    let gap = rw (c.as_slice.ensures.value, c.id.ensures, c.deref.ensures) at c.in-Err.ensures.place in
    let space = rw (c.as_slice-2.ensures.value, c.home.ensures, c.deref-2.ensures, c.as_slice-3.ensures.bytes, c.name.ensures, c.deref-3.ensures) at c.in-Err-name_place.ensures.place in
    both_is id_cmp key name_cmp (name_of home naming) (insert rows c.in-Err.at row) (map arc_value c.insert_within.new.rows.items) (insert names c.in-Err-name_place.slot row)
    (map arc_value c.insert_within-2.new.rows.items) c.insert_within.ensures (c.insert_within-2.ensures ∙ ap (insert names c.in-Err-name_place.slot) c.requires.same)
    (both_insert id_cmp key name_cmp (name_of home naming) nat_list_cmp_total name_total row rows names c.in-Err.at c.in-Err-name_place.slot c.requires.both gap space)
