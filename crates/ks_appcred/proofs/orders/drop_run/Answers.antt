use Rattle.std.proofs.Common.{List, ◌∙◌, ap, arith, length, map, not, subst, sym}
use Rattle.std.proofs.lemmas.Cmp.{nat_list_cmp_total}
use Rattle.std.proofs.lemmas.List.{length-map}
use Rattle.std.specs.Arc.{arc_value}
use Rattle.std.specs.List.{filter}
use Rattle.ks_appcred.specs.Orders.{name_of}
use Rattle.ks_appcred.proofs.BothLemmas.{fewer_dropped, filter_dropped, none_of_home}
use Rattle.ks_index.specs.Indexes.{name_cmp}
use Rattle.ks_base.specs.OrderLaws.{id_exact}
use Rattle.ks_base.specs.Rows.{Id, same}
use Rattle.ks_base.specs.Tables.{Among, drop_row, id_cmp}
use Rattle.ks_appcred.proofs.orders.drop_run.Goals as goal

pub loop-id-smaller : goal.loop-id-smaller
loop-id-smaller g c =
    let rows = map arc_value c.loop-id.rows.items in
    let key = g.R.Row.key in
    let one = c.in-Some.ensures.some in
    let named = subst (λ (l : List _). Among (map arc_value l) one.0) c.as_slice.ensures.value one.1 in
    let among = c.loop-id.invariant.both.back one.0 named in
    let e = c.take_out.ensures.rows ∙ ap (λ (k : Id). drop_row id_cmp key k rows) (sym one.2) in
    let less = fewer_dropped id_cmp key nat_list_cmp_total one.0 rows among in
    omega (arith, less, ap length e, length-map c.take_out.new.rows.items arc_value, length-map c.loop-id.rows.items arc_value)

pub loop-id-preserved : goal.loop-id-preserved
loop-id-preserved g c =
    let rows = map arc_value c.loop-id.rows.items in
    let key = g.R.Row.key in
    let one = c.in-Some.ensures.some in
    let named = subst (λ (l : List _). Among (map arc_value l) one.0) c.as_slice.ensures.value one.1 in
    let among = c.loop-id.invariant.both.back one.0 named in
    let e = c.take_out.ensures.rows ∙ ap (λ (k : Id). drop_row id_cmp key k rows) (sym one.2) in
    let fails = λ (row : _). same (g.R.Named.within row) c.args.home.now in record {
      both = c.take_out.ensures.both;
      left = ap (filter (λ row. not (fails row))) e ∙ filter_dropped id_cmp key fails nat_list_cmp_total id_exact one.0 rows c.loop-id.invariant.both.up among one.3
          ∙ c.loop-id.invariant.left;
    }

pub returns-clause-rows : goal.returns-clause-rows
returns-clause-rows g c =
    let names = map arc_value c.loop-id.names.items in
    let passes = λ (x : _) (among : Among names x). c.in_default.ensures.none x (subst (λ (l : List _). Among (map arc_value l) x) (sym c.as_slice.ensures.value) among) in
    sym (none_of_home id_cmp g.R.Row.key name_cmp (name_of g.R.Named.within g.R.Named.naming) (λ row. same (g.R.Named.within row) c.args.home.now) (map arc_value c.loop-id.rows.items) names
    c.loop-id.invariant.both passes)
    ∙ c.loop-id.invariant.left
