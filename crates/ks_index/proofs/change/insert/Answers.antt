use Rattle.std.proofs.Common.{◌≡◌, ℕ, List, length, sym, ap, subst, ◌∙◌, rules}
use Rattle.std.specs.List.{insert}
use Rattle.std.proofs.lemmas.Cmp.{nat_list_cmp_total}
use Rattle.ks_base.specs.Tables.{id_cmp}
use Rattle.ks_index.specs.Indexes.{AreNamesBut, AreUnlike, IsIndex, full_cmp, full_name, picked}
use Rattle.ks_index.proofs.IndexLemmas.{pushed_index}
use Rattle.ks_index.proofs.PickLemmas.{index_insert, index_unlike, picked_insert}
use Rattle.ks_index.proofs.change.insert.Goals as goal

pub put_in-requires-clause-unlike : goal.put_in-requires-clause-unlike
put_in-requires-clause-unlike g c =
    let rows = c.args.rows.now.items in
    let behind : c.len-behind.result ≡ length rows = search rules in
    let are = c.as_slice-2.ensures.value ∙ c.in_ok-insert.ensures.ok ∙ ap (λ k. insert rows k c.args.row) behind in
    let index = index_insert id_cmp g.R.Row.key nat_list_cmp_total rows c.args.ids.now.items c.args.at c.args.row c.requires.ids c.requires.gap in
    subst (λ l. AreUnlike g.R.Row.key l) (sym are)
    (index_unlike id_cmp g.R.Row.key nat_list_cmp_total (insert rows (length rows) c.args.row) (insert c.args.ids.now.items c.args.at (length rows)) index)

pub put_in-requires-clause-but : goal.put_in-requires-clause-but
put_in-requires-clause-but g c =
    let rows = c.args.rows.now.items in
    let names = c.args.names.now.items in
    let behind : c.len-behind.result ≡ length rows = search rules in
    let are = c.as_slice-2.ensures.value ∙ c.in_ok-insert.ensures.ok ∙ ap (λ k. insert rows k c.args.row) behind in
    let place : c.in_ok-place.place ≡ length rows = c.in_ok-place.ensures ∙ ap length c.as_slice.ensures.value in
    let but = AreNamesBut g.R.Named.within g.R.Named.naming g.R.Row.key in
    subst (λ l. but l c.reserve-2.new.self.items c.in_ok-place.place) (sym are)
    (subst (λ l. but (insert rows (length rows) c.args.row) l c.in_ok-place.place) (sym c.reserve-2.ensures.items)
    (subst (λ p. but (insert rows (length rows) c.args.row) names p) (sym place)
    (pushed_index full_cmp (full_name g.R.Named.within g.R.Named.naming g.R.Row.key) rows names c.args.row c.requires.names)))

pub returns-clause-ok : goal.returns-clause-ok
returns-clause-ok g c =
    let rows = c.args.rows.now.items in
    let ids = c.args.ids.now.items in
    let behind : c.len-behind.result ≡ length rows = search rules in
    let are = c.in_ok-insert.ensures.ok ∙ ap (λ k. insert rows k c.args.row) behind in
    let place : c.in_ok-place.place ≡ length rows = c.in_ok-place.ensures ∙ ap length c.as_slice.ensures.value in
    let there = c.insert-2.ensures ∙ ap (λ (l : List ℕ). insert l c.args.at c.in_ok-place.place) c.reserve.ensures.items ∙ ap (insert ids c.args.at) place in
    let index = index_insert id_cmp g.R.Row.key nat_list_cmp_total rows ids c.args.at c.args.row c.requires.ids c.requires.gap in
    ap (λ l. picked l c.insert-2.new.self.items) are ∙ ap (picked (insert rows (length rows) c.args.row)) there
    ∙ picked_insert rows ids c.args.at c.args.row c.requires.ids.within index.within

pub returns-clause-ids : goal.returns-clause-ids
returns-clause-ids g c =
    let rows = c.args.rows.now.items in
    let ids = c.args.ids.now.items in
    let behind : c.len-behind.result ≡ length rows = search rules in
    let are = c.in_ok-insert.ensures.ok ∙ ap (λ k. insert rows k c.args.row) behind in
    let place : c.in_ok-place.place ≡ length rows = c.in_ok-place.ensures ∙ ap length c.as_slice.ensures.value in
    let there = c.insert-2.ensures ∙ ap (λ (l : List ℕ). insert l c.args.at c.in_ok-place.place) c.reserve.ensures.items ∙ ap (insert ids c.args.at) place in
    let index = index_insert id_cmp g.R.Row.key nat_list_cmp_total rows ids c.args.at c.args.row c.requires.ids c.requires.gap in
    subst (λ l. IsIndex id_cmp g.R.Row.key l c.insert-2.new.self.items) (sym are)
    (subst (λ l. IsIndex id_cmp g.R.Row.key (insert rows (length rows) c.args.row) l) (sym there) index)
