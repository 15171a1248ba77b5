-- What a SELECT by number shows.
use Rattle.std.proofs.Common.{◌≡◌, ℕ, ◌≤◌, ℤ, List, [], ◌∷◌, map, filter, Ok, Err, Result, IfOk, IfErr, IsPermutation, refl, sym, ap, subst, subst₂, ◌∙◌}
use Rattle.std.proofs.lemmas.List.Sorted.{IsPermutation-map}
use Rattle.sqlite_value.specs.declared.value.Value.TheVariants.{Int}
use Rattle.sqlite_value.specs.declared.keys.Collation.TheVariants.{Binary}
use Rattle.sqlite_value.specs.Order.{Row, column}
use Rattle.sqlite_trees.specs.Tree.{Trees, has_rowid}
use Rattle.sqlite_trees.specs.View.{doubt}
use Rattle.sqlite_sql.specs.declared.ops.BinaryOp.TheVariants.{Compare}
use Rattle.sqlite_sql.specs.declared.ops.CompareOp.TheVariants.{Eq}
use Rattle.sqlite_sql.specs.Ops.{binary, is_true}
use Rattle.sqlite_sql.specs.Term.{Env}
use Rattle.sqlite_sql.specs.Query.{IsAnswer, Output, output, page}
use Rattle.sqlite_sql.specs.Program.{overlay}
use Rattle.sqlite.specs.declared.error.Error.{Error}
use Rattle.sqlite.specs.Listing.{understood}
use Rattle.sqlite.specs.State.{State, IsUnchanged, Shown, FailsToQuery}
use Rattle.sqlite.proofs.Callers.{IsPlain, reads_as}
use Rattle.ks_keeper.specs.declared.shelf.Shelf.{Shelf}
use Rattle.ks_keeper.specs.declared.shelf.Shelf.TheVariants.{Entries, Header}
use Rattle.ks_keeper.specs.Book.{tree_of, book_schema, select_text, shown, rows_at, IsWhole, IsSettled, IsReady, Moves}
use Rattle.ks_keeper.proofs.Texts.{query, select_is, select_plain, unlisted}
use Rattle.ks_keeper.proofs.RowLemmas.{compares, flat_filter}
use Rattle.ks_keeper.proofs.StateLemmas.{IsSpared, unchanged_spares, unread_open, unread_spares, shown_open, ready_at}

-- a query with no RETURNING changes nothing
shown_same : (sql : List ℕ) (params : Row) (old new : State) (rows : List Row) → IsPlain (understood old.now.schema sql) → Shown sql params old new rows → IsUnchanged old new
unfolding Shown
shown_same sql params old new rows plain h = let bare = subst IsPlain h.1.is plain in (rw bare.0 at h.2).3

overlay_is : (shelf : Shelf) (db : Trees) → overlay db [] (tree_of shelf) ≡ db (tree_of shelf)
overlay_is Entries db = refl
overlay_is Header db = refl

page_is : (shelf : Shelf) (params : Row) (rows : List Row) → page (query shelf) params rows ≡ rows
page_is shelf params [] = refl
page_is shelf params (r ∷ rows) = refl

abbrev env : Row → Row → Env
env params r = params ∷ r ∷ []

output_is : (shelf : Shelf) (params : Row) (rows : List Row) → map (λ (o : Output). o.1) (map (output (query shelf)) (map (env params) rows)) ≡ map shown rows
output_is shelf params [] = refl
output_is shelf params (r ∷ rows) = ap (λ more. shown r ∷ more) (output_is shelf params rows)

pub finds : (shelf : Shelf) (n : ℤ) (old new : State) (rows : List Row) → IsSettled old → Shown (select_text shelf) (Int n ∷ []) old new rows
    → IsPermutation (map shown (rows_at shelf old.now.trees n)) rows × IsUnchanged old new
finds shelf n old new rows was h =
    let params : Row = Int n ∷ [] in
    let q = query shelf in
    let read = reads_as (select_text shelf) params old new book_schema was.schema _ (select_is shelf) (select_plain shelf) (unlisted shelf) rows h in
    let a : IsAnswer q (overlay old.now.trees []) params rows = read.answer Rattle.sqlite_value.specs.declared.value.Value.TheVariants.Null in
    let test = λ (r : Row). is_true (binary (Compare Eq Binary) (column r 0) (Int n)) in
    let staged : a.staged ≡ map (env params) (rows_at shelf old.now.trees n) =
    a.grouped ∙ flat_filter test (has_rowid n) (env params) (λ r. compares n (column r 0)) (overlay old.now.trees [] (tree_of shelf)) ∙ ap (λ all. map (env params) (filter (has_rowid n) all)) (overlay_is shelf old.now.trees) in
    let kept : map (λ (o : Output). o.1) a.kept ≡ map shown (rows_at shelf old.now.trees n) =
    ap (map (λ (o : Output). o.1)) (a.distinct ∙ ap (map (output q)) staged) ∙ output_is shelf params (rows_at shelf old.now.trees n) in
    let shows : rows ≡ map (λ (o : Output). o.1) a.ordered = a.shown ∙ page_is shelf params _ in
    let plain : IsPlain (understood old.now.schema (select_text shelf)) = subst (λ s. IsPlain (understood s (select_text shelf))) (sym was.schema) (select_plain shelf) in
    (subst₂ (λ xs ys. IsPermutation xs ys) kept (sym shows) (IsPermutation-map (λ (o : Output). o.1) a.kept a.ordered a.same), shown_same (select_text shelf) params old new rows plain h)

module _ {V : Type 0} (items : V → List Row) (shelf : Shelf) (n : ℤ) (old new : State) (ready : IsReady old) (whole : IsWhole new) (falls : doubt old.is_clean ≤ doubt new.is_clean) where
  was_settled : (r : Result V Error) → IfOk r (λ v. Shown (select_text shelf) (Int n ∷ []) old new (items v)) → IfErr r (FailsToQuery (select_text shelf) (Int n ∷ []) old new) → IsWhole old × IsSettled old
  was_settled (Ok v) shows fails = ready_at old new ready falls whole.0 (shown_open old new _ _ (items v) shows)
  was_settled (Err e) shows fails = ready_at old new ready falls whole.0 (unread_open old new _ _ e whole.1 fails)

  spared : (r : Result V Error) → IfOk r (λ v. Shown (select_text shelf) (Int n ∷ []) old new (items v)) → IfErr r (FailsToQuery (select_text shelf) (Int n ∷ []) old new) → IsSpared old new
  spared (Ok v) shows fails = let was = (was_settled (Ok v) shows fails).1 in unchanged_spares old new was (finds shelf n old new (items v) was shows).1
  spared (Err e) shows fails = unread_spares old new _ _ e (was_settled (Err e) shows fails).1 whole.1 fails

  pub find_moves : (r : Result V Error) → IfOk r (λ v. Shown (select_text shelf) (Int n ∷ []) old new (items v)) → IfErr r (FailsToQuery (select_text shelf) (Int n ∷ []) old new) → Moves old new
  find_moves r shows fails = record { was_whole = (was_settled r shows fails).0; settled = (spared r shows fails).settled }

  pub find_same : (r : Result V Error) → IfOk r (λ v. Shown (select_text shelf) (Int n ∷ []) old new (items v)) → IfErr r (FailsToQuery (select_text shelf) (Int n ∷ []) old new) → new.now ≡ old.now
  find_same r shows fails = (spared r shows fails).same

  pub find_shows : (r : Result V Error) → IfOk r (λ v. Shown (select_text shelf) (Int n ∷ []) old new (items v)) → IfErr r (FailsToQuery (select_text shelf) (Int n ∷ []) old new)
      → IfOk r (λ v. IsPermutation (map shown (rows_at shelf old.now.trees n)) (items v))
  find_shows (Ok v) shows fails = (finds shelf n old new (items v) (was_settled (Ok v) shows fails).1 shows).0
  find_shows (Err e) shows fails = tt
