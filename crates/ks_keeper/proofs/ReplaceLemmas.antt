-- What an INSERT OR REPLACE does at a number that one row has.
use Rattle.std.proofs.Common.{◌≡◌, ◌≢◌, inl, inr, ℕ, ◌≤◌, ℤ, List, [], ◌∷◌, ◌&&◌, ◌||◌, Bool, true, false, filter, Option, Some, None, Ok, Err, Result, OnOk, OnErr, refl, sym, ap, subst, ◌∙◌}
use Rattle.std.specs.List.{AllByRecursion}
use Rattle.std.proofs.lemmas.Bool.{not-true, and_parts}
use Rattle.sqlite_value.specs.declared.value.Value.TheVariants.{Null, Int, Blob as Octets}
use Rattle.sqlite_value.specs.Order.{Row, column}
use Rattle.sqlite_value.proofs.KeyLemmas.{first_key-plain}
use Rattle.sqlite_trees.specs.Tree.{Trees, rowid, put_row, has_rowid}
use Rattle.sqlite_trees.specs.View.{doubt, is_int}
use Rattle.sqlite_schema.specs.declared.command.Source.{Source}
use Rattle.sqlite_schema.specs.declared.command.Source.TheVariants.{Values}
use Rattle.sqlite_schema.specs.declared.command.Conflict.TheVariants.{Replace}
use Rattle.sqlite_schema.specs.declared.command.Command.TheVariants.{InsertOr}
use Rattle.sqlite_schema.specs.declared.schema.Keys.TheVariants.{Enforced}
use Rattle.sqlite_rules.specs.Lists.{Has}
use Rattle.sqlite_rules.specs.Cast.{cast_row}
use Rattle.sqlite_rules.specs.Keys.{AreConflicts, conflicts}
use Rattle.sqlite_rules.specs.Calls.{ids_of}
use Rattle.sqlite_rules.specs.Edit.{id_in, edit_of, edited, are_fresh, with_rowid}
use Rattle.sqlite_rules.specs.declared.error.Rowids.TheVariants.{Chosen, Given}
use Rattle.sqlite.specs.declared.error.Error.{Error}
use Rattle.sqlite.specs.Effect.{Database}
use Rattle.sqlite_rules.specs.declared.error.Refusal.{Refusal}
use Rattle.sqlite.specs.Rows.{Written, Outcome, Puts, Clears, Tries, TriesEach, Judged, nothing, count_of}
use Rattle.sqlite.specs.Listing.{understood}
use Rattle.sqlite.specs.Does.{Tally, Does, OnRows}
use Rattle.sqlite.specs.State.{State, mode_of, Executes}
use Rattle.sqlite.proofs.Callers.{statement_of, runs_as, one_step}
use Rattle.ks_keeper.specs.declared.shelf.Shelf.{Shelf}
use Rattle.ks_keeper.specs.declared.shelf.Shelf.TheVariants.{Entries, Header}
use Rattle.ks_keeper.specs.Book.{tree_of, table_of, book_schema, replace_text, stored, rows_at, HasOneNumber, IsPut, IsWhole, IsSettled, IsReady, Moves}
use Rattle.ks_keeper.proofs.Texts.{terms, replace_is, replace_plain}
use Rattle.ks_keeper.proofs.RowLemmas.{none_of, compares, number_is, in_filter, all_taken_apart}
use Rattle.ks_keeper.proofs.StateLemmas.{executed_open, failed_spares, ready_at}
use Rattle.ks_keeper.proofs.PutLemmas.{cast_null, cast_int, went, same_value, task_of, beside_of, put_from, made_settles}

replaces_on : (shelf : Shelf) (from : Source) (old : State) (params : Row) (db : Database) (text : List ℕ) (out : Outcome (Tally × Database)) → db.schema ≡ book_schema
    → Does old.step_limit (mode_of old) params db text None (InsertOr (tree_of shelf) Replace from []) out
    → OnRows (task_of shelf old params) (mode_of old) None (InsertOr (tree_of shelf) Replace from []) db.trees out
replaces_on Entries from old params db text out has h = rw has at h
replaces_on Header from old params db text out has h = rw has at h

-- a row that conflicts has the number
conflict_at : (shelf : Shelf) (n : ℤ) (body : List ℕ) (r : Row) → conflicts None [] (table_of shelf) (stored n body) r ≡ true → has_rowid n r ≡ true
conflict_at shelf n body r clash =
    let parts = rw first_key-plain at clash in
    sym (compares n (column r 0)) ∙ plainly _ parts
  where
    plainly : (b : Bool) → ((true && (b && true)) || false) ≡ true → b ≡ true
    plainly true h = refl
    plainly false h = h

module _ (shelf : Shelf) (n : ℤ) (body : List ℕ) where
  abbrev new : Row
  new = stored n body

  -- what stands once a row is put that no row there ties with
  puts : (old : State) (ps : Row) (db : Trees) (one : Written) → Puts (task_of shelf old ps) new db (Ok one)
      → (filter (has_rowid n) (db (tree_of shelf)) ≡ []) × (one.trees (tree_of shelf) ≡ put_row new (db (tree_of shelf)))
      × ((other : Shelf) → tree_of other ≢ tree_of shelf → one.trees (tree_of other) ≡ db (tree_of other))
  puts old ps db one h =
      let table = table_of shelf in
      let edit = edit_of db table [] Given 0 (new ∷ []) in
      let got = went h in
      let step = one_step book_schema Enforced db got.0 edit refl got.1 in
      let news : edit.news ≡ new ∷ [] = rw (cast_int n, cast_null) in
      let fresh : are_fresh (db (tree_of shelf)) (new ∷ []) ≡ true = ap (are_fresh (db (tree_of shelf))) (sym news) ∙ step.fresh in
      let trees : one.trees ≡ got.0 = ap (λ (it : Written). it.trees) (same_value got.2) in
      let is = ap (λ (all : Trees). all (tree_of shelf)) trees ∙ step.rows ∙ ap (λ all. edited db (record { table = table; gone = []; news = all })) news in (
        none_of _ (db (tree_of shelf)) (not-true _ (and_parts _ _ fresh).0),
        is,
        λ other apart. ap (λ (all : Trees). all (tree_of other)) trees ∙ beside_of db got.0 (tree_of shelf) step.tables other apart,
      )

  -- the rowids that are taken out are the number's
  gone_alone : (rows found : List Row) → HasOneNumber (filter (has_rowid n) rows) → AreConflicts None [] (table_of shelf) rows new found → AllByRecursion (λ id. id ≡ n) (ids_of found)
  gone_alone rows found one clash = each found (λ x has. number_of x (clash.sound x has))
    where
      number_of : (x : Row) → ((r : Row) × Has rows r × (conflicts None [] (table_of shelf) new r ≡ true) × (x ≡ rowid r ∷ [])) → id_in (rowid x) ≡ n
      number_of x it =
          let at = conflict_at shelf n body it.0 it.2 in
          let standing : Has (one.0 ∷ []) it.0 = subst (λ all. Has all it.0) one.1 (in_filter (has_rowid n) rows it.0 it.1 at) in
          let same : it.0 ≡ one.0 = elim standing [ inl is ↦ is | inr none ↦ absurd none ] in
          ap (λ (row : Row). id_in (rowid row)) it.3 ∙ number_is n it.0 (ap (λ (row : Row). is_int (column row 0)) same ∙ one.2) at

      each : (found : List Row) → ((x : Row) → Has found x → id_in (rowid x) ≡ n) → AllByRecursion (λ id. id ≡ n) (ids_of found)
      each [] all = tt
      each (x ∷ found) all = (all x (inl refl), each found (λ y has. all y (inr has)))

  clears : (old : State) (ps : Row) (db : Trees) (found : List Row) (one : Written) → HasOneNumber (rows_at shelf db n) → AreConflicts None [] (table_of shelf) (db (tree_of shelf)) new found
      → Clears (task_of shelf old ps) Replace new db found (Ok one) → IsPut shelf n body db one.trees
  clears old ps db [] one alone clash h = let p = puts old ps db one h in put_from shelf n body db one.trees (db (tree_of shelf)) p.0 (λ m apart. refl) p.1 p.2
  clears old ps db (x ∷ more) one alone clash h =
      let ids = ids_of (x ∷ more) in
      let got = went h in
      let step = one_step book_schema Enforced db got.0 (edit_of db (table_of shelf) ids Given 0 []) refl got.1 in
      let p = puts old ps got.0 one got.2 in
      let all = gone_alone (db (tree_of shelf)) (x ∷ more) alone clash in
      put_from shelf n body db one.trees (got.0 (tree_of shelf)) p.0 (λ m apart. ap (filter (has_rowid m)) step.rows ∙ all_taken_apart m n apart ids all (db (tree_of shelf))) p.1
      (λ other apart. p.2 other apart ∙ beside_of db got.0 (tree_of shelf) step.tables other apart)

  judged : (old : State) (ps : Row) (db : Trees) (verdict : Option Refusal) (one : Written) → HasOneNumber (rows_at shelf db n) → Judged (task_of shelf old ps) Replace [] new db verdict (Ok one) → IsPut shelf n body db one.trees
  judged old ps db None one alone h = clears old ps db h.0 one alone h.1 h.2
  judged old ps db (Some why) one alone h = absurd (let e = h in cc)

  tries : (old : State) (ps : Row) (db : Trees) (one : Written) → HasOneNumber (rows_at shelf db n) → Tries (task_of shelf old ps) Replace [] new db (Ok one) → IsPut shelf n body db one.trees
  tries old ps db one alone (inl stopped) = absurd (let e = stopped.1 in cc)
  tries old ps db one alone (inr it) = judged old ps db it.0 one alone it.2

  pub replaces : (old new : State) (count : ℕ) → IsSettled old → HasOneNumber (rows_at shelf old.now.trees n) → Executes (replace_text shelf) (Int n ∷ Octets body ∷ []) old new (Ok count)
      → IsPut shelf n body old.now.trees new.now.trees × IsSettled new
  replaces old after count was alone h =
      let params : Row = Int n ∷ Octets body ∷ [] in
      let db = old.now.trees in
      let task = task_of shelf old params in
      let table = table_of shelf in
      let source : Row = Int n ∷ Null ∷ Octets body ∷ [] in
      let w = runs_as (replace_text shelf) params old after book_schema was.schema (InsertOr (tree_of shelf) Replace (Values terms 3) []) (replace_is shelf) (replace_plain shelf) count h in
      let done = went (replaces_on shelf (Values terms 3) old params old.now (statement_of (replace_text shelf) (understood book_schema (replace_text shelf))) (Ok (w.tally, after.now)) was.schema w.changed) in
      let now = ap (λ (p : Tally × Database). p.1) (same_value (went (went done.2).2).2) in
      let given = went done.1 in
      let counter = went given.2 in
      let tried = went counter.2 in
      let counted = went tried.2 in
      let trees : done.0.trees ≡ tried.0.0.trees = ap (λ (it : Written). it.trees) (same_value counted.2) ∙ same_value counted.1 in
      let top = count_of counter.0 in
      let each : TriesEach task Replace [] (source ∷ []) top (nothing db) (Ok tried.0) = subst (λ rows. TriesEach task Replace [] rows top (nothing db) (Ok tried.0)) given.1.1 tried.1 in
      let first = went each in
      let last : tried.0.0.trees ≡ first.0.trees = ap (λ (p : Written × ℤ). p.0.trees) (same_value first.2) in
      let row : with_rowid Chosen (db (tree_of shelf)) (cast_row table source) ≡ stored n body = rw (cast_int n, cast_null) in
      let put = tries old params db first.0 alone (subst (λ (r : Row). Tries task Replace [] r db (Ok first.0)) row first.1) in
      let is : after.now.trees ≡ first.0.trees = ap (λ (d : Database). d.trees) now ∙ trees ∙ last in
      (subst (IsPut shelf n body db) (sym is) put, made_settles shelf n body old after was (ap (λ (d : Database). d.schema) now) w.shown)

  module _ (old after : State) (ready : IsReady old) (alone : IsWhole old → HasOneNumber (rows_at shelf old.now.trees n)) (whole : IsWhole after) (falls : doubt old.is_clean ≤ doubt after.is_clean) where
    was_settled : (r : Result ℕ Error) → Executes (replace_text shelf) (Int n ∷ Octets body ∷ []) old after r → IsWhole old × IsSettled old
    was_settled r h = ready_at old after ready falls whole.0 (executed_open old after _ _ r whole.1 h)

    pub replace_moves : (r : Result ℕ Error) → Executes (replace_text shelf) (Int n ∷ Octets body ∷ []) old after r → Moves old after
    replace_moves (Ok count) h = let was = was_settled (Ok count) h in record { was_whole = was.0; settled = (replaces old after count was.1 (alone was.0) h).1 }
    replace_moves (Err e) h = let was = was_settled (Err e) h in record { was_whole = was.0; settled = (failed_spares old after _ _ e was.1 whole.1 h).settled }

    pub replace_fails : (r : Result ℕ Error) → Executes (replace_text shelf) (Int n ∷ Octets body ∷ []) old after r → OnErr r (after.now ≡ old.now)
    replace_fails (Ok count) h = tt
    replace_fails (Err e) h = (failed_spares old after _ _ e (was_settled (Err e) h).1 whole.1 h).same

    pub replace_puts : (r : Result ℕ Error) → Executes (replace_text shelf) (Int n ∷ Octets body ∷ []) old after r → OnOk r (IsPut shelf n body old.now.trees after.now.trees)
    replace_puts (Ok count) h = let was = was_settled (Ok count) h in (replaces old after count was.1 (alone was.0) h).0
    replace_puts (Err e) h = tt
