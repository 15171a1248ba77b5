-- What an INSERT does.
use Rattle.std.proofs.Common.{◌≡◌, ◌≢◌, ◌⊎◌, inl, inr, ℕ, ◌≤◌, ℤ, List, [], ◌∷◌, Bool, true, false, cond, filter, None, Ok, Err, Result, OnOk, OnErr, refl, sym, ap, ◌∙◌}
use Rattle.std.specs.List.{AllByRecursion}
use Rattle.std.proofs.lemmas.Bool.{not-true, and_parts}
use Rattle.sqlite_value.specs.declared.value.Value.{Value}
use Rattle.sqlite_value.specs.declared.value.Value.TheVariants.{Null, Int, Blob as Octets}
use Rattle.sqlite_value.specs.Order.{Row}
use Rattle.sqlite_trees.specs.Tree.{Trees, put_row, has_rowid}
use Rattle.sqlite_trees.specs.View.{doubt}
use Rattle.sqlite_sql.specs.Ops.{unary}
use Rattle.sqlite_schema.specs.declared.schema.Kind.TheVariants.{Integer}
use Rattle.sqlite_schema.specs.declared.schema.Keys.TheVariants.{Enforced}
use Rattle.sqlite_schema.specs.declared.command.Source.{Source}
use Rattle.sqlite_schema.specs.declared.command.Source.TheVariants.{Values}
use Rattle.sqlite_schema.specs.declared.command.Command.TheVariants.{Insert}
use Rattle.sqlite_rules.specs.Cast.{cast}
use Rattle.sqlite_rules.specs.Edit.{edit_of, edited, are_fresh}
use Rattle.sqlite_rules.specs.declared.error.Rowids.TheVariants.{Chosen}
use Rattle.sqlite.specs.declared.error.Error.{Error}
use Rattle.sqlite.specs.Effect.{Database}
use Rattle.sqlite.specs.Rows.{Written, Task, Outcome}
use Rattle.sqlite.specs.Does.{Tally, Does, OnRows}
use Rattle.sqlite.specs.State.{State, mode_of, Shows, Executes}
use Rattle.sqlite.specs.Listing.{understood}
use Rattle.sqlite.proofs.Callers.{statement_of, runs_as, one_step}
use Rattle.ks_keeper.specs.declared.shelf.Shelf.{Shelf}
use Rattle.ks_keeper.specs.declared.shelf.Shelf.TheVariants.{Entries, Header}
use Rattle.ks_keeper.specs.Book.{tree_of, table_of, book_schema, insert_text, stored, rows_at, IsPut, IsWhole, IsSettled, IsReady, Moves}
use Rattle.ks_keeper.proofs.Texts.{terms, insert_is, insert_plain}
use Rattle.ks_keeper.proofs.RowLemmas.{none_of, put_there, put_apart}
use Rattle.ks_keeper.proofs.StateLemmas.{executed_open, failed_spares, ready_at}

-- ---- values that the columns take as they are

either : (b : Bool) (x : Value) → cond b x x ≡ x
either true x = refl
either false x = refl

pub cast_null : cast Integer Null ≡ Null
unfolding unary
cast_null = either _ Null

pub cast_int : (n : ℤ) → cast Integer (Int n) ≡ Int n
unfolding unary
cast_int n = either _ (Int n)

-- ---- the parts of a statement that gave a value

pub went : {B E R : Type 0} {b : B} {Stops : E → Type 0} → ((stop : E) × Stops stop × (Ok b ≡ Err stop)) ⊎ R → R
went (inl stopped) = absurd (let e = stopped.2 in cc)
went (inr on) = on

pub same_value : {B E : Type 0} {a b : B} → ◌≡◌ {A = Result B E} (Ok a) (Ok b) → a ≡ b
same_value e = cc

abbrev pub task_of : Shelf → State → Row → Task
task_of shelf old params = record { limit = old.step_limit; keys = Enforced; schema = book_schema; table = table_of shelf; params = params }

inserts_on : (shelf : Shelf) (from : Source) (old : State) (params : Row) (db : Database) (text : List ℕ) (out : Outcome (Tally × Database)) → db.schema ≡ book_schema
    → Does old.step_limit (mode_of old) params db text None (Insert (tree_of shelf) from) out → OnRows (task_of shelf old params) (mode_of old) None (Insert (tree_of shelf) from) db.trees out
inserts_on Entries from old params db text out has h = rw has at h
inserts_on Header from old params db text out has h = rw has at h

pub beside_of : (db next : Trees) (tree : ℕ) → AllByRecursion (λ t. t.tree ≢ tree → next t.tree ≡ db t.tree) book_schema.tables → (other : Shelf) → tree_of other ≢ tree → next (tree_of other) ≡ db (tree_of other)
beside_of db next tree all Entries = all.0
beside_of db next tree all Header = all.1.0

-- ---- one row more

module _ (shelf : Shelf) (n : ℤ) (body : List ℕ) where
  -- the trees after a statement that put one row in
  pub put_from : (db next : Trees) (rest : List Row) → filter (has_rowid n) rest ≡ [] → ((m : ℤ) → m ≢ n → filter (has_rowid m) rest ≡ rows_at shelf db m)
      → next (tree_of shelf) ≡ put_row (stored n body) rest → ((other : Shelf) → tree_of other ≢ tree_of shelf → next (tree_of other) ≡ db (tree_of other)) → IsPut shelf n body db next
  put_from db next rest free same is beside = record {
    there = ap (filter (has_rowid n)) is ∙ put_there n _ rest free;
    apart = λ m apart. ap (filter (has_rowid m)) is ∙ put_apart n _ m apart rest ∙ same m apart;
    beside = beside;
  }

  -- what was made and committed
  pub made_settles : (old new : State) → IsSettled old → new.now.schema ≡ book_schema → Shows old new new.now (cond old.in_transaction old.committed new.now) old.in_transaction → IsSettled new
  made_settles old new was schema shows = record { schema = schema; settled = sym (rw was.alone at shows.committed_is); alone = shows.mode ∙ was.alone }

  pub inserts : (old new : State) (count : ℕ) → IsSettled old → Executes (insert_text shelf) (Int n ∷ Octets body ∷ []) old new (Ok count) → IsPut shelf n body old.now.trees new.now.trees × IsSettled new
  inserts old new count was h =
      let params : Row = Int n ∷ Octets body ∷ [] in
      let db = old.now.trees in
      let table = table_of shelf in
      let w = runs_as (insert_text shelf) params old new book_schema was.schema (Insert (tree_of shelf) (Values terms 3)) (insert_is shelf) (insert_plain shelf) count h in
      let done = went (inserts_on shelf (Values terms 3) old params old.now (statement_of (insert_text shelf) (understood book_schema (insert_text shelf))) (Ok (w.tally, new.now)) was.schema w.changed) in
      let now = ap (λ (p : Tally × Database). p.1) (same_value (went (went done.2).2).2) in
      let given = went done.1 in
      let written = went (went given.2).2 in
      let counted = went written.2 in
      let trees : done.0.trees ≡ written.0 = ap (λ (it : Written). it.trees) (same_value counted.2) ∙ same_value counted.1 in
      let edit = edit_of db table [] Chosen 0 given.0 in
      let step = one_step book_schema _ db written.0 edit refl written.1 in
      let news : edit.news ≡ stored n body ∷ [] = ap (λ all. (edit_of db table [] Chosen 0 all).news) given.1.1 ∙ rw (cast_int n, cast_null) in
      let fresh : are_fresh (db (tree_of shelf)) (stored n body ∷ []) ≡ true = ap (are_fresh (db (tree_of shelf))) (sym news) ∙ step.fresh in
      let free = none_of _ (db (tree_of shelf)) (not-true _ (and_parts _ _ fresh).0) in
      let is = ap (λ (all : Trees). all (tree_of shelf)) (ap (λ (d : Database). d.trees) now ∙ trees) ∙ step.rows ∙ ap (λ all. edited db (record { table = table; gone = []; news = all })) news in
      let beside = λ (other : Shelf) (apart : tree_of other ≢ tree_of shelf).
      ap (λ (all : Trees). all (tree_of other)) (ap (λ (d : Database). d.trees) now ∙ trees) ∙ beside_of db written.0 (tree_of shelf) step.tables other apart in
      (put_from db new.now.trees (db (tree_of shelf)) free (λ m apart. refl) is beside, made_settles old new was (ap (λ (d : Database). d.schema) now) w.shown)

  module _ (old new : State) (ready : IsReady old) (whole : IsWhole new) (falls : doubt old.is_clean ≤ doubt new.is_clean) where
    was_settled : (r : Result ℕ Error) → Executes (insert_text shelf) (Int n ∷ Octets body ∷ []) old new r → IsWhole old × IsSettled old
    was_settled r h = ready_at old new ready falls whole.0 (executed_open old new _ _ r whole.1 h)

    pub insert_moves : (r : Result ℕ Error) → Executes (insert_text shelf) (Int n ∷ Octets body ∷ []) old new r → Moves old new
    insert_moves (Ok count) h = let was = was_settled (Ok count) h in record { was_whole = was.0; settled = (inserts old new count was.1 h).1 }
    insert_moves (Err e) h = let was = was_settled (Err e) h in record { was_whole = was.0; settled = (failed_spares old new _ _ e was.1 whole.1 h).settled }

    pub insert_fails : (r : Result ℕ Error) → Executes (insert_text shelf) (Int n ∷ Octets body ∷ []) old new r → OnErr r (new.now ≡ old.now)
    insert_fails (Ok count) h = tt
    insert_fails (Err e) h = (failed_spares old new _ _ e (was_settled (Err e) h).1 whole.1 h).same

    pub insert_puts : (r : Result ℕ Error) → Executes (insert_text shelf) (Int n ∷ Octets body ∷ []) old new r → OnOk r (IsPut shelf n body old.now.trees new.now.trees)
    insert_puts (Ok count) h = (inserts old new count (was_settled (Ok count) h).1 h).0
    insert_puts (Err e) h = tt
