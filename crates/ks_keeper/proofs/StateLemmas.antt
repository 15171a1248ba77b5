-- What a statement leaves of the connection, whatever its text is.
use Rattle.std.proofs.Common.{◌≡◌, inl, inr, ℕ, ◌≤◌, List, false, None, Some, Ok, Err, Result, IsTrue, sym, ap, ◌∙◌, arith}
use Rattle.std.proofs.lemmas.Bool.{cases_Bool}
use Rattle.sqlite_value.specs.Order.{Row}
use Rattle.sqlite_trees.specs.View.{doubt}
use Rattle.sqlite_schema.specs.declared.command.Command.{Command}
use Rattle.sqlite_schema.specs.declared.command.Command.TheVariants.{Select, Insert, InsertOr, Update, Delete, CreateTable, CreateIndex, DropTable, DropIndex, Begin, Commit, Rollback, Savepoint, Release, RollbackTo, Nothing, CreateView, DropView, Rows}
use Rattle.sqlite_schema.specs.declared.command.Returning.{Returning}
use Rattle.std.proofs.Common.{Option}
use Rattle.sqlite_resolve.specs.declared.compiled.Compiled.{Compiled}
use Rattle.sqlite.specs.declared.error.Error.{Error}
use Rattle.sqlite.specs.State.{State, HasCleanDisk, IsUnchanged, IsRolledBack, Fails, IsNotRun, Runs, RunsCommand, ExecutesIn, Executes, Shown, FailsToQuery, FailsToShow, shows_rows}
use Rattle.ks_keeper.specs.Book.{IsWhole, IsSettled, IsReady}

-- ---- a connection that is open now was open

ran_open : (old new : State) (returning : Option Returning) (command : Command) (text : List ℕ) (params : Row) (count : ℕ) → IsTrue new.is_open → Runs old new returning command text params count → IsTrue old.is_open
ran_open old new returning (Select q names) text params count is_open h = absurd h
ran_open old new returning (Insert at from) text params count is_open h = h.shown.was_open
ran_open old new returning (InsertOr at how from clauses) text params count is_open h = h.shown.was_open
ran_open old new returning (Update at q) text params count is_open h = h.shown.was_open
ran_open old new returning (Delete at q) text params count is_open h = h.shown.was_open
ran_open old new returning CreateTable text params count is_open h = h.shown.was_open
ran_open old new returning (CreateIndex at) text params count is_open h = h.shown.was_open
ran_open old new returning (DropTable at) text params count is_open h = h.shown.was_open
ran_open old new returning (DropIndex at) text params count is_open h = h.shown.was_open
ran_open old new returning Begin text params count is_open h = h.1.was_open
ran_open old new returning Commit text params count is_open h = h.1.was_open
ran_open old new returning Rollback text params count is_open h = h.1.was_open is_open
ran_open old new returning (Savepoint name) text params count is_open h = h.0.0.was_open
ran_open old new returning (Release name) text params count is_open h = elim h.2 [ inl ends ↦ ends.1.0.was_open | inr drops ↦ drops.1.0.was_open ]
ran_open old new returning (RollbackTo name) text params count is_open h = h.2.2.was_open
ran_open old new returning (Rows values width names) text params count is_open h = h.0.0.was_open
ran_open old new returning Nothing text params count is_open h = h.0.0.was_open
ran_open old new returning CreateView text params count is_open h = h.shown.was_open
ran_open old new returning (DropView at) text params count is_open h = h.shown.was_open

not_run_open : (old new : State) (sql : List ℕ) (params : Row) (e : Error) → IsTrue new.is_open → IsNotRun old new sql params e → IsTrue old.is_open
unfolding IsNotRun
not_run_open old new sql params e is_open (inl it) = it.1.0.was_open
not_run_open old new sql params e is_open (inr it) = it.3.was_open is_open

stopped_open : (old new : State) (sql : List ℕ) (c : Compiled) (params : Row) (e : Error) → IsTrue new.is_open → RunsCommand old new sql c params (Err e) → IsTrue old.is_open
stopped_open old new sql c params e is_open (inl kept) = kept.1.0.was_open
stopped_open old new sql c params e is_open (inr failed) = failed.3.was_open is_open

pub executed_open : (old new : State) (sql : List ℕ) (params : Row) (r : Result ℕ Error) → IsTrue new.is_open → Executes sql params old new r → IsTrue old.is_open
unfolding ExecutesIn
executed_open old new sql params (Ok count) is_open it = elim (cases_Bool (shows_rows false it.0)) [
  | inl shows ↦ (rw shows at it.2).1.0.was_open
  | inr runs ↦ ran_open old new _ _ _ _ count is_open (rw runs at it.2)
]
executed_open old new sql params (Err e) is_open (inl it) = not_run_open old new sql params e is_open it
executed_open old new sql params (Err e) is_open (inr it) = elim (cases_Bool (shows_rows false it.0)) [
  | inl shows ↦ (rw shows at it.2).1.0.was_open
  | inr runs ↦ stopped_open old new sql it.0 _ e is_open (rw runs at it.2)
]

-- ---- what fails changes nothing

-- the call changed nothing, and what it leaves is settled
pub record IsSpared (old new : State) : Type 0 where
  pub same : new.now ≡ old.now
  pub settled : IsSettled new

pub unchanged_spares : (old new : State) → IsSettled old → IsUnchanged old new → IsSpared old new
unchanged_spares old new was it = record {
  same = it.0.now_is;
  settled = record {
    schema = ap (λ d. d.schema) it.0.now_is ∙ was.schema;
    settled = it.0.now_is ∙ was.settled ∙ sym it.0.committed_is;
    alone = it.0.mode ∙ was.alone;
  };
}

undone_spares : (old new : State) → IsSettled old → IsTrue new.is_open → IsRolledBack old new → IsSpared old new
undone_spares old new was is_open it =
    let both = it.undone is_open in
    let same = both.0 ∙ sym was.settled in
    record { same = same; settled = record { schema = ap (λ d. d.schema) same ∙ was.schema; settled = both.0 ∙ sym both.1; alone = it.autocommit } }

not_run_spares : (old new : State) (sql : List ℕ) (params : Row) (e : Error) → IsSettled old → IsTrue new.is_open → IsNotRun old new sql params e → IsSpared old new
unfolding IsNotRun
not_run_spares old new sql params e was is_open (inl it) = unchanged_spares old new was it.1
not_run_spares old new sql params e was is_open (inr it) = undone_spares old new was is_open it.3

stopped_spares : (old new : State) (sql : List ℕ) (c : Compiled) (params : Row) (e : Error) → IsSettled old → IsTrue new.is_open → RunsCommand old new sql c params (Err e) → IsSpared old new
stopped_spares old new sql c params e was is_open (inl kept) = unchanged_spares old new was kept.1
stopped_spares old new sql c params e was is_open (inr failed) = undone_spares old new was is_open failed.3

pub failed_spares : (old new : State) (sql : List ℕ) (params : Row) (e : Error) → IsSettled old → IsTrue new.is_open → Executes sql params old new (Err e) → IsSpared old new
unfolding ExecutesIn
failed_spares old new sql params e was is_open (inl it) = not_run_spares old new sql params e was is_open it
failed_spares old new sql params e was is_open (inr it) = elim (cases_Bool (shows_rows false it.0)) [
  | inl shows ↦ unchanged_spares old new was (rw shows at it.2).1
  | inr runs ↦ stopped_spares old new sql it.0 _ e was is_open (rw runs at it.2)
]

-- ---- queries

unshown_open : (old new : State) (sql : List ℕ) (c : Compiled) (params : Row) (e : Error) (returning : Option Returning) → IsTrue new.is_open → FailsToShow old new sql c params e returning → IsTrue old.is_open
unshown_open old new sql c params e None is_open it = it.3.0.was_open
unshown_open old new sql c params e (Some what) is_open it = stopped_open old new sql c params e is_open it

pub unread_open : (old new : State) (sql : List ℕ) (params : Row) (e : Error) → IsTrue new.is_open → FailsToQuery sql params old new e → IsTrue old.is_open
unfolding FailsToQuery
unread_open old new sql params e is_open (inl it) = not_run_open old new sql params e is_open it
unread_open old new sql params e is_open (inr it) = unshown_open old new sql it.0 _ e _ is_open it.2

unshown_spares : (old new : State) (sql : List ℕ) (c : Compiled) (params : Row) (e : Error) (returning : Option Returning) → IsSettled old → IsTrue new.is_open → FailsToShow old new sql c params e returning → IsSpared old new
unshown_spares old new sql c params e None was is_open it = unchanged_spares old new was it.3
unshown_spares old new sql c params e (Some what) was is_open it = stopped_spares old new sql c params e was is_open it

pub unread_spares : (old new : State) (sql : List ℕ) (params : Row) (e : Error) → IsSettled old → IsTrue new.is_open → FailsToQuery sql params old new e → IsSpared old new
unfolding FailsToQuery
unread_spares old new sql params e was is_open (inl it) = not_run_spares old new sql params e was is_open it
unread_spares old new sql params e was is_open (inr it) = unshown_spares old new sql it.0 _ e _ was is_open it.2

pub shown_open : (old new : State) (sql : List ℕ) (params : Row) (rows : List Row) → Shown sql params old new rows → IsTrue old.is_open
unfolding Shown
shown_open old new sql params rows it = go it.0.returning it.2
  where
    go : (returning : Option Returning) → Rattle.sqlite.specs.State.ShowsRows old new sql it.0 (Rattle.sqlite.specs.Clock.timed params it.0.formats it.1.now) rows returning → IsTrue old.is_open
    go None shown = shown.3.0.was_open
    go (Some what) shown = shown.1.shown.was_open

-- ---- ready

pub ready_at : (old new : State) → IsReady old → doubt old.is_clean ≤ doubt new.is_clean → HasCleanDisk new → IsTrue old.is_open → IsWhole old × IsSettled old
ready_at old new ready falls clean was_open = let whole : IsWhole old = (omega arith, was_open) in (whole, ready whole)
