-- What each command does, as what the program does by its words.
use Rattle.std.proofs.Common.{◌≡◌, ℕ, inl, List, [], ◌∷◌, Option, Some, Result, Ok, Err, IfErr, IfSome, refl, sym, subst}
use Rattle.ks_base.specs.Refusals.{fault_in}
use Rattle.ks_keep.specs.Books.{BookedState}
use Rattle.ks_keeper.specs.Keeper.{Keeping}
use Rattle.ks_outside.specs.declared.desk_call.DeskCall.TheVariants as desk_call
use Rattle.ks_outside.specs.Counts.{Counts}
use Rattle.ks_outside.specs.Desks.{Makes}
use Rattle.ks_outside.specs.Files.{KeyFile}
use Rattle.ks_outside.specs.Streams.{OnlyReads, OnlyWrites, StreamState}
use Rattle.ks_server.specs.Workers.{Place}
use Rattle.ks_words.specs.declared.words.Words.{Words}
use Rattle.ks_words.specs.Words.{words_of}
use Rattle.ks_commands.specs.declared.fault.Fault.{Fault}
use Rattle.ks_commands.specs.declared.fault.Fault.TheVariants as fault
use Rattle.ks_commands.specs.Ending.{EndsCheck, IsStreamFault, result_of}
use Rattle.ks_commands.specs.KeyFolders.{EndsRotation, EndsSetup, IsFolderFault, OnlyDraws}
use Rattle.ks_commands.specs.Passwords.{DrawsOnce, EndsPassword, IsPasswordFault, ReadsFront}
use Rattle.ks_top.specs.Drills.{EndsDrill, IsDrillFault}
use Rattle.ks_top.specs.Runs.{ChangesKeys, Checks, Does, Drills, MakesRecord, Rotates, Runs, SetsUp, outside}
use Rattle.ks_top.specs.World.{World}
use Rattle.ks_commands.proofs.CountLemmas.{counts_for, reads_for}

pub runs_by : {Link Seat K : Type 0} (keeping : Keeping K) (view : Seat → Place Link) (stream : Link → StreamState) (words : List (List ℕ)) (asked : Words) (old new : World Link Seat K) (f : Option Fault) (state : Option (BookedState K))
    → asked ≡ words_of words → Does keeping view stream asked old new f state → Runs keeping view stream words old new f state
unfolding Runs
runs_by keeping view stream words asked old new f state is does = inl (subst (λ w. Does keeping view stream w old new f state) is does)

-- a result and its fault

same_result : (r : Result (Unit {0}) Fault) → result_of (fault_in r) ≡ r
same_result (Ok done) = refl
same_result (Err reason) = refl

err_of : (r : Result (Unit {0}) Fault) (f : Fault) → fault_in r ≡ Some f → r ≡ Err f
err_of (Ok done) f h = absurd (cc h)
err_of (Err reason) f h = cc h

caused : (P : Fault → Type 0) (r : Result (Unit {0}) Fault) → IfErr r P → IfSome (fault_in r) P
caused P (Ok done) is = tt
caused P (Err reason) is = is

writes_for : (P Q : Type 0) (old new : StreamState) → (Q → P) → OnlyWrites P old new → OnlyWrites Q old new
writes_for P Q old new from writes = record {
  writes = counts_for P Q old.write_faults new.write_faults from writes.writes;
  left = writes.left;
  reads = writes.reads;
  names = writes.names;
}

abbrev Ends : {Link Seat K : Type 0} → World Link Seat K → World Link Seat K → Result (Unit {0}) Fault → Type 0
Ends old new r =
    (text before : List ℕ) → old.input.left ≡ Some text → old.output.written ≡ Some before → EndsCheck text before new.input.left new.output.written r

pub checks : {Link Seat K : Type 0} (old new : World Link Seat K) (r : Result (Unit {0}) Fault) (f : Option Fault) → f ≡ fault_in r → Ends old new r → IfErr r IsStreamFault
    → OnlyReads (r ≡ Err fault.Read) old.input new.input → OnlyWrites (r ≡ Err fault.Write) old.output new.output
    → new ≡ record old { input = new.input; output = new.output } → Checks old new f
checks old new r f is told causes reads writes others = subst (Checks old new) (sym is) (record {
  told = λ text before left written. subst (EndsCheck text before new.input.left new.output.written) (sym (same_result r)) (told text before left written);
  causes = caused IsStreamFault r causes;
  reads = reads_for (r ≡ Err fault.Read) (fault_in r ≡ Some fault.Read) old.input new.input (err_of r fault.Read) reads;
  writes = writes_for (r ≡ Err fault.Write) (fault_in r ≡ Some fault.Write) old.output new.output (err_of r fault.Write) writes;
  others = others;
})

-- what a command on keys says beside what it tells
pub record Keeps {Link Seat K : Type 0} (old new : World Link Seat K) (r : Result (Unit {0}) Fault) : Type 0 where
  pub causes : IfErr r IsFolderFault
  pub folder : Counts (r ≡ Err fault.Folder) old.dir.faults new.dir.faults
  pub draws : Counts (r ≡ Err fault.Desk) old.desk.fill_faults new.desk.fill_faults
  pub writes : OnlyWrites (r ≡ Err fault.Write) old.output new.output
  pub desk : OnlyDraws old.desk new.desk
  pub others : new ≡ record old { output = new.output; dir = new.dir; desk = new.desk }

changes_keys : {Link Seat K : Type 0} (old new : World Link Seat K) (r : Result (Unit {0}) Fault) → Keeps old new r → ChangesKeys old new (fault_in r)
changes_keys old new r keeps = record {
  causes = caused IsFolderFault r keeps.causes;
  folder = counts_for (r ≡ Err fault.Folder) (fault_in r ≡ Some fault.Folder) old.dir.faults new.dir.faults (err_of r fault.Folder) keeps.folder;
  draws = counts_for (r ≡ Err fault.Desk) (fault_in r ≡ Some fault.Desk) old.desk.fill_faults new.desk.fill_faults (err_of r fault.Desk) keeps.draws;
  writes = writes_for (r ≡ Err fault.Write) (fault_in r ≡ Some fault.Write) old.output new.output (err_of r fault.Write) keeps.writes;
  desk = keeps.desk;
  others = keeps.others;
}

abbrev TellsSetup : {Link Seat K : Type 0} → World Link Seat K → World Link Seat K → Result (Unit {0}) Fault → Type 0
TellsSetup old new r =
    (random before : List ℕ) (files : List KeyFile) → old.desk.random ≡ Some random → old.dir.files ≡ Some files → old.output.written ≡ Some before
    → EndsSetup random files before (outside new) r

pub sets_up : {Link Seat K : Type 0} (old new : World Link Seat K) (r : Result (Unit {0}) Fault) (f : Option Fault) → f ≡ fault_in r → TellsSetup old new r → Keeps old new r
    → Makes (desk_call.Fill 64 ∷ []) old.desk.calls new.desk.calls → SetsUp old new f
sets_up old new r f is told keeps fills = subst (SetsUp old new) (sym is) (record {
  told = λ random before files drawn stood written. subst (EndsSetup random files before (outside new)) (sym (same_result r)) (told random before files drawn stood written);
  changes = changes_keys old new r keeps;
  fills = fills;
})

abbrev TellsRotation : {Link Seat K : Type 0} → ℕ → World Link Seat K → World Link Seat K → Result (Unit {0}) Fault → Type 0
TellsRotation max old new r =
    (random before : List ℕ) (files : List KeyFile) → old.desk.random ≡ Some random → old.dir.files ≡ Some files → old.output.written ≡ Some before
    → EndsRotation max random files before (outside new) r

pub rotates : {Link Seat K : Type 0} (max : ℕ) (old new : World Link Seat K) (r : Result (Unit {0}) Fault) (f : Option Fault) → f ≡ fault_in r → TellsRotation max old new r → Keeps old new r
    → Makes (desk_call.Fill 32 ∷ []) old.desk.calls new.desk.calls → Rotates max old new f
rotates max old new r f is told keeps fills = subst (Rotates max old new) (sym is) (record {
  told = λ random before files drawn stood written. subst (EndsRotation max random files before (outside new)) (sym (same_result r)) (told random before files drawn stood written);
  changes = changes_keys old new r keeps;
  fills = fills;
})

-- what `password` says of its result
pub record SaysRecord {Link Seat K : Type 0} (rounds : ℕ) (old new : World Link Seat K) (r : Result (Unit {0}) Fault) : Type 0 where
  pub told : (text before : List ℕ) → old.input.left ≡ Some text → old.output.written ≡ Some before
      → EndsPassword rounds text before old.desk new.desk new.output.written r
  pub causes : IfErr r IsPasswordFault
  pub reach : (text : List ℕ) → old.input.left ≡ Some text → ReadsFront text new.input.left
  pub reads : OnlyReads (r ≡ Err fault.Read) old.input new.input
  pub draws : Counts (r ≡ Err fault.Desk) old.desk.fill_faults new.desk.fill_faults
  pub drew : DrawsOnce old.desk new.desk
  pub writes : OnlyWrites (r ≡ Err fault.Write) old.output new.output
  pub others : new ≡ record old { input = new.input; output = new.output; desk = new.desk }

pub makes_record : {Link Seat K : Type 0} (rounds : ℕ) (old new : World Link Seat K) (r : Result (Unit {0}) Fault) (f : Option Fault) → f ≡ fault_in r → SaysRecord rounds old new r → MakesRecord rounds old new f
makes_record rounds old new r f is says = subst (MakesRecord rounds old new) (sym is) (record {
  told = λ text before left written. subst (EndsPassword rounds text before old.desk new.desk new.output.written) (sym (same_result r)) (says.told text before left written);
  causes = caused IsPasswordFault r says.causes;
  reach = says.reach;
  reads = reads_for (r ≡ Err fault.Read) (fault_in r ≡ Some fault.Read) old.input new.input (err_of r fault.Read) says.reads;
  draws = counts_for (r ≡ Err fault.Desk) (fault_in r ≡ Some fault.Desk) old.desk.fill_faults new.desk.fill_faults (err_of r fault.Desk) says.draws;
  drew = says.drew;
  writes = writes_for (r ≡ Err fault.Write) (fault_in r ≡ Some fault.Write) old.output new.output (err_of r fault.Write) says.writes;
  others = says.others;
})

abbrev TellsDrill : {Link Seat K : Type 0} → ℕ → ℕ → World Link Seat K → World Link Seat K → Result (Unit {0}) Fault → Type 0
TellsDrill start count old new r = (before : List ℕ) → old.output.written ≡ Some before → EndsDrill start count before new.output.written r

pub drills : {Link Seat K : Type 0} (start count : ℕ) (old new : World Link Seat K) (r : Result (Unit {0}) Fault) (f : Option Fault) → f ≡ fault_in r → TellsDrill start count old new r
    → IfErr r IsDrillFault → OnlyWrites (r ≡ Err fault.Write) old.output new.output → new ≡ record old { output = new.output } → Drills start count old new f
drills start count old new r f is told causes writes others = subst (Drills start count old new) (sym is) (record {
  told = λ before written. subst (EndsDrill start count before new.output.written) (sym (same_result r)) (told before written);
  causes = caused IsDrillFault r causes;
  writes = writes_for (r ≡ Err fault.Write) (fault_in r ≡ Some fault.Write) old.output new.output (err_of r fault.Write) writes;
  others = others;
})
