-- What the program does by its words.
use Rattle.std.specs.Prelude.{◌≡◌, ◌⊎◌, ℕ, List, [], ◌∷◌, Option, Some, None, IfSome}
use Rattle.ks_keep.specs.Books.{BookedState}
use Rattle.ks_keeper.specs.Keeper.{Keeping}
use Rattle.ks_outside.specs.declared.desk_call.DeskCall.TheVariants as desk_call
use Rattle.ks_outside.specs.Counts.{Counts}
use Rattle.ks_outside.specs.Desks.{Makes}
use Rattle.ks_outside.specs.Files.{KeyFile}
use Rattle.ks_outside.specs.Streams.{OnlyReads, OnlyWrites, StreamState}
use Rattle.ks_server.specs.Workers.{Place}
use Rattle.ks_words.specs.declared.words.Words.{Words}
use Rattle.ks_words.specs.declared.words.Words.TheVariants as asked
use Rattle.ks_words.specs.Words.{words_of}
use Rattle.ks_commands.specs.declared.fault.Fault.{Fault}
use Rattle.ks_commands.specs.declared.fault.Fault.TheVariants as fault
use Rattle.ks_commands.specs.Ending.{EndsCheck, IsStreamFault, result_of}
use Rattle.ks_commands.specs.KeyFolders.{EndsRotation, EndsSetup, IsFolderFault, OnlyDraws, Outside}
use Rattle.ks_commands.specs.Passwords.{DrawsOnce, EndsPassword, IsPasswordFault, ReadsFront}
use Rattle.ks_top.specs.Drills.{EndsDrill, IsDrillFault}
use Rattle.ks_top.specs.Serve.{Serves}
use Rattle.ks_top.specs.Talk.{Talks}
use Rattle.ks_top.specs.World.{World}

-- | a check reads its input and writes its output, and touches nothing else
pub record Checks {Link Seat K : Type 0} (old new : World Link Seat K) (f : Option Fault) : Type 0 where
  pub told : (text before : List ℕ) → old.input.left ≡ Some text → old.output.written ≡ Some before
      → EndsCheck text before new.input.left new.output.written (result_of f)
  pub causes : IfSome f IsStreamFault
  pub reads : OnlyReads (f ≡ Some fault.Read) old.input new.input
  pub writes : OnlyWrites (f ≡ Some fault.Write) old.output new.output
  pub others : new ≡ record old { input = new.input; output = new.output }

-- what is told behind a command on keys
abbrev pub outside : {Link Seat K : Type 0} → World Link Seat K → Outside
outside world = record { random = world.desk.random; files = world.dir.files; written = world.output.written }

-- | a command on keys draws from the desk, changes the folder and writes its output, and touches nothing else
pub record ChangesKeys {Link Seat K : Type 0} (old new : World Link Seat K) (f : Option Fault) : Type 0 where
  pub causes : IfSome f IsFolderFault
  pub folder : Counts (f ≡ Some fault.Folder) old.dir.faults new.dir.faults
  pub draws : Counts (f ≡ Some fault.Desk) old.desk.fill_faults new.desk.fill_faults
  pub writes : OnlyWrites (f ≡ Some fault.Write) old.output new.output
  pub desk : OnlyDraws old.desk new.desk
  pub others : new ≡ record old { output = new.output; dir = new.dir; desk = new.desk }

-- | a setup of the folder
pub record SetsUp {Link Seat K : Type 0} (old new : World Link Seat K) (f : Option Fault) : Type 0 where
  pub told : (random before : List ℕ) (files : List KeyFile) → old.desk.random ≡ Some random → old.dir.files ≡ Some files → old.output.written ≡ Some before
      → EndsSetup random files before (outside new) (result_of f)
  pub changes : ChangesKeys old new f
  -- all its bytes at once
  pub fills : Makes (desk_call.Fill 64 ∷ []) old.desk.calls new.desk.calls

-- | a rotation of it
pub record Rotates {Link Seat K : Type 0} (max : ℕ) (old new : World Link Seat K) (f : Option Fault) : Type 0 where
  pub told : (random before : List ℕ) (files : List KeyFile) → old.desk.random ≡ Some random → old.dir.files ≡ Some files → old.output.written ≡ Some before
      → EndsRotation max random files before (outside new) (result_of f)
  pub changes : ChangesKeys old new f
  pub fills : Makes (desk_call.Fill 32 ∷ []) old.desk.calls new.desk.calls

-- | the record of a password: its input is read and its output written, the desk gives 16 bytes at most, and nothing else is touched
pub record MakesRecord {Link Seat K : Type 0} (rounds : ℕ) (old new : World Link Seat K) (f : Option Fault) : Type 0 where
  pub told : (text before : List ℕ) → old.input.left ≡ Some text → old.output.written ≡ Some before
      → EndsPassword rounds text before old.desk new.desk new.output.written (result_of f)
  pub causes : IfSome f IsPasswordFault
  pub reach : (text : List ℕ) → old.input.left ≡ Some text → ReadsFront text new.input.left
  pub reads : OnlyReads (f ≡ Some fault.Read) old.input new.input
  pub draws : Counts (f ≡ Some fault.Desk) old.desk.fill_faults new.desk.fill_faults
  pub drew : DrawsOnce old.desk new.desk
  pub writes : OnlyWrites (f ≡ Some fault.Write) old.output new.output
  pub others : new ≡ record old { input = new.input; output = new.output; desk = new.desk }

-- | a drill writes its output, and touches nothing else
pub record Drills {Link Seat K : Type 0} (start count : ℕ) (old new : World Link Seat K) (f : Option Fault) : Type 0 where
  pub told : (before : List ℕ) → old.output.written ≡ Some before → EndsDrill start count before new.output.written (result_of f)
  pub causes : IfSome f IsDrillFault
  pub writes : OnlyWrites (f ≡ Some fault.Write) old.output new.output
  pub others : new ≡ record old { output = new.output }

-- | what each command does to what the program stands over: `talk` and `serve` alone have an identity at their end and touch the keeper
unfoldable pub Does : {Link Seat K : Type 0} → Keeping K → (Seat → Place Link) → (Link → StreamState) → Words → World Link Seat K → World Link Seat K → Option Fault → Option (BookedState K) → Type 0
Does keeping view stream asked.Check old new f state = Checks old new f × (state ≡ None)
Does keeping view stream (asked.Talk places) old new f state = Talks keeping old new f state
Does keeping view stream (asked.Serve places connections) old new f state = Serves keeping view stream places.workers connections old new f state
Does keeping view stream (asked.Setup places) old new f state = SetsUp old new f × (state ≡ None)
Does keeping view stream (asked.Rotate places max) old new f state = Rotates max old new f × (state ≡ None)
Does keeping view stream (asked.Password rounds) old new f state = MakesRecord rounds old new f × (state ≡ None)
Does keeping view stream (asked.Drill start count) old new f state = Drills start count old new f × (state ≡ None)
Does keeping view stream asked.Usage old new f state = (f ≡ Some fault.Usage) × (new ≡ old) × (state ≡ None)

-- | there was no memory to read the words: nothing happened
abbrev pub HasNotBegun : {Link Seat K : Type 0} → World Link Seat K → World Link Seat K → Option Fault → Option (BookedState K) → Type 0
HasNotBegun old new f state = (f ≡ Some fault.Memory) × (new ≡ old) × (state ≡ None)

-- | the program does what its words say, or there was no memory to read them; this is what the keeper, the other desks and the links tell
unfoldable pub Runs : {Link Seat K : Type 0} → Keeping K → (Seat → Place Link) → (Link → StreamState) → List (List ℕ) → World Link Seat K → World Link Seat K → Option Fault → Option (BookedState K) → Type 0
Runs keeping view stream words old new f state = Does keeping view stream (words_of words) old new f state ⊎ HasNotBegun old new f state
