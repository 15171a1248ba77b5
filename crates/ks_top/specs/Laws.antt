-- What holds of every run: its end where nothing outside failed, the faults of its desks, and what determines its changes and replies.
-- Source: own; Identity API v3, revoke token; OS-REVOKE.
use Rattle.std.specs.Prelude.{◌≡◌, ◌≢◌, ◌⊎◌, ℕ, ◌≤◌, false, List, [], ◌∷◌, length, map, take, Option, Some, None}
use Rattle.std.specs.List.{AllZip}
use Rattle.ks_base.specs.declared.faults.KeysFault.TheVariants as keys
use Rattle.ks_base.specs.Tables.{Among}
use Rattle.ks_keep.specs.declared.keeping.KeeperFailed.{KeeperFailed}
use Rattle.ks_keep.specs.Books.{BookedState, HasHeader, Stand}
use Rattle.ks_keeper.specs.Keeper.{Keeping}
use Rattle.ks_machine.specs.declared.body_out.BodyOut.{BodyOut}
use Rattle.ks_machine.specs.declared.call.Call.{Call}
use Rattle.ks_machine.specs.declared.cause.Cause.{Cause}
use Rattle.ks_machine.specs.declared.cause.Cause.TheVariants as cause
use Rattle.ks_machine.specs.declared.reply.Reply.TheVariants as reply
use Rattle.ks_machine.specs.declared.settings.OpenFault.TheVariants as state
use Rattle.ks_machine.specs.declared.why.Why.{Why}
use Rattle.ks_machine.specs.Attempts.{Attempt, Go, everything}
use Rattle.ks_machine.specs.Fronts.{Front, ◌⊑◌, replay}
use Rattle.ks_machine.specs.Moment.{moment_of}
use Rattle.ks_machine.specs.Outcomes.{Outcome}
use Rattle.ks_machine.specs.States.{raised}
use Rattle.ks_machine.specs.Steps.{checked}
use Rattle.ks_machine.specs.Validity.{Valid}
use Rattle.ks_outside.specs.Counts.{Rose}
use Rattle.ks_outside.specs.Files.{KeyFile}
use Rattle.ks_outside.specs.Streams.{StreamState}
use Rattle.ks_server.specs.declared.closed.Closed.{Closed}
use Rattle.ks_server.specs.declared.closed.Closed.TheVariants as closed
use Rattle.ks_server.specs.Exchanges.{Exchange, calls, change_by, cut_at, front_after, receipts_of, reply_to}
use Rattle.ks_server.specs.Sessions.{IsTold}
use Rattle.ks_server.specs.Workers.{IsVisited, Place, Visit}
use Rattle.ks_setup.specs.declared.opening.OpeningFault.TheVariants as refusal
use Rattle.ks_words.specs.declared.words.Words.{Words}
use Rattle.ks_tokens.specs.Laws.{AsksFor, HasEnded, HasValidCaller}
use Rattle.ks_commands.specs.declared.fault.Fault.{Fault}
use Rattle.ks_commands.specs.declared.fault.Fault.TheVariants as fault
use Rattle.ks_top.specs.Headline.{Headline, Worker, exchanges_by}
use Rattle.ks_top.specs.Runs.{Runs}
use Rattle.ks_top.specs.World.{World}

-- a count of faults did not rise
abbrev pub StoodStill : ℕ → ℕ → Type 0
StoodStill before after = Rose before after → ⊥

-- all desks with their folders
abbrev pub places_of : {Link Seat K : Type 0} → (Seat → Place Link) → World Link Seat K → List (Place Link)
places_of view world = record { desk = world.desk; dir = world.place } ∷ map view world.others

-- | nothing outside failed: no count of faults rose
pub record NothingFailed {Link Seat K : Type 0} (keeping : Keeping K) (view : Seat → Place Link) (old new : World Link Seat K) : Type 0 where
  pub input : StoodStill old.input.read_faults new.input.read_faults
  pub file : StoodStill old.file.read_faults new.file.read_faults
  pub output : StoodStill old.output.write_faults new.output.write_faults
  pub folder : StoodStill old.dir.faults new.dir.faults
  pub fills : StoodStill old.desk.fill_faults new.desk.fill_faults
  pub keeper : StoodStill (keeping.faults old.keeper) (keeping.faults new.keeper)
  -- of the accepts of each desk
  pub accepts : AllZip (λ (before after : Place Link). StoodStill before.desk.accept_faults after.desk.accept_faults) (places_of view old) (places_of view new)

-- | the words or what was read is refused
abbrev pub IsRefusal : Fault → Type 0
IsRefusal fault.Usage = Unit {0}
IsRefusal fault.BadPassword = Unit {0}
IsRefusal (fault.BadLine n) = Unit {0}
IsRefusal (fault.Opening (refusal.Shape reason)) = Unit {0}
IsRefusal (fault.Opening (refusal.Policy reason)) = Unit {0}
IsRefusal (fault.Opening (refusal.BadKey path)) = Unit {0}
IsRefusal (fault.Opening refusal.Random) = ⊥
IsRefusal (fault.Opening refusal.Memory) = ⊥
IsRefusal (fault.State reason) = reason ≢ state.Memory
IsRefusal (fault.Keys keys.NoKeys) = Unit {0}
IsRefusal (fault.Keys (keys.BadKey index)) = Unit {0}
IsRefusal (fault.Keys keys.TooMany) = Unit {0}
IsRefusal (fault.Keys keys.AlreadySet) = Unit {0}
IsRefusal (fault.Keys keys.IndexEnd) = Unit {0}
IsRefusal (fault.Keys keys.Failed) = ⊥
IsRefusal (fault.Keys keys.Memory) = ⊥
IsRefusal fault.Read = ⊥
IsRefusal fault.Write = ⊥
IsRefusal fault.Memory = ⊥
IsRefusal fault.Folder = ⊥
IsRefusal fault.Desk = ⊥
IsRefusal fault.OtherOpening = Unit {0}
IsRefusal (fault.BadEntry n) = Unit {0}
IsRefusal (fault.Keeper why) = ⊥

-- a connection ended since changes could not be kept. That this is counted says the call that keeps them, which alone makes such a fault
abbrev pub IsUnkept : Fault → Type 0
IsUnkept f = (why : KeeperFailed) × (f ≡ fault.Keeper (Some why))

-- | a command ended whole, or for want of memory, or by a refusal, or since changes could not be kept
abbrev pub EndsUnfailed : Option Fault → Type 0
EndsUnfailed None = Unit {0}
EndsUnfailed (Some f) = (f ≡ fault.Memory) ⊎ (IsRefusal f ⊎ IsUnkept f)

-- law: where nothing outside failed, a command ends so
abbrev pub CommandsComplete : (Link Seat : Type 0) {K : Type 0} → Keeping K → Type 0
CommandsComplete Link Seat {K} keeping =
    (view : Seat → Place Link) (stream : Link → StreamState) (words : List (List ℕ)) (old new : World Link Seat K) (f : Option Fault) (state : Option (BookedState K))
    → Runs keeping view stream words old new f state → NothingFailed keeping view old new → EndsUnfailed f

-- | a connection ended with its input, with a request or bytes that end it, for want of memory, or since changes could not be kept, or it
-- rests between two requests
abbrev pub IsUnfailed : Closed KeeperFailed → Type 0
IsUnfailed closed.End = Unit {0}
IsUnfailed closed.Asked = Unit {0}
IsUnfailed closed.Last = Unit {0}
IsUnfailed (closed.BadHttp why) = Unit {0}
IsUnfailed closed.Memory = Unit {0}
IsUnfailed closed.Rests = Unit {0}
IsUnfailed closed.ReadFault = ⊥
IsUnfailed closed.WriteFault = ⊥
IsUnfailed (closed.KeeperFault why) = Unit {0}

-- law: where no read and no write of its link failed, a connection of `talk` or of `serve` ended so; none of a talk rests (`Talked`)
abbrev pub ConnectionsComplete : Type 0
ConnectionsComplete =
    (journal : Front) (number : ℕ) (visit : Visit KeeperFailed StreamState) → IsVisited (λ link. link) journal number visit
    → StoodStill visit.accepted.read_faults visit.returned.read_faults → StoodStill visit.accepted.write_faults visit.returned.write_faults → IsUnfailed visit.why

-- | an accept of some desk failed
abbrev pub SomeAcceptRose : {Link : Type 0} → List (Place Link) → List (Place Link) → Type 0
SomeAcceptRose [] news = ⊥
SomeAcceptRose (old ∷ olds) [] = ⊥
SomeAcceptRose (old ∷ olds) (new ∷ news) = Rose old.desk.accept_faults new.desk.accept_faults ⊎ SomeAcceptRose olds news

-- a fault of the desks was counted: of the accepts where an identity was opened, else of the first desk's random bytes
abbrev pub IsCounted : {Link Seat K : Type 0} → (Seat → Place Link) → World Link Seat K → World Link Seat K → Option (BookedState K) → Type 0
IsCounted view old new (Some state) = SomeAcceptRose (places_of view old) (places_of view new)
IsCounted view old new None = Rose old.desk.fill_faults new.desk.fill_faults

abbrev pub DeskFaultsAreCounted : (Link Seat : Type 0) {K : Type 0} → Keeping K → Type 0
DeskFaultsAreCounted Link Seat {K} keeping =
    (view : Seat → Place Link) (stream : Link → StreamState) (words : List (List ℕ)) (old new : World Link Seat K) (state : Option (BookedState K))
    → Runs keeping view stream words old new (Some fault.Desk) state → IsCounted view old new state

-- what determines a run

-- | two connections had the same bytes to read, and their exchanges have the same receipts; what was written on each before is told
pub record SameBytes (v w : Visit KeeperFailed StreamState) : Type 0 where
  pub bytes : List ℕ
  pub told : (v.accepted.left ≡ Some bytes) × (w.accepted.left ≡ Some bytes)
  pub written : (before : List ℕ) × (v.accepted.written ≡ Some before)
  pub written_too : (before : List ℕ) × (w.accepted.written ≡ Some before)
  pub receipts : receipts_of v.exchanges ≡ receipts_of w.exchanges

-- | two workers had such connections one after the other, the same readings of their clocks, and folders that hold the same
pub record TellsAlike {Link : Type 0} (v w : Worker Link) : Type 0 where
  pub links : AllZip SameBytes v.connections w.connections
  pub readings : List ℕ
  pub given : (v.before.desk.readings ≡ Some readings) × (w.before.desk.readings ≡ Some readings)
  pub files : List KeyFile
  pub held : (v.before.dir.files ≡ Some files) × (w.before.dir.files ≡ Some files)

-- law: two runs that began alike, and whose workers had the same bytes, receipts, readings and folders, have made the same changes: what
-- was outside, and the places that the receipts name, determine them
abbrev pub ChangesAreDetermined : (Link Seat : Type 0) {K : Type 0} → Keeping K → Type 0
ChangesAreDetermined Link Seat {K} keeping =
    (view : Seat → Place Link) (stream : Link → StreamState) (what what_too : Words) (old new old_too new_too : World Link Seat K) (f f_too : Option Fault) (state state_too : BookedState K)
    → (one : Headline keeping view stream what old new f state) (other : Headline keeping view stream what_too old_too new_too f_too state_too)
    → one.first ≡ other.first → AllZip TellsAlike one.workers other.workers → one.journal.changes ≡ other.journal.changes

-- requests

-- | the checks of a call at a front, and what it gives where all pass
abbrev pub checked_at : Front → Call → Attempt Cause Outcome
checked_at front call = let moment = moment_of front.high call.reading in checked everything (raised (replay front) moment) moment call

-- law: where all checks of a call pass at its front, which needs room in the tables, an id that is free, and that no draw and no folder
-- failed, the exchange has the Ok reply of that call; and it makes the call's change unless there was no memory for it
abbrev pub RequestsComplete : Type 0
RequestsComplete =
    (journal : Front) (x : Exchange) (call : Call) (outcome : Outcome) → x.asked ≡ calls call → checked_at (cut_at journal x.receipt) call ≡ Go outcome
    → (reply_to journal x ≡ reply.Ok outcome.told) × (x.receipt.memory ≡ false → change_by journal x ≡ outcome.change)

-- tokens that were ended

-- | an exchange ended this token: it was asked to revoke the token of its subject, did so, and there was memory for it
pub record EndsToken (journal : Front) (x : Exchange) (token : Valid) : Type 0 where
  pub call : Call
  pub asked : x.asked ≡ calls call
  pub decided : x.receipt.memory ≡ false
  pub ended : HasEnded (cut_at journal x.receipt) call token

-- | an exchange has seen this one, and asks about this token
pub record AsksLater (journal : Front) (x y : Exchange) (call : Call) (token : Valid) : Type 0 where
  pub asked : y.asked ≡ calls call
  pub seen : front_after journal x ⊑ cut_at journal y.receipt
  pub about : AsksFor (cut_at journal y.receipt) call token

-- law: such an exchange of a run is not answered Ok; where its caller's own token is valid, it is refused for its subject's (404)
abbrev pub RefusedEverAfter : (Link Seat : Type 0) {K : Type 0} → Keeping K → Type 0
RefusedEverAfter Link Seat {K} keeping =
    (view : Seat → Place Link) (stream : Link → StreamState) (what : Words) (old new : World Link Seat K) (f : Option Fault) (state : BookedState K)
    → (run : Headline keeping view stream what old new f state) (x y : Exchange) (call : Call) (token : Valid)
    → EndsToken run.journal x token → Among (exchanges_by run.workers) y → AsksLater run.journal x y call token
    → ((told : BodyOut) → reply_to run.journal y ≢ reply.Ok told)
    × (HasValidCaller (cut_at run.journal y.receipt) call → (why : Why) × (reply_to run.journal y ≡ reply.Refused (cause.SubjectToken why)))

-- what is kept

-- law: each change that a response can show which was written stands with the keeper at the end of the run, and so does each before it
abbrev pub ToldIsKept : (Link Seat : Type 0) {K : Type 0} → Keeping K → Type 0
ToldIsKept Link Seat {K} keeping =
    (view : Seat → Place Link) (stream : Link → StreamState) (what : Words) (old new : World Link Seat K) (f : Option Fault) (state : BookedState K)
    → (run : Headline keeping view stream what old new f state) (x : Exchange) (call : Call)
    → x.asked ≡ calls call → IsTold run.journal x → keeping.whole new.keeper
    → Stand (keeping.kept new.keeper).entries 0 (take (length (front_after run.journal x).changes) run.journal.changes)

-- law: a run that finds with its keeper what another left there, which nobody else wrote, goes on from its journal: it has the first of its
-- changes, those at least that count as kept, and so each that a response could show; and the one header gives the opening of both
abbrev pub RestartForgetsNothing : (Link Seat : Type 0) {K : Type 0} → Keeping K → Type 0
RestartForgetsNothing Link Seat {K} keeping =
    (view : Seat → Place Link) (stream : Link → StreamState) (what what_too : Words) (old new old_too new_too : World Link Seat K) (f f_too : Option Fault) (state state_too : BookedState K)
    → (one : Headline keeping view stream what old new f state) (next : Headline keeping view stream what_too old_too new_too f_too state_too)
    → keeping.whole new.keeper → keeping.whole new_too.keeper → keeping.kept old_too.keeper ≡ keeping.kept new.keeper
    → (count : ℕ) × (one.journal.kept ≤ count) × (count ≤ length one.journal.changes) × (next.first.changes ≡ take count one.journal.changes)
    × HasHeader (keeping.kept new.keeper) one.journal.opening × HasHeader (keeping.kept new.keeper) next.first.opening
