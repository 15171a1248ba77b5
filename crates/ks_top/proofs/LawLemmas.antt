-- What holds of every run.
use Rattle.std.proofs.Common.{◌≡◌, ℕ, zero, suc, ◌-◌, ◌⊎◌, inl, inr, Bool, true, false, ◌||◌, List, [], ◌∷◌, take, map, Option, Some, None, refl, sym, ap, subst, ◌∙◌}
use Rattle.std.proofs.lemmas.Bool.{or_cases}
use Rattle.std.specs.List.{AllZip}
use Rattle.ks_base.specs.declared.faults.KeysFault.TheVariants as keys
use Rattle.ks_entries.specs.declared.header.Header.{Header}
use Rattle.ks_keep.specs.declared.keeping.KeeperFailed.{KeeperFailed}
use Rattle.ks_keep.specs.Books.{BookedState}
use Rattle.ks_keeper.specs.Keeper.{Keeping}
use Rattle.ks_machine.specs.Fronts.{Front}
use Rattle.ks_outside.specs.Counts.{Counts, Rose}
use Rattle.ks_outside.specs.Desks.{DeskState}
use Rattle.ks_outside.specs.Files.{DirState}
use Rattle.ks_outside.specs.Streams.{StreamState}
use Rattle.ks_server.specs.declared.closed.Closed.{Closed}
use Rattle.ks_server.specs.declared.closed.Closed.TheVariants as closed
use Rattle.ks_server.specs.Workers.{AreServed, Place, Shift, first_keeper, some_failed}
use Rattle.ks_setup.specs.declared.opening.OpeningFault.TheVariants as refusal
use Rattle.ks_words.specs.declared.words.Words.{Words}
use Rattle.ks_words.specs.declared.words.Words.TheVariants as asked
use Rattle.ks_words.specs.Words.{words_of}
use Rattle.ks_commands.specs.declared.fault.Fault.{Fault}
use Rattle.ks_commands.specs.declared.fault.Fault.TheVariants as fault
use Rattle.ks_top.specs.Identities.{Begins, Opened, Stopped, Stops, anew, early, given, other, unformed, unread}
use Rattle.ks_top.specs.Laws.{CommandsComplete, ConnectionsComplete, DeskFaultsAreCounted, EndsUnfailed, IsCounted, IsUnfailed, NothingFailed, SomeAcceptRose, StoodStill, places_of}
use Rattle.ks_commands.specs.Opened.{StopsOpening, StopsRestoring}
use Rattle.ks_top.specs.Runs.{ChangesKeys, Checks, Does, Drills, MakesRecord, Runs}
use Rattle.ks_top.specs.Serve.{serving, workers_fault}
use Rattle.ks_top.specs.Serve as serve
use Rattle.ks_top.specs.Talk.{ServedOne, Talks, ending}
use Rattle.ks_top.specs.World.{World}

-- a fault of this value was told

unfailed_as : (f g : Option Fault) → f ≡ g → EndsUnfailed g → EndsUnfailed f
unfailed_as f g is ends = subst EndsUnfailed (sym is) ends

-- `check`, `password`, `drill`, `setup` and `rotate`

check_unfailed : {Link Seat K : Type 0} (keeping : Keeping K) (view : Seat → Place Link) (old new : World Link Seat K) (f : Option Fault) → Checks old new f → NothingFailed keeping view old new → EndsUnfailed f
check_unfailed keeping view old new None checks nothing = tt
check_unfailed keeping view old new (Some fault.Read) checks nothing = absurd (nothing.input (checks.reads.reads.rose refl))
check_unfailed keeping view old new (Some fault.Write) checks nothing = absurd (nothing.output (checks.writes.writes.rose refl))
check_unfailed keeping view old new (Some fault.Memory) checks nothing = inl refl
check_unfailed keeping view old new (Some (fault.BadLine n)) checks nothing = inr (inl tt)
check_unfailed keeping view old new (Some fault.Usage) checks nothing = absurd checks.causes
check_unfailed keeping view old new (Some fault.BadPassword) checks nothing = absurd checks.causes
check_unfailed keeping view old new (Some (fault.Opening reason)) checks nothing = absurd checks.causes
check_unfailed keeping view old new (Some (fault.State reason)) checks nothing = absurd checks.causes
check_unfailed keeping view old new (Some (fault.Keeper why)) checks nothing = absurd checks.causes
check_unfailed keeping view old new (Some fault.OtherOpening) checks nothing = absurd checks.causes
check_unfailed keeping view old new (Some (fault.BadEntry n)) checks nothing = absurd checks.causes
check_unfailed keeping view old new (Some fault.Folder) checks nothing = absurd checks.causes
check_unfailed keeping view old new (Some (fault.Keys reason)) checks nothing = absurd checks.causes
check_unfailed keeping view old new (Some fault.Desk) checks nothing = absurd checks.causes

password_unfailed : {Link Seat K : Type 0} (keeping : Keeping K) (view : Seat → Place Link) (rounds : ℕ) (old new : World Link Seat K) (f : Option Fault) → MakesRecord rounds old new f → NothingFailed keeping view old new → EndsUnfailed f
password_unfailed keeping view rounds old new None makes nothing = tt
password_unfailed keeping view rounds old new (Some fault.Read) makes nothing = absurd (nothing.input (makes.reads.reads.rose refl))
password_unfailed keeping view rounds old new (Some fault.Write) makes nothing = absurd (nothing.output (makes.writes.writes.rose refl))
password_unfailed keeping view rounds old new (Some fault.Memory) makes nothing = inl refl
password_unfailed keeping view rounds old new (Some fault.BadPassword) makes nothing = inr (inl tt)
password_unfailed keeping view rounds old new (Some fault.Desk) makes nothing = absurd (nothing.fills (makes.draws.rose refl))
password_unfailed keeping view rounds old new (Some (fault.BadLine n)) makes nothing = absurd makes.causes
password_unfailed keeping view rounds old new (Some fault.Usage) makes nothing = absurd makes.causes
password_unfailed keeping view rounds old new (Some (fault.Opening reason)) makes nothing = absurd makes.causes
password_unfailed keeping view rounds old new (Some (fault.State reason)) makes nothing = absurd makes.causes
password_unfailed keeping view rounds old new (Some (fault.Keeper why)) makes nothing = absurd makes.causes
password_unfailed keeping view rounds old new (Some fault.OtherOpening) makes nothing = absurd makes.causes
password_unfailed keeping view rounds old new (Some (fault.BadEntry n)) makes nothing = absurd makes.causes
password_unfailed keeping view rounds old new (Some fault.Folder) makes nothing = absurd makes.causes
password_unfailed keeping view rounds old new (Some (fault.Keys reason)) makes nothing = absurd makes.causes

drill_unfailed : {Link Seat K : Type 0} (keeping : Keeping K) (view : Seat → Place Link) (start count : ℕ) (old new : World Link Seat K) (f : Option Fault) → Drills start count old new f → NothingFailed keeping view old new → EndsUnfailed f
drill_unfailed keeping view start count old new None drills nothing = tt
drill_unfailed keeping view start count old new (Some fault.Write) drills nothing = absurd (nothing.output (drills.writes.writes.rose refl))
drill_unfailed keeping view start count old new (Some fault.Memory) drills nothing = inl refl
drill_unfailed keeping view start count old new (Some fault.Read) drills nothing = absurd drills.causes
drill_unfailed keeping view start count old new (Some (fault.BadLine n)) drills nothing = absurd drills.causes
drill_unfailed keeping view start count old new (Some fault.Usage) drills nothing = absurd drills.causes
drill_unfailed keeping view start count old new (Some fault.BadPassword) drills nothing = absurd drills.causes
drill_unfailed keeping view start count old new (Some (fault.Opening reason)) drills nothing = absurd drills.causes
drill_unfailed keeping view start count old new (Some (fault.State reason)) drills nothing = absurd drills.causes
drill_unfailed keeping view start count old new (Some (fault.Keeper why)) drills nothing = absurd drills.causes
drill_unfailed keeping view start count old new (Some fault.OtherOpening) drills nothing = absurd drills.causes
drill_unfailed keeping view start count old new (Some (fault.BadEntry n)) drills nothing = absurd drills.causes
drill_unfailed keeping view start count old new (Some fault.Folder) drills nothing = absurd drills.causes
drill_unfailed keeping view start count old new (Some (fault.Keys reason)) drills nothing = absurd drills.causes
drill_unfailed keeping view start count old new (Some fault.Desk) drills nothing = absurd drills.causes

keys_unfailed : {Link Seat K : Type 0} (keeping : Keeping K) (view : Seat → Place Link) (old new : World Link Seat K) (f : Option Fault) → ChangesKeys old new f → NothingFailed keeping view old new → EndsUnfailed f
keys_unfailed keeping view old new None changes nothing = tt
keys_unfailed keeping view old new (Some fault.Write) changes nothing = absurd (nothing.output (changes.writes.writes.rose refl))
keys_unfailed keeping view old new (Some fault.Memory) changes nothing = inl refl
keys_unfailed keeping view old new (Some fault.Folder) changes nothing = absurd (nothing.folder (changes.folder.rose refl))
keys_unfailed keeping view old new (Some fault.Desk) changes nothing = absurd (nothing.fills (changes.draws.rose refl))
keys_unfailed keeping view old new (Some (fault.Keys keys.NoKeys)) changes nothing = inr (inl tt)
keys_unfailed keeping view old new (Some (fault.Keys keys.AlreadySet)) changes nothing = inr (inl tt)
keys_unfailed keeping view old new (Some (fault.Keys keys.IndexEnd)) changes nothing = inr (inl tt)
keys_unfailed keeping view old new (Some (fault.Keys keys.Failed)) changes nothing = absurd changes.causes
keys_unfailed keeping view old new (Some (fault.Keys (keys.BadKey index))) changes nothing = absurd changes.causes
keys_unfailed keeping view old new (Some (fault.Keys keys.TooMany)) changes nothing = absurd changes.causes
keys_unfailed keeping view old new (Some (fault.Keys keys.Memory)) changes nothing = absurd changes.causes
keys_unfailed keeping view old new (Some fault.Usage) changes nothing = absurd changes.causes
keys_unfailed keeping view old new (Some fault.BadPassword) changes nothing = absurd changes.causes
keys_unfailed keeping view old new (Some fault.Read) changes nothing = absurd changes.causes
keys_unfailed keeping view old new (Some (fault.BadLine n)) changes nothing = absurd changes.causes
keys_unfailed keeping view old new (Some (fault.Opening reason)) changes nothing = absurd changes.causes
keys_unfailed keeping view old new (Some (fault.State reason)) changes nothing = absurd changes.causes
keys_unfailed keeping view old new (Some (fault.Keeper why)) changes nothing = absurd changes.causes
keys_unfailed keeping view old new (Some fault.OtherOpening) changes nothing = absurd changes.causes
keys_unfailed keeping view old new (Some (fault.BadEntry n)) changes nothing = absurd changes.causes

-- an opening

anew_unfailed : {Link Seat K : Type 0} (keeping : Keeping K) (view : Seat → Place Link) (old new : World Link Seat K) (f : Fault) → StopsOpening old.file old.dir old.desk new.desk f
    → Stopped keeping old new f → NothingFailed keeping view old new → EndsUnfailed (Some f)
anew_unfailed keeping view old new fault.Read stops stopped nothing = absurd (nothing.file (stopped.file.reads.rose refl))
anew_unfailed keeping view old new fault.Memory stops stopped nothing = inl refl
anew_unfailed keeping view old new (fault.Opening (refusal.Shape reason)) stops stopped nothing = inr (inl tt)
anew_unfailed keeping view old new (fault.Opening (refusal.Policy reason)) stops stopped nothing = inr (inl tt)
anew_unfailed keeping view old new (fault.Opening (refusal.BadKey path)) stops stopped nothing = inr (inl tt)
anew_unfailed keeping view old new (fault.Opening refusal.Random) stops stopped nothing = absurd stops
anew_unfailed keeping view old new (fault.Opening refusal.Memory) stops stopped nothing = absurd stops
anew_unfailed keeping view old new (fault.State reason) stops stopped nothing = inr (inl stops.0)
anew_unfailed keeping view old new fault.Folder stops stopped nothing = absurd (nothing.folder (stopped.folder.faults.rose refl))
anew_unfailed keeping view old new (fault.Keys keys.NoKeys) stops stopped nothing = inr (inl tt)
anew_unfailed keeping view old new (fault.Keys (keys.BadKey index)) stops stopped nothing = inr (inl tt)
anew_unfailed keeping view old new (fault.Keys keys.TooMany) stops stopped nothing = inr (inl tt)
anew_unfailed keeping view old new (fault.Keys keys.Failed) stops stopped nothing = absurd stops
anew_unfailed keeping view old new (fault.Keys keys.AlreadySet) stops stopped nothing = absurd stops
anew_unfailed keeping view old new (fault.Keys keys.IndexEnd) stops stopped nothing = absurd stops
anew_unfailed keeping view old new (fault.Keys keys.Memory) stops stopped nothing = absurd stops
anew_unfailed keeping view old new fault.Desk stops stopped nothing = absurd (nothing.fills stops.refused.1.3)
anew_unfailed keeping view old new fault.Usage stops stopped nothing = absurd stops
anew_unfailed keeping view old new fault.BadPassword stops stopped nothing = absurd stops
anew_unfailed keeping view old new fault.Write stops stopped nothing = absurd stops
anew_unfailed keeping view old new (fault.BadLine n) stops stopped nothing = absurd stops
anew_unfailed keeping view old new (fault.Keeper None) stops stopped nothing = absurd (nothing.keeper (stopped.keeper.rose refl))
anew_unfailed keeping view old new (fault.Keeper (Some why)) stops stopped nothing = absurd stops
anew_unfailed keeping view old new fault.OtherOpening stops stopped nothing = absurd stops
anew_unfailed keeping view old new (fault.BadEntry n) stops stopped nothing = absurd stops

given_unfailed : {Link Seat K : Type 0} (keeping : Keeping K) (view : Seat → Place Link) (old new : World Link Seat K) (header : Header) (f : Fault)
    → StopsRestoring keeping old.keeper new.keeper header f → Stopped keeping old new f → NothingFailed keeping view old new → EndsUnfailed (Some f)
given_unfailed keeping view old new header fault.Memory stops stopped nothing = inl refl
given_unfailed keeping view old new header (fault.Opening (refusal.Shape reason)) stops stopped nothing = inr (inl tt)
given_unfailed keeping view old new header (fault.Opening (refusal.Policy reason)) stops stopped nothing = inr (inl tt)
given_unfailed keeping view old new header (fault.Opening (refusal.BadKey path)) stops stopped nothing = inr (inl tt)
given_unfailed keeping view old new header (fault.Opening refusal.Random) stops stopped nothing = absurd stops
given_unfailed keeping view old new header (fault.Opening refusal.Memory) stops stopped nothing = absurd stops
given_unfailed keeping view old new header (fault.State reason) stops stopped nothing = inr (inl stops.0)
given_unfailed keeping view old new header fault.OtherOpening stops stopped nothing = inr (inl tt)
given_unfailed keeping view old new header (fault.Keeper None) stops stopped nothing = absurd (nothing.keeper (stopped.keeper.rose refl))
given_unfailed keeping view old new header (fault.Keeper (Some why)) stops stopped nothing = absurd stops
given_unfailed keeping view old new header (fault.BadEntry n) stops stopped nothing = inr (inl tt)
given_unfailed keeping view old new header fault.Usage stops stopped nothing = absurd stops
given_unfailed keeping view old new header fault.Read stops stopped nothing = absurd stops
given_unfailed keeping view old new header fault.Write stops stopped nothing = absurd stops
given_unfailed keeping view old new header (fault.BadLine n) stops stopped nothing = absurd stops
given_unfailed keeping view old new header fault.BadPassword stops stopped nothing = absurd stops
given_unfailed keeping view old new header fault.Folder stops stopped nothing = absurd stops
given_unfailed keeping view old new header (fault.Keys reason) stops stopped nothing = absurd stops
given_unfailed keeping view old new header fault.Desk stops stopped nothing = absurd stops

stops_unfailed : {Link Seat K : Type 0} (keeping : Keeping K) (view : Seat → Place Link) (old new : World Link Seat K) (f : Fault) → Stops keeping old new f
    → Stopped keeping old new f → NothingFailed keeping view old new → EndsUnfailed (Some f)
stops_unfailed keeping view old new f (unread same) stopped nothing = absurd (nothing.keeper (stopped.keeper.rose refl))
stops_unfailed keeping view old new f (unformed reason refuses same) stopped nothing = inr (inl tt)
stops_unfailed keeping view old new f (anew f' none stops) stopped nothing = anew_unfailed keeping view old new f' stops stopped nothing
stops_unfailed keeping view old new f (early f' same (inl is)) stopped nothing = absurd (nothing.file (stopped.file.reads.rose is))
stops_unfailed keeping view old new f (early f' same (inr is)) stopped nothing = inl is
stops_unfailed keeping view old new f (other is same) stopped nothing = inr (inl tt)
stops_unfailed keeping view old new f (given f' s) stopped nothing = given_unfailed keeping view old new s.header f' s.stops stopped nothing

stopped_unfailed : {Link Seat K : Type 0} (keeping : Keeping K) (view : Seat → Place Link) (old new : World Link Seat K) (f : Fault) → Stopped keeping old new f
    → NothingFailed keeping view old new → EndsUnfailed (Some f)
stopped_unfailed keeping view old new f stopped nothing = stops_unfailed keeping view old new f stopped.stops stopped nothing

-- connections

closes_unfailed : (reads reads_after writes writes_after : ℕ) (why : Closed KeeperFailed) → Counts (why ≡ closed.ReadFault) reads reads_after → Counts (why ≡ closed.WriteFault) writes writes_after
    → StoodStill reads reads_after → StoodStill writes writes_after → IsUnfailed why
closes_unfailed reads reads_after writes writes_after closed.End read wrote still stayed = tt
closes_unfailed reads reads_after writes writes_after closed.Asked read wrote still stayed = tt
closes_unfailed reads reads_after writes writes_after closed.Last read wrote still stayed = tt
closes_unfailed reads reads_after writes writes_after (closed.BadHttp why) read wrote still stayed = tt
closes_unfailed reads reads_after writes writes_after closed.Memory read wrote still stayed = tt
closes_unfailed reads reads_after writes writes_after closed.Rests read wrote still stayed = tt
closes_unfailed reads reads_after writes writes_after closed.ReadFault read wrote still stayed = absurd (still (read.rose refl))
closes_unfailed reads reads_after writes writes_after closed.WriteFault read wrote still stayed = absurd (stayed (wrote.rose refl))
closes_unfailed reads reads_after writes writes_after (closed.KeeperFault why) read wrote still stayed = tt

pub connections_complete : ConnectionsComplete
connections_complete journal number visit visited still stayed =
    closes_unfailed visit.accepted.read_faults visit.returned.read_faults visit.accepted.write_faults visit.returned.write_faults visit.why visited.reads visited.writes still stayed

ending_unfailed : (why : Closed KeeperFailed) (f : Option Fault) → ending why f → IsUnfailed why → EndsUnfailed f
ending_unfailed closed.End f is unfailed = unfailed_as f None is tt
ending_unfailed closed.Asked f is unfailed = unfailed_as f None is tt
ending_unfailed closed.Last f is unfailed = unfailed_as f None is tt
ending_unfailed (closed.BadHttp why) f is unfailed = unfailed_as f None is tt
ending_unfailed closed.Memory f is unfailed = unfailed_as f (Some fault.Memory) is (inl refl)
ending_unfailed closed.Rests f is unfailed = absurd is
ending_unfailed closed.ReadFault f is unfailed = absurd unfailed
ending_unfailed closed.WriteFault f is unfailed = absurd unfailed
ending_unfailed (closed.KeeperFault why) f is unfailed = unfailed_as f (Some (fault.Keeper (Some why))) is (inr (inr (why, refl)))

talked_unfailed : {Link Seat K : Type 0} (keeping : Keeping K) (view : Seat → Place Link) (old new : World Link Seat K) (f : Option Fault) (state : BookedState K)
    → (opened : Opened keeping (λ first desk. ServedOne keeping old new f first desk state) old new) → NothingFailed keeping view old new → EndsUnfailed f
talked_unfailed keeping view old new f state opened nothing =
    elim opened.done as (λ _. EndsUnfailed f) [
      | inl s ↦ ending_unfailed s.why f s.ends (closes_unfailed old.input.read_faults new.input.read_faults old.output.write_faults new.output.write_faults s.why s.talked.reads s.talked.writes nothing.input nothing.output)
      | inr h ↦ unfailed_as f (Some fault.Memory) h.memory (inl refl)
    ]

talk_unfailed : {Link Seat K : Type 0} (keeping : Keeping K) (view : Seat → Place Link) (old new : World Link Seat K) (f : Option Fault) (state : Option (BookedState K)) → Talks keeping old new f state → NothingFailed keeping view old new → EndsUnfailed f
talk_unfailed keeping view old new (Some f) None talks nothing = stopped_unfailed keeping view old new f talks nothing
talk_unfailed keeping view old new None None talks nothing = absurd talks
talk_unfailed keeping view old new None (Some state) talks nothing = tt
talk_unfailed keeping view old new (Some f) (Some state) talks nothing = talked_unfailed keeping view old new (Some f) state talks.1 nothing

-- `serve`

or_none : (a b : Bool) → (a ≡ true → ⊥) → b ≡ false → (a || b) ≡ false
or_none true b never rest = absurd (never refl)
or_none false b never rest = rest

none_failed : {Link : Type 0} (stream : Link → StreamState) (connections : ℕ) (seen journal : Front) (olds news : List (Place Link)) (shifts : List (Shift KeeperFailed Link))
    → AreServed stream connections seen journal olds news shifts
    → AllZip (λ (before after : Place Link). StoodStill before.desk.accept_faults after.desk.accept_faults) olds news → some_failed shifts ≡ false
none_failed stream connections seen journal [] [] [] served still = refl
none_failed stream connections seen journal [] [] (shift ∷ shifts) served still = absurd served
none_failed stream connections seen journal [] (new ∷ news) shifts served still = absurd served
none_failed stream connections seen journal (old ∷ olds) [] shifts served still = absurd served
none_failed stream connections seen journal (old ∷ olds) (new ∷ news) [] served still = absurd served
none_failed stream connections seen journal (old ∷ olds) (new ∷ news) (shift ∷ shifts) served still =
    let rest = none_failed stream connections seen journal olds news shifts served.1 still.1 in
    or_none shift.failed (some_failed shifts) (λ failed. still.0 (served.0.accepts.rose failed)) rest

abbrev StillAccepts : {Link : Type 0} → Place Link → Place Link → Type 0
StillAccepts before after = StoodStill before.desk.accept_faults after.desk.accept_faults

-- to begin accepts nothing
begun_accepts : {Link Seat K : Type 0} (keeping : Keeping K) (old new : World Link Seat K) (desk : DeskState Link) (first : Front) → Begins keeping old new desk first
    → desk.accept_faults ≡ old.desk.accept_faults
begun_accepts keeping old new desk first (inl opened) = ap (λ (d : DeskState _). d.accept_faults) opened.opened.drew.kept
begun_accepts keeping old new desk first (inr on) = ap (λ (d : DeskState _). d.accept_faults) on.same_desk

accepted_first : {Link : Type 0} (old opened : DeskState Link) (count : ℕ) → opened.accept_faults ≡ old.accept_faults → StoodStill old.accept_faults count
    → StoodStill opened.accept_faults count
accepted_first old opened count kept still = subst (λ n. StoodStill n count) (sym kept) still

-- the workers told of no accept that failed
workers_unfailed : (keeper : Option KeeperFailed) → EndsUnfailed (workers_fault keeper false)
workers_unfailed None = tt
workers_unfailed (Some why) = inr (inr (why, refl))

first_of_zip : {A B : Type 0} (R : B → B → Type 0) (view : A → B) (count : ℕ) (xs ys : List A) → AllZip R (map view xs) (map view ys) → AllZip R (map view (take count xs)) (map view (take count ys))
first_of_zip R view zero xs ys all = tt
first_of_zip R view (suc count) [] [] all = tt
first_of_zip R view (suc count) [] (y ∷ ys) all = absurd all
first_of_zip R view (suc count) (x ∷ xs) [] all = absurd all
first_of_zip R view (suc count) (x ∷ xs) (y ∷ ys) all = (all.0, first_of_zip R view count xs ys all.1)

served_unfailed : {Link Seat K : Type 0} (keeping : Keeping K) (view : Seat → Place Link) (stream : Link → StreamState) (workers connections : ℕ) (old new : World Link Seat K) (f : Option Fault) (state : BookedState K)
    → (opened : Opened keeping (λ first desk. serve.Served keeping view stream workers connections old new f first desk state) old new) → NothingFailed keeping view old new → EndsUnfailed f
served_unfailed keeping view stream workers connections old new f state opened nothing =
    elim opened.done as (λ _. EndsUnfailed f) [
      | inl s ↦ unfailed_as f (workers_fault (first_keeper s.shifts) false) (s.ends ∙ ap (workers_fault (first_keeper s.shifts)) (none_failed stream connections opened.first s.journal
          (serving view workers opened.desk old.place old.others) (serving view workers new.desk new.place new.others) s.shifts s.desks (
            accepted_first old.desk opened.desk new.desk.accept_faults (begun_accepts keeping old new opened.desk opened.first opened.begins) nothing.accepts.0,
            first_of_zip StillAccepts view (workers - 1) old.others new.others nothing.accepts.1,
          ))) (workers_unfailed (first_keeper s.shifts))
      | inr h ↦ unfailed_as f (Some fault.Memory) h.memory (inl refl)
    ]

serve_unfailed : {Link Seat K : Type 0} (keeping : Keeping K) (view : Seat → Place Link) (stream : Link → StreamState) (workers connections : ℕ) (old new : World Link Seat K) (f : Option Fault) (state : Option (BookedState K))
    → serve.Serves keeping view stream workers connections old new f state → NothingFailed keeping view old new → EndsUnfailed f
serve_unfailed keeping view stream workers connections old new (Some f) None serves nothing = stopped_unfailed keeping view old new f serves nothing
serve_unfailed keeping view stream workers connections old new None None serves nothing = absurd serves
serve_unfailed keeping view stream workers connections old new None (Some state) serves nothing = tt
serve_unfailed keeping view stream workers connections old new (Some f) (Some state) serves nothing = served_unfailed keeping view stream workers connections old new (Some f) state serves.1 nothing

-- each command

does_unfailed : {Link Seat K : Type 0} (keeping : Keeping K) (view : Seat → Place Link) (stream : Link → StreamState) (what : Words) (old new : World Link Seat K) (f : Option Fault) (state : Option (BookedState K))
    → Does keeping view stream what old new f state → NothingFailed keeping view old new → EndsUnfailed f
unfolding Does
does_unfailed keeping view stream asked.Check old new f state does nothing = check_unfailed keeping view old new f does.0 nothing
does_unfailed keeping view stream (asked.Talk places) old new f state does nothing = talk_unfailed keeping view old new f state does nothing
does_unfailed keeping view stream (asked.Serve places connections) old new f state does nothing = serve_unfailed keeping view stream places.workers connections old new f state does nothing
does_unfailed keeping view stream (asked.Setup places) old new f state does nothing = keys_unfailed keeping view old new f does.0.changes nothing
does_unfailed keeping view stream (asked.Rotate places max) old new f state does nothing = keys_unfailed keeping view old new f does.0.changes nothing
does_unfailed keeping view stream (asked.Password rounds) old new f state does nothing = password_unfailed keeping view rounds old new f does.0 nothing
does_unfailed keeping view stream (asked.Drill start count) old new f state does nothing = drill_unfailed keeping view start count old new f does.0 nothing
does_unfailed keeping view stream asked.Usage old new f state does nothing = unfailed_as f (Some fault.Usage) does.0 (inr (inl tt))

pub commands_complete : (Link Seat : Type 0) {K : Type 0} (keeping : Keeping K) → CommandsComplete Link Seat keeping
unfolding Runs
commands_complete Link Seat {K} keeping view stream words old new f state (inl does) nothing = does_unfailed keeping view stream (words_of words) old new f state does nothing
commands_complete Link Seat {K} keeping view stream words old new f state (inr none) nothing = unfailed_as f (Some fault.Memory) none.0 (inl refl)

-- faults of the desks

check_counted : {Link Seat K : Type 0} (old new : World Link Seat K) → Checks old new (Some fault.Desk) → ⊥
check_counted old new checks = checks.causes

drill_counted : {Link Seat K : Type 0} (start count : ℕ) (old new : World Link Seat K) → Drills start count old new (Some fault.Desk) → ⊥
drill_counted start count old new drills = drills.causes

stops_counted : {Link Seat K : Type 0} (keeping : Keeping K) (old new : World Link Seat K) (f : Fault) → Stops keeping old new f → f ≡ fault.Desk
    → Rose old.desk.fill_faults new.desk.fill_faults
stops_counted keeping old new f (unread same) is = absurd (cc is)
stops_counted keeping old new f (unformed reason refuses same) is = absurd (cc is)
stops_counted keeping old new f (anew f' none stops) is =
    let refused : StopsOpening old.file old.dir old.desk new.desk fault.Desk = subst (StopsOpening old.file old.dir old.desk new.desk) is stops in
    refused.refused.1.3
stops_counted keeping old new f (early f' same (inl read)) is = absurd (cc (sym read ∙ is))
stops_counted keeping old new f (early f' same (inr memory)) is = absurd (cc (sym memory ∙ is))
stops_counted keeping old new f (other elsewhere same) is = absurd (cc is)
stops_counted keeping old new f (given f' s) is =
    let none : StopsRestoring keeping old.keeper new.keeper s.header fault.Desk = subst (StopsRestoring keeping old.keeper new.keeper s.header) is s.stops in
    absurd none

stopped_counted : {Link Seat K : Type 0} (keeping : Keeping K) (old new : World Link Seat K) → Stopped keeping old new fault.Desk → Rose old.desk.fill_faults new.desk.fill_faults
stopped_counted keeping old new stopped = stops_counted keeping old new fault.Desk stopped.stops refl

ending_is_none : (why : Closed KeeperFailed) → ending why (Some fault.Desk) → ⊥
ending_is_none closed.End is = cc is
ending_is_none closed.Asked is = cc is
ending_is_none closed.Last is = cc is
ending_is_none (closed.BadHttp why) is = cc is
ending_is_none closed.Memory is = cc is
ending_is_none closed.Rests is = is
ending_is_none closed.ReadFault is = cc is
ending_is_none closed.WriteFault is = cc is
ending_is_none (closed.KeeperFault why) is = cc is

talked_counted : {Link Seat K : Type 0} (keeping : Keeping K) (old new : World Link Seat K) (state : BookedState K) → (opened : Opened keeping (λ first desk. ServedOne keeping old new (Some fault.Desk) first desk state) old new) → ⊥
talked_counted keeping old new state opened = elim opened.done as (λ _. ⊥) [
  | inl s ↦ ending_is_none s.why s.ends
  | inr h ↦ cc h.memory
]

talk_counted : {Link Seat K : Type 0} (keeping : Keeping K) (view : Seat → Place Link) (old new : World Link Seat K) (state : Option (BookedState K)) → Talks keeping old new (Some fault.Desk) state → IsCounted view old new state
talk_counted keeping view old new None talks = stopped_counted keeping old new talks
talk_counted keeping view old new (Some state) talks = absurd (talked_counted keeping old new state talks.1)

some_rose : {Link : Type 0} (stream : Link → StreamState) (connections : ℕ) (seen journal : Front) (olds news : List (Place Link)) (shifts : List (Shift KeeperFailed Link))
    → AreServed stream connections seen journal olds news shifts → some_failed shifts ≡ true → SomeAcceptRose olds news
some_rose stream connections seen journal [] [] [] served failed = cc failed
some_rose stream connections seen journal [] [] (shift ∷ shifts) served failed = absurd served
some_rose stream connections seen journal [] (new ∷ news) shifts served failed = absurd served
some_rose stream connections seen journal (old ∷ olds) [] shifts served failed = absurd served
some_rose stream connections seen journal (old ∷ olds) (new ∷ news) [] served failed = absurd served
some_rose stream connections seen journal (old ∷ olds) (new ∷ news) (shift ∷ shifts) served failed =
    elim (or_cases shift.failed (some_failed shifts) failed) as (λ _. Rose old.desk.accept_faults new.desk.accept_faults ⊎ SomeAcceptRose olds news) [
      | inl here ↦ inl (served.0.accepts.rose here)
      | inr there ↦ inr (some_rose stream connections seen journal olds news shifts served.1 there)
    ]

rose_in_all : {Link Seat : Type 0} (view : Seat → Place Link) (count : ℕ) (xs ys : List Seat) → SomeAcceptRose (map view (take count xs)) (map view (take count ys)) → SomeAcceptRose (map view xs) (map view ys)
rose_in_all view zero xs ys rose = absurd rose
rose_in_all view (suc count) [] ys rose = absurd rose
rose_in_all view (suc count) (x ∷ xs) [] rose = absurd rose
rose_in_all view (suc count) (x ∷ xs) (y ∷ ys) rose =
    elim rose as (λ _. Rose (view x).desk.accept_faults (view y).desk.accept_faults ⊎ SomeAcceptRose (map view xs) (map view ys)) [
      | inl here ↦ inl here
      | inr there ↦ inr (rose_in_all view count xs ys there)
    ]

rose_of_first : {Link Seat : Type 0} (view : Seat → Place Link) (count : ℕ) (old opened : DeskState Link) (new : Place Link) (dir : DirState) (xs ys : List Seat)
    → opened.accept_faults ≡ old.accept_faults
    → SomeAcceptRose (record { desk = opened; dir = dir } ∷ map view (take count xs)) (new ∷ map view (take count ys)) → SomeAcceptRose (record { desk = old; dir = dir } ∷ map view xs) (new ∷ map view ys)
rose_of_first view count old opened new dir xs ys kept rose =
    elim rose as (λ _. Rose old.accept_faults new.desk.accept_faults ⊎ SomeAcceptRose (map view xs) (map view ys)) [
      | inl here ↦ inl (subst (λ n. Rose n new.desk.accept_faults) kept here)
      | inr there ↦ inr (rose_in_all view count xs ys there)
    ]

failed_of : (keeper : Option KeeperFailed) (failed : Bool) → Some fault.Desk ≡ workers_fault keeper failed → failed ≡ true
failed_of (Some why) failed is = absurd (cc is)
failed_of None true is = refl
failed_of None false is = absurd (cc is)

served_counted : {Link Seat K : Type 0} (keeping : Keeping K) (view : Seat → Place Link) (stream : Link → StreamState) (workers connections : ℕ) (old new : World Link Seat K) (state : BookedState K)
    → (opened : Opened keeping (λ first desk. serve.Served keeping view stream workers connections old new (Some fault.Desk) first desk state) old new) → SomeAcceptRose (places_of view old) (places_of view new)
served_counted keeping view stream workers connections old new state opened = elim opened.done as (λ _. SomeAcceptRose (places_of view old) (places_of view new)) [
  | inl s ↦ rose_of_first view (workers - 1) old.desk opened.desk (record { desk = new.desk; dir = new.place }) old.place old.others new.others (begun_accepts keeping old new opened.desk opened.first opened.begins)
      (some_rose stream connections opened.first s.journal (serving view workers opened.desk old.place old.others) (serving view workers new.desk new.place new.others) s.shifts s.desks (failed_of (first_keeper s.shifts) (some_failed s.shifts) s.ends))
  | inr h ↦ absurd (cc h.memory)
]

serve_counted : {Link Seat K : Type 0} (keeping : Keeping K) (view : Seat → Place Link) (stream : Link → StreamState) (workers connections : ℕ) (old new : World Link Seat K) (state : Option (BookedState K))
    → serve.Serves keeping view stream workers connections old new (Some fault.Desk) state → IsCounted view old new state
serve_counted keeping view stream workers connections old new None serves = stopped_counted keeping old new serves
serve_counted keeping view stream workers connections old new (Some state) serves = served_counted keeping view stream workers connections old new state serves.1

keys_counted : {Link Seat K : Type 0} (keeping : Keeping K) (view : Seat → Place Link) (old new : World Link Seat K) (state : Option (BookedState K)) → state ≡ None → ChangesKeys old new (Some fault.Desk) → IsCounted view old new state
keys_counted keeping view old new None none changes = changes.draws.rose refl
keys_counted keeping view old new (Some state) none changes = absurd (cc none)

password_counted : {Link Seat K : Type 0} (keeping : Keeping K) (view : Seat → Place Link) (rounds : ℕ) (old new : World Link Seat K) (state : Option (BookedState K)) → state ≡ None → MakesRecord rounds old new (Some fault.Desk) → IsCounted view old new state
password_counted keeping view rounds old new None none makes = makes.draws.rose refl
password_counted keeping view rounds old new (Some state) none makes = absurd (cc none)

does_count : {Link Seat K : Type 0} (keeping : Keeping K) (view : Seat → Place Link) (stream : Link → StreamState) (what : Words) (old new : World Link Seat K) (state : Option (BookedState K))
    → Does keeping view stream what old new (Some fault.Desk) state → IsCounted view old new state
unfolding Does
does_count keeping view stream asked.Check old new state does = absurd (check_counted old new does.0)
does_count keeping view stream (asked.Talk places) old new state does = talk_counted keeping view old new state does
does_count keeping view stream (asked.Serve places connections) old new state does = serve_counted keeping view stream places.workers connections old new state does
does_count keeping view stream (asked.Setup places) old new state does = keys_counted keeping view old new state does.1 does.0.changes
does_count keeping view stream (asked.Rotate places max) old new state does = keys_counted keeping view old new state does.1 does.0.changes
does_count keeping view stream (asked.Password rounds) old new state does = password_counted keeping view rounds old new state does.1 does.0
does_count keeping view stream (asked.Drill start count) old new state does = absurd (drill_counted start count old new does.0)
does_count keeping view stream asked.Usage old new state does = absurd (cc does.0)

pub desk_faults_are_counted : (Link Seat : Type 0) {K : Type 0} (keeping : Keeping K) → DeskFaultsAreCounted Link Seat keeping
unfolding Runs
desk_faults_are_counted Link Seat {K} keeping view stream words old new state (inl does) = does_count keeping view stream (words_of words) old new state does
desk_faults_are_counted Link Seat {K} keeping view stream words old new state (inr none) = absurd (cc none.0)
