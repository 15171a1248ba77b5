-- Wherever an identity was opened, all that was told is told by one journal.
use Rattle.std.proofs.Common.{◌≡◌, ℕ, ◌+◌, ◌⊎◌, inl, inr, List, [], ◌∷◌, ◌++◌, length, map, Option, Some, None, IfSome, refl, sym, ap, subst, ◌∙◌, append-nil, arith}
use Rattle.std.specs.List.{AllByRecursion}
use Rattle.ks_keep.specs.declared.keeping.KeeperFailed.{KeeperFailed}
use Rattle.ks_keep.specs.Books.{BookedState}
use Rattle.ks_keeper.specs.Keeper.{Keeping}
use Rattle.ks_laws.proofs.FrontLemmas.{lawful_is_sound}
use Rattle.ks_machine.specs.Fronts.{Front, IsSound, ◌⊑◌}
use Rattle.ks_machine.specs.Lawful.{IsLawful}
use Rattle.ks_machine.proofs.FrontLemmas.{reflexive}
use Rattle.ks_outside.specs.Desks.{DeskState}
use Rattle.ks_outside.specs.Streams.{StreamState}
use Rattle.ks_server.proofs.LawLemmas.{receipts_are_placed}
use Rattle.ks_server.proofs.OrderLemmas.{bare_before}
use Rattle.ks_server.proofs.TieLemmas.{tied_none}
use Rattle.ks_server.specs.declared.closed.Closed.{Closed}
use Rattle.ks_server.specs.Exchanges.{Exchange, bare, made}
use Rattle.ks_server.specs.Orders.{InOrder}
use Rattle.ks_server.specs.Ties.{Tied}
use Rattle.ks_server.specs.Work.{IsReadingAmong}
use Rattle.ks_server.specs.Workers.{AreServed, AreVisited, IsServed, Place, Shift, Visit, accepted_of, all_exchanges, exchanges_of, returned_of}
use Rattle.ks_words.specs.declared.words.Places.{Places}
use Rattle.ks_words.specs.declared.words.Words.{Words}
use Rattle.ks_words.specs.declared.words.Words.TheVariants as asked
use Rattle.ks_words.specs.Words.{words_of}
use Rattle.ks_commands.specs.declared.fault.Fault.{Fault}
use Rattle.ks_top.specs.Headline.{AreWorkers, HasLinks, Headline, TellsOf, Worker, exchanges_by, serves, talks}
use Rattle.ks_top.specs.Identities.{Begins, HadNoRoom}
use Rattle.ks_top.specs.Runs.{Does, Runs}
use Rattle.ks_top.specs.Serve.{ServedDesks, serving}
use Rattle.ks_top.specs.Talk as talk
use Rattle.ks_top.specs.World.{World, link_of}
use Rattle.ks_turn.specs.Sums.{below, times}

-- a worker

abbrev Told : {Link : Type 0} → Front → Worker Link → Type 0
Told journal w = AreVisited (λ link. link) journal 0 w.connections

tells_of : {Link : Type 0} (first journal : Front) (w : Worker Link) (xs : List Exchange) → exchanges_of w.connections ≡ xs → first ⊑ journal → IsSound first
    → InOrder first journal xs → Tied w.before.desk w.after.desk w.before.dir w.after.dir xs → Told journal w → TellsOf first journal w
tells_of first journal w xs are on sound order tied told =
    let in_order = subst (InOrder first journal) (sym are) order in
    record {
      tied = subst (Tied w.before.desk w.after.desk w.before.dir w.after.dir) (sym are) tied;
      in_order = in_order;
      placed = receipts_are_placed first journal (exchanges_of w.connections) in_order on sound;
      told = told;
    }

made_by : (first journal : Front) (all xs : List Exchange) → all ≡ xs
    → ((n : ℕ) → times n (made journal xs) + below n (length first.changes) ≡ below n (length journal.changes))
    → (n : ℕ) → times n (made journal all) + below n (length first.changes) ≡ below n (length journal.changes)
made_by first journal all xs are once n = ap (λ l. times n (made journal l) + below n (length first.changes)) are ∙ once n

abbrev IsHigh : Front → Front → List Exchange → Type 0
IsHigh first journal xs = (journal.high ≡ first.high) ⊎ IsReadingAmong journal.high xs

-- a server begins with all that is kept
begun_kept : {Link Seat K : Type 0} (keeping : Keeping K) (old new : World Link Seat K) (desk : DeskState Link) (first : Front) → Begins keeping old new desk first
    → first.kept ≡ length first.changes
begun_kept keeping old new desk first (inl anew) = ap (λ (f : Front). f.kept) anew.is_first ∙ sym (ap (λ (f : Front). length f.changes) anew.is_first)
begun_kept keeping old new desk first (inr on) = ap (λ (f : Front). f.kept) on.is_first ∙ sym (ap (λ (f : Front). length f.changes) on.is_first)

begun_sound : {Link Seat K : Type 0} (keeping : Keeping K) (old new : World Link Seat K) (desk : DeskState Link) (first : Front) → Begins keeping old new desk first → IsLawful first
    → IsSound first
begun_sound keeping old new desk first begins lawful =
    let kept = begun_kept keeping old new desk first begins in
    lawful_is_sound first lawful (omega (arith, kept))

-- there was no memory to serve: each desk is as the opening left it

abbrev idle : {Link : Type 0} → Place Link → Worker Link
idle place = record { before = place; after = place; connections = [] }

same_places : {Link : Type 0} (of : Worker Link → Place Link) (places : List (Place Link)) → ((place : Place Link) → of (idle place) ≡ place) → map of (map idle places) ≡ places
same_places of [] each = refl
same_places of (place ∷ places) each = λ i. each place i ∷ same_places of places each i

none_by : {Link : Type 0} (places : List (Place Link)) → exchanges_by (map idle places) ≡ []
none_by [] = refl
none_by (place ∷ places) = none_by places

all_idle : {Link : Type 0} (P : Worker Link → Type 0) (places : List (Place Link)) → ((place : Place Link) → P (idle place)) → AllByRecursion P (map idle places)
all_idle P [] each = tt
all_idle P (place ∷ places) each = (each place, all_idle P places each)

idle_tells : {Link : Type 0} (first : Front) (place : Place Link) → TellsOf first first (idle place)
idle_tells first place = record {
  tied = tied_none place.desk place.dir;
  in_order = record { now = bare first; goes = refl; on = bare_before first };
  placed = tt;
  told = tt;
}

idle_links : {Link : Type 0} (stream : Link → StreamState) (place : Place Link) → HasLinks stream (idle place)
idle_links stream place = record {
  came = [];
  went = [];
  are = (refl, refl);
  coming = λ links is. (links, refl, is);
  returned = λ told is. is ∙ ap Some (sym (append-nil told));
}

none_made : (first : Front) (n : ℕ) → times n (made first []) + below n (length first.changes) ≡ below n (length first.changes)
unfolding made
none_made first n = omega arith

none_told : {Link Seat K : Type 0} (keeping : Keeping K) (view : Seat → Place Link) (stream : Link → StreamState) (what : Words) (old new : World Link Seat K) (first : Front) (desk : DeskState Link) (count : ℕ) (f : Option Fault) (state : BookedState K)
    → Begins keeping old new desk first → IsLawful first → new.keeper ≡ state.keeper → HadNoRoom keeping old new first desk f state
    → AreWorkers view stream old new f (map idle (serving view count desk old.place old.others)) count what → Headline keeping view stream what old new f state
none_told keeping view stream what old new first desk count f state begins lawful kept had are =
    let places = serving view count desk old.place old.others in
    let none = none_by places in
    let place : old.place ≡ new.place = sym (ap (λ (w : World _ _ _). w.place) had.others) in
    let others : old.others ≡ new.others = sym (ap (λ (w : World _ _ _). w.others) had.others) in
    let stayed : places ≡ serving view count new.desk new.place new.others = λ i. serving view count (sym had.desk i) (place i) (others i) in
    record {
      first = first;
      desk = desk;
      journal = first;
      count = count;
      workers = map idle places;
      begins = begins;
      lawful = lawful;
      later = reflexive first;
      stands = had.stands;
      keeper = kept;
      made = made_by first first (exchanges_by (map idle places)) [] none (none_made first);
      high = inl refl;
      are = are;
      before = same_places (λ w. w.before) places (λ place. refl);
      after = same_places (λ w. w.after) places (λ place. refl) ∙ stayed;
      each = all_idle (TellsOf first first) places (idle_tells first);
    }

-- a talk

abbrev talk_of : {Link Seat K : Type 0} → World Link Seat K → World Link Seat K → DeskState Link → List Exchange → Closed KeeperFailed → Worker Link
talk_of old new desk xs why = record {
  before = record { desk = desk; dir = old.place };
  after = record { desk = new.desk; dir = new.place };
  connections = record { accepted = link_of old; returned = link_of new; exchanges = xs; why = why } ∷ [];
}

talk_told : {Link Seat K : Type 0} (keeping : Keeping K) (view : Seat → Place Link) (stream : Link → StreamState) (places : Places) (old new : World Link Seat K) (first : Front) (desk : DeskState Link) (f : Option Fault) (state : BookedState K)
    → Begins keeping old new desk first → IsLawful first → new.keeper ≡ state.keeper → talk.ServesOne keeping old new first desk f state
    → Headline keeping view stream (asked.Talk places) old new f state
talk_told keeping view stream places old new first desk f state begins lawful kept s =
    let t = s.talked in
    let w = talk_of old new desk s.exchanges s.why in
    let are : exchanges_by (w ∷ []) ≡ s.exchanges = append-nil (s.exchanges ++ []) ∙ append-nil s.exchanges in
    record {
      first = first;
      desk = desk;
      journal = s.journal;
      count = 1;
      workers = w ∷ [];
      begins = begins;
      lawful = lawful;
      later = t.later;
      stands = s.stands;
      keeper = kept;
      made = made_by first s.journal (exchanges_by (w ∷ [])) s.exchanges are t.made;
      high = subst (IsHigh first s.journal) (sym are) t.high;
      are = talks places (inl (refl, refl), tt);
      before = refl;
      after = refl;
      each = (
        tells_of first s.journal w s.exchanges (append-nil s.exchanges) t.later (begun_sound keeping old new desk first begins lawful) (record { now = bare s.journal; goes = t.in_order; on = bare_before s.journal }) t.tied
            (record { numbered = t.numbered; told = t.told; reads = t.reads; writes = t.writes; names = refl }, tt),
        tt,
      );
    }

-- desks that were served

abbrev visits_by : {Link : Type 0} → (Link → StreamState) → List (Visit KeeperFailed Link) → List (Visit KeeperFailed StreamState)
visits_by stream visits = map (λ v. record { accepted = stream v.accepted; returned = stream v.returned; exchanges = v.exchanges; why = v.why }) visits

same_exchanges : {Link : Type 0} (stream : Link → StreamState) (visits : List (Visit KeeperFailed Link)) → exchanges_of (visits_by stream visits) ≡ exchanges_of visits
same_exchanges stream [] = refl
same_exchanges stream (v ∷ visits) = ap (λ l. v.exchanges ++ l) (same_exchanges stream visits)

same_came : {Link : Type 0} (stream : Link → StreamState) (visits : List (Visit KeeperFailed Link)) → map stream (accepted_of visits) ≡ accepted_of (visits_by stream visits)
same_came stream [] = refl
same_came stream (v ∷ visits) = ap (λ l. stream v.accepted ∷ l) (same_came stream visits)

same_went : {Link : Type 0} (stream : Link → StreamState) (visits : List (Visit KeeperFailed Link)) → map stream (returned_of visits) ≡ returned_of (visits_by stream visits)
same_went stream [] = refl
same_went stream (v ∷ visits) = ap (λ l. stream v.returned ∷ l) (same_went stream visits)

all_told : {Link : Type 0} (stream : Link → StreamState) (journal : Front) (count : ℕ) (visits : List (Visit KeeperFailed Link)) → AreVisited stream journal count visits
    → AreVisited (λ link. link) journal count (visits_by stream visits)
all_told stream journal count [] visited = tt
all_told stream journal count (v ∷ visits) visited =
    let is = visited.0 in
    (record { numbered = is.numbered; told = is.told; reads = is.reads; writes = is.writes; names = is.names }, all_told stream journal (count + 1) visits visited.1)

-- the workers of these desks, and all that is said of them
pub record Served {Link : Type 0} (stream : Link → StreamState) (seen journal : Front) (olds news : List (Place Link)) (xs : List Exchange) : Type 0 where
  pub workers : List (Worker Link)
  pub before : map (λ w. w.before) workers ≡ olds
  pub after : map (λ w. w.after) workers ≡ news
  pub exchanges : exchanges_by workers ≡ xs
  pub links : AllByRecursion (HasLinks stream) workers
  pub each : AllByRecursion (TellsOf seen journal) workers

abbrev worker_of : {Link : Type 0} → (Link → StreamState) → Place Link → Place Link → Shift KeeperFailed Link → Worker Link
worker_of stream old new shift = record { before = old; after = new; connections = visits_by stream shift.visits }

worker_links : {Link : Type 0} (stream : Link → StreamState) (connections : ℕ) (seen journal : Front) (old new : Place Link) (shift : Shift KeeperFailed Link)
    → IsServed stream connections seen journal old new shift → HasLinks stream (worker_of stream old new shift)
worker_links stream connections seen journal old new shift served = record {
  came = accepted_of shift.visits;
  went = returned_of shift.visits;
  are = (same_came stream shift.visits, same_went stream shift.visits);
  coming = served.coming;
  returned = served.returned;
}

served_by : {Link : Type 0} (stream : Link → StreamState) (connections : ℕ) (seen journal : Front) (olds news : List (Place Link)) (shifts : List (Shift KeeperFailed Link))
    → seen ⊑ journal → IsSound seen → AreServed stream connections seen journal olds news shifts → Served stream seen journal olds news (all_exchanges shifts)
served_by stream connections seen journal [] [] [] on sound served = record { workers = []; before = refl; after = refl; exchanges = refl; links = tt; each = tt }
served_by stream connections seen journal [] [] (shift ∷ shifts) on sound served = absurd served
served_by stream connections seen journal [] (new ∷ news) shifts on sound served = absurd served
served_by stream connections seen journal (old ∷ olds) [] shifts on sound served = absurd served
served_by stream connections seen journal (old ∷ olds) (new ∷ news) [] on sound served = absurd served
served_by stream connections seen journal (old ∷ olds) (new ∷ news) (shift ∷ shifts) on sound served =
    let rest = served_by stream connections seen journal olds news shifts on sound served.1 in
    let w = worker_of stream old new shift in
    let same = same_exchanges stream shift.visits in
    record {
      workers = w ∷ rest.workers;
      before = ap (λ l. old ∷ l) rest.before;
      after = ap (λ l. new ∷ l) rest.after;
      exchanges = λ i. same i ++ rest.exchanges i;
      links = (worker_links stream connections seen journal old new shift served.0, rest.links);
      each = (
        tells_of seen journal w (exchanges_of shift.visits) same on sound served.0.in_order served.0.tied (all_told stream journal 0 shift.visits served.0.visited),
        rest.each,
      );
    }

serve_told : {Link Seat K : Type 0} (keeping : Keeping K) (view : Seat → Place Link) (stream : Link → StreamState) (places : Places) (connections : ℕ) (old new : World Link Seat K) (first : Front) (desk : DeskState Link) (f : Option Fault) (state : BookedState K)
    → Begins keeping old new desk first → IsLawful first → new.keeper ≡ state.keeper → ServedDesks keeping view stream places.workers connections old new f first desk state
    → Headline keeping view stream (asked.Serve places connections) old new f state
serve_told keeping view stream places connections old new first desk f state begins lawful kept s =
    let olds = serving view places.workers desk old.place old.others in
    let news = serving view places.workers new.desk new.place new.others in
    let all = served_by stream connections first s.journal olds news s.shifts s.later (begun_sound keeping old new desk first begins lawful) s.desks in
    record {
      first = first;
      desk = desk;
      journal = s.journal;
      count = places.workers;
      workers = all.workers;
      begins = begins;
      lawful = lawful;
      later = s.later;
      stands = s.stands;
      keeper = kept;
      made = made_by first s.journal (exchanges_by all.workers) (all_exchanges s.shifts) all.exchanges s.made;
      high = subst (IsHigh first s.journal) (sym all.exchanges) s.high;
      are = serves places connections all.links;
      before = all.before;
      after = all.after;
      each = all.each;
    }

-- each command

does_tell : {Link Seat K : Type 0} (keeping : Keeping K) (view : Seat → Place Link) (stream : Link → StreamState) (what : Words) (old new : World Link Seat K) (f : Option Fault) (state : BookedState K)
    → Does keeping view stream what old new f (Some state) → Headline keeping view stream what old new f state
unfolding Does
does_tell keeping view stream asked.Check old new f state does = absurd (cc does.1)
does_tell keeping view stream (asked.Talk places) old new f state does = elim does.1.done as (λ _. Headline keeping view stream (asked.Talk places) old new f state) [
  | inl s ↦ talk_told keeping view stream places old new does.1.first does.1.desk f state does.1.begins does.1.lawful does.0 s
  | inr had ↦ none_told keeping view stream (asked.Talk places) old new does.1.first does.1.desk 1 f state does.1.begins does.1.lawful does.0 had (talks places (inr (refl, had.memory), tt))
]
does_tell keeping view stream (asked.Serve places connections) old new f state does = elim does.1.done as (λ _. Headline keeping view stream (asked.Serve places connections) old new f state) [
  | inl s ↦ serve_told keeping view stream places connections old new does.1.first does.1.desk f state does.1.begins does.1.lawful does.0 s
  | inr had ↦ none_told keeping view stream (asked.Serve places connections) old new does.1.first does.1.desk places.workers f state does.1.begins does.1.lawful does.0 had
      (serves places connections (all_idle (HasLinks stream) (serving view places.workers does.1.desk old.place old.others) (idle_links stream)))
]
does_tell keeping view stream (asked.Setup places) old new f state does = absurd (cc does.1)
does_tell keeping view stream (asked.Rotate places max) old new f state does = absurd (cc does.1)
does_tell keeping view stream (asked.Password rounds) old new f state does = absurd (cc does.1)
does_tell keeping view stream (asked.Drill start count) old new f state does = absurd (cc does.1)
does_tell keeping view stream asked.Usage old new f state does = absurd (cc does.2)

-- wherever an identity was opened
pub headline : {Link Seat K : Type 0} (keeping : Keeping K) (view : Seat → Place Link) (stream : Link → StreamState) (words : List (List ℕ)) (old new : World Link Seat K) (f : Option Fault) (state : Option (BookedState K))
    → Runs keeping view stream words old new f state → IfSome state (Headline keeping view stream (words_of words) old new f)
unfolding Runs
headline keeping view stream words old new f None runs = tt
headline keeping view stream words old new f (Some state) (inl does) = does_tell keeping view stream (words_of words) old new f state does
headline keeping view stream words old new f (Some state) (inr none) = absurd (cc none.2)
