-- A worker serves link after link, and ends.
use Rattle.std.proofs.Common.{◌≡◌, ◌≢◌, inl, inr, ℕ, ◌+◌, ◌%◌, ◌^◌, ◌<◌, ◌≤◌, Bool, true, false, List, [], ◌∷◌, ◌++◌, length, Option, Some, None, refl, sym, ap, subst, ◌∙◌, arith, append_assoc, append-nil}
use Rattle.std.proofs.lemmas.List.{map-append, length_push}
use Rattle.std.proofs.lemmas.List.Concat.{flat_map-append}
use Rattle.ks_machine.specs.Fronts.{Front, ◌⊑◌}
use Rattle.ks_outside.specs.Counts.{Counts}
use Rattle.ks_outside.specs.Desks.{DeskState, Makes}
use Rattle.ks_outside.specs.Files.{DirState}
use Rattle.ks_outside.specs.Streams.{Appends, StreamState}
use Rattle.ks_server.proofs.LawLemmas.{moves_in_order}
use Rattle.ks_server.proofs.OrderLemmas.{AreWithin, within_of}
use Rattle.ks_server.proofs.SessionLemmas.{ends_kept, within_first, within_last}
use Rattle.ks_server.proofs.WorkLemmas.{works_both, works_none}
use Rattle.ks_server.specs.declared.closed.Closed.{Closed}
use Rattle.ks_server.specs.declared.closed.Closed.TheVariants as closed
use Rattle.ks_server.specs.Exchanges.{Exchange, bare}
use Rattle.ks_server.specs.Ties.{KeepsLinks, Tied}
use Rattle.ks_server.specs.Work.{ServesLink, Works}
use Rattle.ks_server.specs.Workers.{AreVisited, EndsAtKeeper, EndsShift, HasNoKeeperFault, HaveNoKeeperFault, IsVisited, Place, Visit, accepted_of, exchanges_of, returned_of}
use Rattle.ks_server.specs.steps.Shifts.{HaveServed, IsWorked, Working}
use Rattle.ks_turn.specs.Passes.{Passed}

-- lists of visits

pub exchanges_more : {F Link : Type 0} (visits : List (Visit F Link)) (visit : Visit F Link) → exchanges_of (visits ++ visit ∷ []) ≡ exchanges_of visits ++ visit.exchanges
exchanges_more {F} {Link} visits visit =
    flat_map-append (λ (v : Visit F Link). v.exchanges) visits (visit ∷ []) ∙ ap (λ l. exchanges_of visits ++ l) (append-nil visit.exchanges)

accepted_more : {F Link : Type 0} (visits : List (Visit F Link)) (visit : Visit F Link) → accepted_of (visits ++ visit ∷ []) ≡ accepted_of visits ++ visit.accepted ∷ []
accepted_more {F} {Link} visits visit = map-append (λ (v : Visit F Link). v.accepted) visits (visit ∷ [])

returned_more : {F Link : Type 0} (visits : List (Visit F Link)) (visit : Visit F Link) → returned_of (visits ++ visit ∷ []) ≡ returned_of visits ++ visit.returned ∷ []
returned_more {F} {Link} visits visit = map-append (λ (v : Visit F Link). v.returned) visits (visit ∷ [])

faultless_more : {F Link : Type 0} (visits : List (Visit F Link)) (visit : Visit F Link) → HaveNoKeeperFault visits → HasNoKeeperFault visit.why → HaveNoKeeperFault (visits ++ visit ∷ [])
faultless_more [] visit none one = (one, tt)
faultless_more (v ∷ visits) visit none one = (none.0, faultless_more visits visit none.1 one)

-- what is told of links is told at each later journal

visit_kept : {F Link : Type 0} (state : Link → StreamState) (f g : Front) → f ⊑ g → (connection : ℕ) (visit : Visit F Link) → AreWithin f visit.exchanges → IsVisited state f connection visit → IsVisited state g connection visit
visit_kept state f g on connection visit within h = record {
  numbered = h.numbered;
  told = λ text before left_is written_is.
      ends_kept visit.why f g on text before (state visit.returned).left (state visit.returned).written visit.exchanges within (h.told text before left_is written_is);
  reads = h.reads;
  writes = h.writes;
  names = h.names;
}

pub visited_kept : {F Link : Type 0} (state : Link → StreamState) (f g : Front) → f ⊑ g → (count : ℕ) (visits : List (Visit F Link)) → AreWithin f (exchanges_of visits) → AreVisited state f count visits → AreVisited state g count visits
visited_kept state f g on count [] within h = tt
visited_kept state f g on count (visit ∷ visits) within h = (
  visit_kept state f g on (count % 2 ^ 64) visit (within_first f visit.exchanges (exchanges_of visits) within) h.0,
  visited_kept state f g on (count + 1) visits (within_last f visit.exchanges (exchanges_of visits) within) h.1,
)

visited_more : {F Link : Type 0} (state : Link → StreamState) (journal : Front) (count : ℕ) (visits : List (Visit F Link)) (visit : Visit F Link)
    → AreVisited state journal count visits → (number : ℕ) → number ≡ count + length visits → IsVisited state journal (number % 2 ^ 64) visit → AreVisited state journal count (visits ++ visit ∷ [])
visited_more state journal count [] visit h number is one = (subst (λ n. IsVisited state journal (n % 2 ^ 64) visit) (omega (arith, is)) one, tt)
visited_more state journal count (v ∷ visits) visit h number is one = (h.0, visited_more state journal (count + 1) visits visit h.1 number (omega (arith, is)) one)

-- what a desk has beside links stays

pub record KeepsRest {Link : Type 0} (old new : DeskState Link) : Type 0 where
  pub readings : new.readings ≡ old.readings
  pub random : new.random ≡ old.random
  pub receipts : new.receipts ≡ old.receipts
  pub calls : new.calls ≡ old.calls
  pub fill_faults : new.fill_faults ≡ old.fill_faults

tied_from : {Link : Type 0} (a b c : DeskState Link) (d e : DirState) (xs : List Exchange) → KeepsRest a b → Tied b c d e xs → Tied a c d e xs
tied_from a b c d e xs keeps h = record {
  asked = h.asked;
  receipts = λ before told. h.receipts before (keeps.receipts ∙ told);
  draws = λ bytes told. h.draws bytes (keeps.random ∙ told);
  readings = λ given told. h.readings given (keeps.readings ∙ told);
  called = h.called;
  in_turn = h.in_turn;
  calls = subst (λ calls. Makes h.called calls c.calls) keeps.calls h.calls;
  failed_draws = let same = keeps.fill_faults in let rises = h.failed_draws in record { kept = omega (arith, same, rises.kept); rose = omega (arith, same, rises.rose) };
  failed_folders = h.failed_folders;
  folder = h.folder;
  files = h.files;
}

tied_to : {Link : Type 0} (a b c : DeskState Link) (d e : DirState) (xs : List Exchange) → Tied a b d e xs → KeepsRest b c → Tied a c d e xs
tied_to a b c d e xs h keeps = record {
  asked = h.asked;
  receipts = λ before told. keeps.receipts ∙ h.receipts before told;
  draws = λ bytes told. let then = h.draws bytes told in (then.0, then.1, keeps.random ∙ then.2);
  readings = λ given told. let then = h.readings given told in (then.0, then.1, keeps.readings ∙ then.2);
  called = h.called;
  in_turn = h.in_turn;
  calls = subst (λ calls. Makes h.called a.calls calls) (sym keeps.calls) h.calls;
  failed_draws = let same = keeps.fill_faults in let rises = h.failed_draws in record { kept = omega (arith, same, rises.kept); rose = omega (arith, same, rises.rose) };
  failed_folders = h.failed_folders;
  folder = h.folder;
  files = h.files;
}

-- an accept, and giving a link back

pub record Accepted {Link : Type 0} (old new : DeskState Link) : Type 0 where
  pub rest : KeepsRest old new
  pub returned : new.returned ≡ old.returned

pub accepted_by : {Link : Type 0} (old new : DeskState Link) → new ≡ record old { coming = new.coming; link_room = new.link_room; accept_faults = new.accept_faults } → Accepted old new
accepted_by old new kept = record {
  rest = record { readings = ap (λ d. d.readings) kept; random = ap (λ d. d.random) kept; receipts = ap (λ d. d.receipts) kept; calls = ap (λ d. d.calls) kept; fill_faults = ap (λ d. d.fill_faults) kept };
  returned = ap (λ d. d.returned) kept;
}

pub record GivenBack {Link : Type 0} (old new : DeskState Link) : Type 0 where
  pub rest : KeepsRest old new
  pub coming : new.coming ≡ old.coming
  pub accepts : new.accept_faults ≡ old.accept_faults

pub given_back_by : {Link : Type 0} (old new : DeskState Link) → new ≡ record old { returned = new.returned; link_room = new.link_room } → GivenBack old new
given_back_by old new kept = record {
  rest = record { readings = ap (λ d. d.readings) kept; random = ap (λ d. d.random) kept; receipts = ap (λ d. d.receipts) kept; calls = ap (λ d. d.calls) kept; fill_faults = ap (λ d. d.fill_faults) kept };
  coming = ap (λ d. d.coming) kept;
  accepts = ap (λ d. d.accept_faults) kept;
}

-- what an accept says where it hands out a link, and where none comes

abbrev pub Hands : {Link : Type 0} → DeskState Link → DeskState Link → Link → Type 0
Hands {Link} old new link = (coming : List Link) → old.coming ≡ Some coming → (rest : List Link) × (coming ≡ link ∷ rest) × (new.coming ≡ Some rest)

abbrev pub HandsNone : {Link : Type 0} → DeskState Link → DeskState Link → Type 0
HandsNone {Link} old new = (coming : List Link) → old.coming ≡ Some coming → (coming ≡ []) × (new.coming ≡ Some [])

-- a worker begins

pub nothing_served : {Link : Type 0} (F : Type 0) (state : Link → StreamState) (pass : Passed) (place : Place Link) → HaveServed {F = F} state pass pass place place []
nothing_served F state pass place = record {
  works = works_none pass place.desk place.dir;
  visited = tt;
  coming = λ links told. (links, refl, told);
  returned = λ before told. told ∙ ap Some (sym (append-nil before));
  accepts = omega arith;
}

pub begins : {Link : Type 0} (F : Type 0) (state : Link → StreamState) (connections : ℕ) (pass : Passed) (place : Place Link) → Working F state connections 0 pass pass place place
begins F state connections pass place = record {
  visits = [];
  served = nothing_served F state pass place;
  number_is = omega arith;
  few = λ bound. omega arith;
  kept = tt;
}

-- and serves one more link
module _ {F Link : Type 0} {state : Link → StreamState} {old now next : Passed} {place : Place Link} {desk accepted served desk_new : DeskState Link} {dir dir_new : DirState} {visits : List (Visit F Link)}
    (h : HaveServed state old now place (record { desk = desk; dir = dir }) visits)
    {link link_new : Link} (came : Hands desk accepted link)
    (accepts : Accepted desk accepted) (counted : desk.accept_faults ≤ accepted.accept_faults)
    {number : ℕ} {why : Closed F}
    (links : KeepsLinks accepted served) (serves : ServesLink now next accepted served dir dir_new number (state link) (state link_new) why)
    (returned : Appends (link_new ∷ []) served.returned desk_new.returned) (gives : GivenBack served desk_new) where
  abbrev pub visit : Visit F Link
  visit = record { accepted = link; returned = link_new; exchanges = serves.exchanges; why = why }

  is_visited : IsVisited state next.seen number visit
  is_visited = record { numbered = serves.numbered; told = serves.told; reads = serves.reads; writes = serves.writes; names = serves.names }

  works_more : Works now next desk desk_new dir dir_new serves.exchanges
  works_more = record {
    moves = serves.works.moves;
    tied = tied_to desk served desk_new dir dir_new serves.exchanges (tied_from desk accepted served dir dir_new serves.exchanges accepts.rest serves.works.tied) gives.rest;
  }

  coming_more : (all : List Link) → place.desk.coming ≡ Some all → (rest : List Link) × (all ≡ accepted_of (visits ++ visit ∷ []) ++ rest) × (desk_new.coming ≡ Some rest)
  coming_more all told =
      let before = h.coming all told in
      let one = came before.0 before.2 in (
        one.0,
        before.1 ∙ ap (λ l. accepted_of visits ++ l) one.1
            ∙ sym (append_assoc (accepted_of visits) (link ∷ []) one.0)
            ∙ ap (λ l. l ++ one.0) (sym (accepted_more visits visit)),
        gives.coming ∙ links.coming ∙ one.2,
      )

  returned_all : Appends (returned_of (visits ++ visit ∷ [])) place.desk.returned desk_new.returned
  returned_all before told =
      returned (before ++ returned_of visits) (links.returned ∙ accepts.returned ∙ h.returned before told)
      ∙ ap Some (append_assoc before (returned_of visits) (link_new ∷ []) ∙ ap (λ l. before ++ l) (sym (returned_more visits visit)))

  pub served_more : number ≡ length visits % 2 ^ 64 → HaveServed state old next place (record { desk = desk_new; dir = dir_new }) (visits ++ visit ∷ [])
  served_more number_is = record {
    works = subst (λ xs. Works old next place.desk desk_new place.dir dir_new xs) (sym (exchanges_more visits visit)) (works_both h.works works_more);
    visited =
        visited_more state next.seen 0 visits visit
        (visited_kept state now.seen next.seen serves.works.moves.later 0 visits (within_of now.seen (bare old.seen) (bare now.seen) (exchanges_of visits) h.works.moves.in_order) h.visited)
        (length visits) (omega arith) (subst (λ n. IsVisited state next.seen n visit) number_is is_visited);
    coming = coming_more;
    returned = returned_all;
    accepts = let before = h.accepts in let same = links.accept_faults in let more = gives.accepts in omega (arith, before, counted, same, more);
  }

-- what of a worker's end is the same whatever it is
module _ {F Link : Type 0} {state : Link → StreamState} {connections : ℕ} {old new : Passed} {place place_new : Place Link} {visits : List (Visit F Link)} (h : HaveServed state old new place place_new visits) (few : connections ≢ 0 → length visits ≤ connections) where
  pub ends_so : (failed : Bool) (keeper : Option F) → Counts (failed ≡ true) place.desk.accept_faults place_new.desk.accept_faults
      → EndsShift connections place.desk place_new.desk visits failed keeper → IsWorked state connections old new place place_new failed keeper
  ends_so failed keeper accepts ends = record {
    visits = visits;
    moves = h.works.moves;
    served = record {
      in_order = moves_in_order old new (exchanges_of visits) h.works.moves;
      tied = h.works.tied;
      visited = h.visited;
      coming = h.coming;
      returned = h.returned;
      accepts = accepts;
      few = few;
      ends = ends;
    };
  }

  unfailed : Counts (false ≡ true) place.desk.accept_faults place_new.desk.accept_faults
  unfailed = record { kept = h.accepts; rose = λ is. cc is }

  pub ends_without : EndsShift connections place.desk place_new.desk visits false None → IsWorked {F = F} state connections old new place place_new false None
  ends_without ends = ends_so false None unfailed ends

  pub ends_at : (why : F) → EndsAtKeeper visits why → IsWorked state connections old new place place_new false (Some why)
  ends_at why ends = ends_so false (Some why) unfailed ends

-- after an accept that handed out no link
served_on : {F Link : Type 0} {state : Link → StreamState} {old now : Passed} {place : Place Link} {desk accepted : DeskState Link} {dir : DirState} {visits : List (Visit F Link)}
    → HaveServed state old now place (record { desk = desk; dir = dir }) visits → Accepted desk accepted → desk.accept_faults ≤ accepted.accept_faults
    → ((coming : List Link) → desk.coming ≡ Some coming → accepted.coming ≡ Some coming)
    → HaveServed state old now place (record { desk = accepted; dir = dir }) visits
served_on {F} {Link} {state} {old} {now} {place} {desk} {accepted} {dir} {visits} h accepts counted coming = record {
  works = record { moves = h.works.moves; tied = tied_to place.desk desk accepted place.dir dir (exchanges_of visits) h.works.tied accepts.rest };
  visited = h.visited;
  coming = λ links told. let before = h.coming links told in (before.0, before.1, coming before.0 before.2);
  returned = λ before told. accepts.returned ∙ h.returned before told;
  accepts = let before = h.accepts in omega (arith, before, counted);
}

-- the ends of a worker
module _ {F Link : Type 0} {state : Link → StreamState} {connections number : ℕ} {old now : Passed} {place : Place Link} {desk : DeskState Link} {dir : DirState}
    (h : Working F state connections number old now place (record { desk = desk; dir = dir })) where
  -- it served as many links as it was to
  pub enough : connections ≢ 0 → number ≡ connections → connections < 2 ^ 64 → IsWorked {F = F} state connections old now place (record { desk = desk; dir = dir }) false None
  enough bound is word =
      let few = h.few bound in
      let number_is = h.number_is in
      ends_without h.served h.few (h.kept, inr (bound, omega (arith, few, number_is, is, word)))

  -- no link came
  pub no_link : {accepted : DeskState Link} → HandsNone desk accepted → Accepted desk accepted → desk.accept_faults ≤ accepted.accept_faults → IsWorked {F = F} state connections old now place (record { desk = accepted; dir = dir }) false None
  no_link {accepted} came accepts counted =
      ends_without
      (served_on h.served accepts counted (λ coming told. let none = came coming told in none.1 ∙ ap Some (sym none.0)))
      h.few
      (h.kept, inl (λ links told. let before = h.served.coming links told in (came before.0 before.2).1))

  -- an accept failed
  pub accept_failed : {accepted : DeskState Link} → ((coming : List Link) → desk.coming ≡ Some coming → accepted.coming ≡ Some coming) → Accepted desk accepted → (failed : Type 0) → failed → Counts failed desk.accept_faults accepted.accept_faults
      → IsWorked {F = F} state connections old now place (record { desk = accepted; dir = dir }) true None
  accept_failed came accepts failed is counts =
      let before = h.served.accepts in
      let rose = counts.rose is in
      ends_so (served_on h.served accepts counts.kept came) h.few true None
      (record { kept = omega (arith, before, counts.kept); rose = λ true_is. omega (arith, before, rose) })
      h.kept

wraps : (number count : ℕ) → number ≡ count % 2 ^ 64 → (number + 1) % 2 ^ 64 ≡ (count + 1) % 2 ^ 64
wraps number count is = omega (arith, is)

one_more : (number count connections : ℕ) → number ≡ count % 2 ^ 64 → count ≤ connections → connections < 2 ^ 64 → number ≢ connections → count + 1 ≤ connections
one_more number count connections is few word other = omega (arith, is, few, word, other)

pub without_fault : {F : Type 0} (why : Closed F) → ((fault : F) → why ≡ closed.KeeperFault fault → ⊥) → HasNoKeeperFault why
without_fault closed.End other = tt
without_fault closed.Rests other = tt
without_fault closed.Asked other = tt
without_fault closed.Last other = tt
without_fault closed.ReadFault other = tt
without_fault closed.WriteFault other = tt
without_fault (closed.BadHttp why) other = tt
without_fault closed.Memory other = tt
without_fault (closed.KeeperFault why) other = absurd (other why refl)

-- a worker after one more link
module _ {F Link : Type 0} {state : Link → StreamState} {connections number : ℕ} {old now next : Passed} {place : Place Link} {desk accepted served desk_new : DeskState Link} {dir dir_new : DirState}
    (h : Working F state connections number old now place (record { desk = desk; dir = dir }))
    (bounded : connections ≢ 0 → number ≢ connections) (word : connections < 2 ^ 64)
    {link link_new : Link} (came : Hands desk accepted link)
    (accepts : Accepted desk accepted) (counted : desk.accept_faults ≤ accepted.accept_faults)
    {why : Closed F}
    (links : KeepsLinks accepted served) (serves : ServesLink now next accepted served dir dir_new number (state link) (state link_new) why)
    (returned : Appends (link_new ∷ []) served.returned desk_new.returned) (gives : GivenBack served desk_new) where
  abbrev one : Visit F Link
  one = visit h.served came accepts counted links serves returned gives

  all : HaveServed state old next place (record { desk = desk_new; dir = dir_new }) (h.visits ++ one ∷ [])
  all = served_more h.served came accepts counted links serves returned gives h.number_is

  few_more : connections ≢ 0 → length (h.visits ++ one ∷ []) ≤ connections
  few_more bound =
      let size = length_push h.visits one in
      let more = one_more number (length h.visits) connections h.number_is (h.few bound) word (bounded bound) in
      omega (arith, size, more)

  -- it goes on
  pub goes_on : HasNoKeeperFault why → Working F state connections ((number + 1) % 2 ^ 64) old next place (record { desk = desk_new; dir = dir_new })
  goes_on none = record {
    visits = h.visits ++ one ∷ [];
    served = all;
    number_is = wraps number (length h.visits) h.number_is ∙ ap (λ n. n % 2 ^ 64) (sym (length_push h.visits one));
    few = few_more;
    kept = faultless_more h.visits one h.kept none;
  }

  -- changes could not be kept
  pub keeper_fails : (fault : F) → why ≡ closed.KeeperFault fault → IsWorked state connections old next place (record { desk = desk_new; dir = dir_new }) false (Some fault)
  keeper_fails fault is = ends_at all few_more fault (record { before = h.visits; last = one; are_both = refl; is = is; none_before = h.kept })
