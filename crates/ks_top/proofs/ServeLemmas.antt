-- Desks that are served beside each other, from an opening to the end of the journal.
use Rattle.std.proofs.Common.{◌≡◌, ℕ, zero, suc, ◌+◌, ◌-◌, ◌≤◌, ◌⊎◌, inl, inr, Bool, true, false, List, [], ◌∷◌, ◌++◌, length, take, drop, map, min, Option, Some, None, Result, Ok, Err, refl, sym, ap, subst, ◌∙◌, arith}
use Rattle.std.proofs.lemmas.List.{length-map, take-append-drop, take_min, drop_min}
use Rattle.std.specs.Prelude.{if◌then◌else◌, is_ok}
use Rattle.std.specs.Result.{IsOk}
use Rattle.std.specs.List.{AllByRecursion}
use Rattle.ks_keep.specs.declared.keeping.KeeperFailed.{KeeperFailed}
use Rattle.ks_keep.specs.Books.{BookedState, StandsBooked}
use Rattle.ks_keeper.specs.Keeper.{Keeping}
use Rattle.ks_laws.proofs.FrontLemmas.{lawful_is_sound}
use Rattle.ks_machine.specs.Fronts.{Front, IsSound, ◌⊑◌}
use Rattle.ks_outside.specs.Desks.{DeskState}
use Rattle.ks_outside.specs.Files.{DirState}
use Rattle.ks_outside.specs.Streams.{StreamState}
use Rattle.ks_server.proofs.LawLemmas.{receipts_are_placed, late_more}
use Rattle.ks_server.specs.Exchanges.{Exchange, bare, front_after, made}
use Rattle.ks_server.specs.Laws.{IsPlaced}
use Rattle.ks_server.specs.Orders.{Goes, IsLate}
use Rattle.ks_server.specs.Work.{IsReadingAmong}
use Rattle.ks_server.specs.Workers.{AreServed, Place, ServesAll, Shift, all_exchanges, exchanges_of}
use Rattle.ks_state.specs.Shown.{Shown}
use Rattle.ks_state.specs.Standing.{StandsWithAllKept}
use Rattle.ks_commands.specs.declared.fault.Fault.{Fault}
use Rattle.ks_commands.specs.declared.fault.Fault.TheVariants as fault
use Rattle.ks_top.specs.Serve.{Served, ServedDesks, workers_fault}
use Rattle.ks_top.specs.World.{World}
use Rattle.ks_turn.specs.Passes.{Ends, Passed, first_pass}
use Rattle.ks_turn.specs.Sums.{below, times}

-- the first of some desks, and those behind them

-- of a list that begins with x, at least one

taken_first : {A : Type 0} (workers : ℕ) (x : A) (xs : List A) → 1 ≤ workers → take (min workers (length (x ∷ xs))) (x ∷ xs) ≡ x ∷ take (workers - 1) xs
taken_first workers x xs some =
    let one : min workers (suc (length xs)) ≡ suc (min (workers - 1) (length xs)) = omega arith in
    ap (λ n. take n (x ∷ xs)) one ∙ ap (λ l. x ∷ l) (take_min (workers - 1) xs)

dropped_first : {A : Type 0} (workers : ℕ) (x : A) (xs : List A) → 1 ≤ workers → drop (min workers (length (x ∷ xs))) (x ∷ xs) ≡ drop (workers - 1) xs
dropped_first workers x xs some =
    let one : min workers (suc (length xs)) ≡ suc (min (workers - 1) (length xs)) = omega arith in
    ap (λ n. drop n (x ∷ xs)) one ∙ drop_min (workers - 1) xs

-- as many others put in the place of the first

back_taken : {A : Type 0} (k : ℕ) (xs rs : List A) → length rs ≡ length (take k xs) → take k (rs ++ drop k xs) ≡ rs
back_taken zero xs [] same = refl
back_taken zero xs (r ∷ rs) same = absurd (cc same)
back_taken (suc k) [] [] same = refl
back_taken (suc k) [] (r ∷ rs) same = absurd (cc same)
back_taken (suc k) (x ∷ xs) [] same = absurd (cc same)
back_taken (suc k) (x ∷ xs) (r ∷ rs) same = ap (λ l. r ∷ l) (back_taken k xs rs (cc same))

back_dropped : {A : Type 0} (k : ℕ) (xs rs : List A) → length rs ≡ length (take k xs) → drop k (rs ++ drop k xs) ≡ drop k xs
back_dropped zero xs [] same = refl
back_dropped zero xs (r ∷ rs) same = absurd (cc same)
back_dropped (suc k) [] [] same = refl
back_dropped (suc k) [] (r ∷ rs) same = absurd (cc same)
back_dropped (suc k) (x ∷ xs) [] same = absurd (cc same)
back_dropped (suc k) (x ∷ xs) (r ∷ rs) same = back_dropped k xs rs (cc same)

back_length : {A : Type 0} (k : ℕ) (xs rs : List A) → length rs ≡ length (take k xs) → length (rs ++ drop k xs) ≡ length xs
back_length zero xs [] same = refl
back_length zero xs (r ∷ rs) same = absurd (cc same)
back_length (suc k) [] [] same = refl
back_length (suc k) [] (r ∷ rs) same = absurd (cc same)
back_length (suc k) (x ∷ xs) [] same = absurd (cc same)
back_length (suc k) (x ∷ xs) (r ∷ rs) same = ap suc (back_length k xs rs (cc same))

-- as many desks come back as were served

served_length : {Link : Type 0} (stream : Link → StreamState) (connections : ℕ) (seen journal : Front) (olds news : List (Place Link)) (shifts : List (Shift KeeperFailed Link))
    → AreServed stream connections seen journal olds news shifts → length news ≡ length olds
served_length stream connections seen journal [] [] [] served = refl
served_length stream connections seen journal [] [] (shift ∷ shifts) served = absurd served
served_length stream connections seen journal [] (new ∷ news) shifts served = absurd served
served_length stream connections seen journal (old ∷ olds) [] shifts served = absurd served
served_length stream connections seen journal (old ∷ olds) (new ∷ news) [] served = absurd served
served_length stream connections seen journal (old ∷ olds) (new ∷ news) (shift ∷ shifts) served =
    ap suc (served_length stream connections seen journal olds news shifts served.1)

-- no call is later than the highest moment

abbrev IsReached : ℕ → Exchange → Type 0
IsReached high x = IsLate x.asked x.receipt.memory high

reached_in : (seen journal since now : Front) (xs : List Exchange) → Goes journal since xs now → AllByRecursion (λ (x : Exchange). IsPlaced seen journal x) xs
    → AllByRecursion (λ (x : Exchange). IsReached journal.high x) xs
reached_in seen journal since now [] goes placed = tt
reached_in seen journal since now (x ∷ xs) goes placed = (
  late_more x.asked x.receipt.memory x.receipt.moment journal.high placed.0.high goes.1.late,
  reached_in seen journal (front_after journal x) now xs goes.2 placed.1,
)

all_both : {A : Type 0} (P : A → Type 0) (xs ys : List A) → AllByRecursion P xs → AllByRecursion P ys → AllByRecursion P (xs ++ ys)
all_both P [] ys h k = k
all_both P (x ∷ xs) ys h k = (h.0, all_both P xs ys h.1 k)

reached_all : {Link : Type 0} (stream : Link → StreamState) (connections : ℕ) (seen journal : Front) (olds news : List (Place Link)) (shifts : List (Shift KeeperFailed Link))
    → seen ⊑ journal → IsSound seen → AreServed stream connections seen journal olds news shifts → AllByRecursion (λ (x : Exchange). IsReached journal.high x) (all_exchanges shifts)
reached_all stream connections seen journal [] [] [] on sound served = tt
reached_all stream connections seen journal [] [] (shift ∷ shifts) on sound served = absurd served
reached_all stream connections seen journal [] (new ∷ news) shifts on sound served = absurd served
reached_all stream connections seen journal (old ∷ olds) [] shifts on sound served = absurd served
reached_all stream connections seen journal (old ∷ olds) (new ∷ news) [] on sound served = absurd served
reached_all stream connections seen journal (old ∷ olds) (new ∷ news) (shift ∷ shifts) on sound served =
    let xs = exchanges_of shift.visits in
    let order = served.0.in_order in
    all_both (IsReached journal.high) xs (all_exchanges shifts)
    (reached_in seen journal (bare seen) order.now xs order.goes (receipts_are_placed seen journal xs order on sound))
    (reached_all stream connections seen journal olds news shifts on sound served.1)

-- a front for which an identity stands, with all its changes kept, is sound
pub sound_of : (shown : Shown) (f : Front) → StandsWithAllKept shown f → IsSound f
sound_of shown f stands = lawful_is_sound f stands.stands.lawful (omega (arith, stands.kept))

-- the highest moment

pub high_of : (first : Front) (after : Passed) (xs : List Exchange) → Ends first after → (after.top ≡ 0) ⊎ IsReadingAmong after.top xs
    → (after.seen.high ≡ first.high) ⊎ IsReadingAmong after.seen.high xs
high_of first after xs ends top = elim ends.high as (λ _. (after.seen.high ≡ first.high) ⊎ IsReadingAmong after.seen.high xs) [
  | inl is ↦ inl is
  | inr is ↦ elim top as (λ _. (after.seen.high ≡ first.high) ⊎ IsReadingAmong after.seen.high xs) [
    | inl none ↦ inl (let least = ends.start.high in omega (arith, is, none, least))
    | inr among ↦ inr (subst (λ n. IsReadingAmong n xs) (sym is) among)
  ]
]

-- the changes that were made

pub made_once : (first : Front) (after : Passed) (xs : List Exchange) → after.own ≡ made after.seen xs → Ends first after
    → (n : ℕ) → times n (made after.seen xs) + below n (length first.changes) ≡ below n (length after.seen.changes)
made_once first after xs is ends n = ap (λ l. times n l + below n (length first.changes)) (sym is) ∙ ends.own n

-- all desks, of which the first ones were served

-- the worlds before and behind, of which the desks and the keeper alone are told
abbrev before : {Link Seat K : Type 0} → (Seat → Place Link) → World Link Seat K → Seat → List Seat → World Link Seat K
before view world first others = record world { place = (view first).dir; others = others }

abbrev behind : {Link Seat K : Type 0} → (Seat → Place Link) → World Link Seat K → StreamState → DirState → Seat → List Seat → K → World Link Seat K
behind view world file dir first others kept =
    record world { file = file; dir = dir; desk = (view first).desk; place = (view first).dir; others = others; keeper = kept }

-- the pass began with the turn, and these desks were served through it
pub record Work {Link Seat K : Type 0} (keeping : Keeping K) (view : Seat → Place Link) (stream : Link → StreamState) (connections : ℕ) (begun : Front) (after : Passed) (olds news : List Seat) (f : Option Fault) (state : BookedState K) : Type 0 where
  pub pass : Passed
  pub begins : pass ≡ first_pass pass.turn begun
  pub sound : IsSound begun
  pub failed : Bool
  pub keeper : Option KeeperFailed
  pub serves : ServesAll stream connections pass after (map view olds) (map view news) failed keeper
  pub ends : Ends begun after
  pub stands : StandsBooked keeping state after.seen
  pub fault_is : f ≡ workers_fault keeper failed

served_by : {Link Seat K : Type 0} (keeping : Keeping K) (view : Seat → Place Link) (stream : Link → StreamState) (workers connections : ℕ) (world : World Link Seat K) (file : StreamState) (dir : DirState) (first new : Seat) (others news : List Seat)
    (begun : Front) (after : Passed) (f : Option Fault) (state : BookedState K)
    → Work keeping view stream connections begun after (first ∷ take (workers - 1) others) (new ∷ news) f state
    → ServedDesks keeping view stream workers connections (before view world first others) (behind view world file dir new (news ++ drop (workers - 1) others) state.keeper) f begun (view first).desk state
served_by keeping view stream workers connections world file dir first new others news begun after f state work =
    let all : ServesAll stream connections (first_pass work.pass.turn begun) after (map view (first ∷ take (workers - 1) others)) (map view (new ∷ news)) work.failed work.keeper =
    subst (λ (p : Passed). ServesAll stream connections p after (map view (first ∷ take (workers - 1) others)) (map view (new ∷ news)) work.failed work.keeper) work.begins work.serves in
    let olds = map view (first ∷ take (workers - 1) others) in
    let back = map view (new ∷ news) in
    let lengths = served_length stream connections begun after.seen olds back all.shifts all.desks in
    let same : length news ≡ length (take (workers - 1) others) =
    (let one = length-map news view in let other = length-map (take (workers - 1) others) view in omega (arith, lengths, one, other)) in
    record {
      journal = after.seen;
      shifts = all.shifts;
      stands = work.stands;
      later = all.later;
      desks = subst (λ (l : List _). AreServed stream connections begun after.seen olds (view new ∷ map view l) all.shifts) (sym (back_taken (workers - 1) others news same)) all.desks;
      untouched = back_dropped (workers - 1) others news same;
      count = back_length (workers - 1) others news same;
      made = made_once begun after (all_exchanges all.shifts) all.own work.ends;
      high = high_of begun after (all_exchanges all.shifts) work.ends all.top;
      reached = reached_all stream connections begun after.seen olds back all.shifts all.later work.sound all.desks;
      ends = work.fault_is ∙ (λ i. workers_fault (all.keeper_is i) (all.failed_is i));
      others = refl;
    }

-- what came back, as a first desk and others, and what is said of them
abbrev pub ServedAs : {Link Seat K : Type 0} → Keeping K → (Seat → Place Link) → (Link → StreamState) → ℕ → ℕ → Seat → List Seat → List Seat → Front → Option Fault → BookedState K → Type 0
ServedAs {Link} {Seat} {K} keeping view stream workers connections first others all begun f state =
    (new : Seat) × (news : List Seat) × (all ≡ new ∷ news)
    × ((world : World Link Seat K) (file : StreamState) (dir : DirState) → ServedDesks keeping view stream workers connections (before view world first others) (behind view world file dir new news state.keeper) f begun (view first).desk state)

served_front : {Link Seat K : Type 0} (keeping : Keeping K) (view : Seat → Place Link) (stream : Link → StreamState) (workers connections : ℕ) (first : Seat) (others served : List Seat) (begun : Front) (after : Passed) (f : Option Fault) (state : BookedState K)
    → Work keeping view stream connections begun after (first ∷ take (workers - 1) others) served f state
    → ServedAs keeping view stream workers connections first others (served ++ drop (workers - 1) others) begun f state
served_front keeping view stream workers connections first others [] begun after f state work =
    absurd (cc (served_length stream connections work.pass.seen after.seen (map view (first ∷ take (workers - 1) others)) [] work.serves.shifts work.serves.desks))
served_front keeping view stream workers connections first others (new ∷ news) begun after f state work =
    (new, news ++ drop (workers - 1) others, refl, λ world file dir. served_by keeping view stream workers connections world file dir first new others news begun after f state work)

pub served_all : {Link Seat K : Type 0} (keeping : Keeping K) (view : Seat → Place Link) (stream : Link → StreamState) (workers connections count : ℕ) (first : Seat) (others desks served all : List Seat) (begun : Front) (after : Passed) (f : Option Fault) (state : BookedState K)
    → 1 ≤ workers → desks ≡ first ∷ others → count ≡ min workers (length desks) → all ≡ served ++ drop count desks
    → Work keeping view stream connections begun after (take count desks) served f state
    → ServedAs keeping view stream workers connections first others all begun f state
served_all keeping view stream workers connections count first others desks served all begun after f state some are is whole work =
    let counted : count ≡ min workers (length (first ∷ others)) = is ∙ ap (λ l. min workers (length l)) are in
    let front : take count desks ≡ first ∷ take (workers - 1) others =
    ap (take count) are ∙ ap (λ n. take n (first ∷ others)) counted ∙ taken_first workers first others some in
    let last : drop count desks ≡ drop (workers - 1) others =
    ap (drop count) are ∙ ap (λ n. drop n (first ∷ others)) counted ∙ dropped_first workers first others some in
    subst (λ (l : List _). ServedAs keeping view stream workers connections first others l begun f state) (sym (whole ∙ ap (λ l. served ++ l) last))
    (served_front keeping view stream workers connections first others served begun after f state
    (subst (λ (l : List _). Work keeping view stream connections begun after l served f state) front work))

-- what the calls of the workers left

pub record Left {Link Seat : Type 0} (view : Seat → Place Link) (stream : Link → StreamState) (connections : ℕ) (begun : Front) (pass after : Passed) (working served : List Seat) (failed : Bool) (keeper : Option KeeperFailed) (memory : Bool) : Type 0 where
  pub begins : pass ≡ first_pass pass.turn begun
  pub idle : memory ≡ true → (after ≡ pass) × (served ≡ working) × (failed ≡ false) × (keeper ≡ None)
  pub serves : memory ≡ false → ServesAll stream connections pass after (map view working) (map view served) failed keeper

-- as many desks are left as there were
pub left_length : {Link Seat : Type 0} (view : Seat → Place Link) (stream : Link → StreamState) (connections : ℕ) (begun : Front) (pass after : Passed) (working served : List Seat) (failed : Bool) (keeper : Option KeeperFailed) (memory : Bool)
    → Left view stream connections begun pass after working served failed keeper memory → length served ≡ length working
left_length view stream connections begun pass after working served failed keeper true left = ap length (left.idle refl).1
left_length view stream connections begun pass after working served failed keeper false left =
    let all = left.serves refl in
    let same = served_length stream connections pass.seen after.seen (map view working) (map view served) all.shifts all.desks in
    sym (length-map served view) ∙ same ∙ length-map working view

-- an identity still stands for the front at which its turn began
pub at_first : {K : Type 0} (keeping : Keeping K) (state : BookedState K) (pass : Passed) (front : Front) → pass ≡ first_pass pass.turn front → StandsBooked keeping state pass.seen → StandsBooked keeping state front
at_first keeping state pass front begins stands = subst (StandsBooked keeping state) (ap (λ (p : Passed). p.seen) begins) stands

-- all that is said of the desks, whatever else the program stands over
abbrev pub Told : {Link Seat K : Type 0} → Keeping K → (Seat → Place Link) → (Link → StreamState) → ℕ → ℕ → Seat → List Seat → List Seat → Front → Option Fault → BookedState K → Type 0
Told {Link} {Seat} {K} keeping view stream workers connections first others all begun f state =
    (input output file file_after : StreamState) (dir dir_after : DirState) (desk : DeskState Link) (kept : K) → (new : Seat) × (news : List Seat) × (all ≡ new ∷ news)
    × Served keeping view stream workers connections
    (record { input = input; file = file; output = output; dir = dir; desk = desk; place = (view first).dir; others = others; keeper = kept })
    (record { input = input; file = file_after; output = output; dir = dir_after; desk = (view new).desk; place = (view new).dir; others = news; keeper = state.keeper })
    f begun (view first).desk state

pub had_no_room : {Link Seat K : Type 0} (keeping : Keeping K) (view : Seat → Place Link) (stream : Link → StreamState) (workers connections : ℕ) (first : Seat) (others all : List Seat) (begun : Front) (f : Option Fault) (state : BookedState K)
    → all ≡ first ∷ others → f ≡ Some fault.Memory → StandsBooked keeping state begun → Told keeping view stream workers connections first others all begun f state
had_no_room keeping view stream workers connections first others all begun f state are memory stands =
    λ input output file file_after dir dir_after desk kept. (first, others, are, inr (record { memory = memory; stands = stands; desk = refl; others = refl }))

pub left_all : {Link Seat K : Type 0} (keeping : Keeping K) (view : Seat → Place Link) (stream : Link → StreamState) (workers connections count : ℕ) (first : Seat) (others desks working served all : List Seat) (begun : Front) (pass after : Passed)
    (failed : Bool) (keeper : Option KeeperFailed) (memory : Bool) (f : Option Fault) (state : BookedState K)
    → 1 ≤ workers → desks ≡ first ∷ others → count ≡ min workers (length desks) → working ≡ take count desks → all ≡ served ++ drop count desks
    → Left view stream connections begun pass after working served failed keeper memory
    → IsSound begun → Ends begun after → StandsBooked keeping state after.seen → f ≡ (if memory then Some fault.Memory else workers_fault keeper failed)
    → Told keeping view stream workers connections first others all begun f state
left_all keeping view stream workers connections count first others desks working served all begun pass after failed keeper true f state some are is front whole left sound ends stands fault_is =
    let idle = left.idle refl in
    had_no_room keeping view stream workers connections first others all begun f state
    (whole ∙ ap (λ l. l ++ drop count desks) (idle.1 ∙ front) ∙ take-append-drop count desks ∙ are) fault_is
    (at_first keeping state pass begun left.begins (subst (λ (p : Passed). StandsBooked keeping state p.seen) idle.0 stands))
left_all keeping view stream workers connections count first others desks working served all begun pass after failed keeper false f state some are is front whole left sound ends stands fault_is =
    let work : Work keeping view stream connections begun after (take count desks) served f state = record {
      pass = pass;
      begins = left.begins;
      sound = sound;
      failed = failed;
      keeper = keeper;
      serves = subst (λ (l : List _). ServesAll stream connections pass after (map view l) (map view served) failed keeper) front (left.serves refl);
      ends = ends;
      stands = stands;
      fault_is = fault_is;
    } in
    let s = served_all keeping view stream workers connections count first others desks served all begun after f state some are is whole work in
    λ input output file file_after dir dir_after desk kept.
    (s.0, s.1, s.2, inl (s.3 (record { input = input; file = file; output = output; dir = dir; desk = desk; place = (view first).dir; others = others; keeper = kept }) file_after dir_after))

-- what was appended, where that went well
pub appended : {A T E : Type 0} (r : Result T E) (xs ys zs : List A) → IsOk r → zs ≡ (if is_ok r then xs ++ ys else xs) → zs ≡ xs ++ ys
appended (Ok done) xs ys zs ok is = is
appended (Err why) xs ys zs ok is = cc ok

pub grown : {T E : Type 0} (r : Result T E) (long short n : ℕ) → IsOk r → n ≡ (if is_ok r then long else short) → n ≡ long
grown (Ok done) long short n ok is = is
grown (Err why) long short n ok is = cc ok

pub joined : {A : Type 0} (empty one two served others rest : List A) → empty ≡ [] → one ≡ empty ++ served → two ≡ one ++ others → others ≡ rest → two ≡ served ++ rest
joined empty one two served others rest none first second last =
    let both : one ≡ served = first ∙ ap (λ l. l ++ served) none in
    second ∙ ap (λ l. l ++ others) both ∙ ap (λ l. served ++ l) last
