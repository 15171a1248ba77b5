-- What is made of an opening is determined by what was told, and a call whose checks pass has its reply.
use Rattle.std.proofs.Common.{◌≡◌, ℕ, zero, suc, ◌+◌, ◌<◌, ◌≤◌, Bool, true, false, List, [], ◌∷◌, ◌++◌, length, take, inl, inr, Option, Some, None, if◌then◌else◌, ◌==◌, refl, sym, ap, subst, ◌∙◌, arith, lt_of_not-le}
use native.Mathlib.Decide.{dec_le}
use Rattle.std.proofs.lemmas.Bool.{eqb-true}
use Rattle.std.proofs.lemmas.Bool.Decides.{nat_tests}
use Rattle.std.proofs.lemmas.List.{length-append, length-take, length-take-le, take-append-le, take_all}
use Rattle.std.specs.List.{AllByRecursion}
use Rattle.ks_base.specs.Tables.{Among}
use Rattle.ks_base.proofs.AmongLemmas.{all_among}
use Rattle.ks_keep.specs.Books.{BookedState}
use Rattle.ks_keeper.specs.Keeper.{Keeping}
use Rattle.ks_machine.specs.declared.call.Call.{Call}
use Rattle.ks_machine.specs.declared.cause.Cause.{Cause}
use Rattle.ks_machine.specs.declared.change.Change.{Change}
use Rattle.ks_machine.specs.declared.change.Entry.{Entry}
use Rattle.ks_machine.specs.declared.reply.Reply.TheVariants as reply
use Rattle.ks_machine.specs.Attempts.{Attempt, Go}
use Rattle.ks_machine.specs.Fronts.{Front, ◌⊑◌, after, answer, change_of, replay, reply_of, then}
use Rattle.ks_machine.specs.Moment.{moment_of}
use Rattle.ks_machine.specs.Outcomes.{Outcome}
use Rattle.ks_machine.specs.Steps.{step_at, stepped}
use Rattle.ks_outside.specs.Streams.{StreamState}
use Rattle.ks_server.proofs.TieLemmas.{all_both}
use Rattle.ks_server.specs.Exchanges.{Asked, calls, refused, Exchange, change_by, change_in, cut_at, front_after, left_by, made, replied}
use Rattle.ks_server.specs.Laws.{IsPlaced}
use Rattle.ks_server.specs.Workers.{Place, exchanges_of}
use Rattle.ks_service.specs.Called.{made_by, numbered}
use Rattle.ks_words.specs.declared.words.Words.{Words}
use Rattle.ks_commands.specs.declared.fault.Fault.{Fault}
use Rattle.ks_top.specs.Headline.{Headline, TellsOf, Worker, exchanges_by}
use Rattle.ks_top.specs.Laws.{ChangesAreDetermined, RequestsComplete, checked_at}
use Rattle.ks_top.specs.World.{World}
use Rattle.ks_top.proofs.AlikeLemmas.{workers_same}
use Rattle.ks_turn.specs.Sums.{below, times}

-- a journal has these exchanges: each has its place in it, and each of its changes behind the first front is that of exactly one of them
pub record IsJournalOf (first journal : Front) (xs : List Exchange) : Type 0 where
  pub later : first ⊑ journal
  pub placed : AllByRecursion (λ x. IsPlaced first journal x) xs
  pub made : (n : ℕ) → times n (made journal xs) + below n (length first.changes) ≡ below n (length journal.changes)

-- the exchange that made a change

record Makes (n : ℕ) (journal : Front) (xs : List Exchange) : Type 0 where
  x : Exchange
  what : Change
  among : Among xs x
  number : x.receipt.changes ≡ n
  makes : change_by journal x ≡ Some what

makes_behind : (n : ℕ) (journal : Front) (x : Exchange) (xs : List Exchange) → Makes n journal xs → Makes n journal (x ∷ xs)
makes_behind n journal x xs m = record { x = m.x; what = m.what; among = inr m.among; number = m.number; makes = m.makes }

makes_by : (n : ℕ) (journal : Front) (x : Exchange) (xs : List Exchange) (what : Change) (b : Bool) → (x.receipt.changes == n) ≡ b → change_by journal x ≡ Some what
    → 1 ≤ (if b then 1 else 0) + times n (made journal xs) → (1 ≤ times n (made journal xs) → Makes n journal xs) → Makes n journal (x ∷ xs)
makes_by n journal x xs what true is makes some rest =
    record { x = x; what = what; among = inl refl; number = eqb-true x.receipt.changes n is; makes = makes }
makes_by n journal x xs what false is makes some rest = makes_behind n journal x xs (rest (omega arith))

makes_at : (n : ℕ) (journal : Front) (x : Exchange) (xs : List Exchange) (o : Option Change) → change_by journal x ≡ o
    → 1 ≤ times n (numbered x.receipt.changes o ++ made journal xs) → (1 ≤ times n (made journal xs) → Makes n journal xs) → Makes n journal (x ∷ xs)
makes_at n journal x xs None is some rest = makes_behind n journal x xs (rest some)
makes_at n journal x xs (Some what) is some rest = makes_by n journal x xs what (x.receipt.changes == n) refl is some rest

made_has : (n : ℕ) (journal : Front) (xs : List Exchange) → 1 ≤ times n (made journal xs) → Makes n journal xs
unfolding made
made_has n journal [] some = absurd (omega arith)
made_has n journal (x ∷ xs) some = makes_at n journal x xs (change_by journal x) refl some (made_has n journal xs)

below_one : (n m : ℕ) → n < m → 1 ≤ below n m
below_one n m lt = grind (arith, nat_tests)

below_none : (n m : ℕ) → m < suc n → below n m ≡ 0
below_none n m lt = grind (arith, nat_tests)

-- the change is the next one of the front after it

Next : Front → Front → Type 0
Next front left = (entry : Entry) × (left.changes ≡ front.changes ++ entry ∷ [])

left_next : (front : Front) (asked : Asked) (memory : Bool) (what : Change) → change_in front asked memory ≡ Some what → Next front (left_by front asked memory)
unfolding made_by after Next
left_next front (calls call) false what is =
    let moment = moment_of front.high call.reading in
    (record { number = length front.changes; moment = moment; change = what }, ap (λ (o : Option Change). ((then) front moment o).changes) is)
left_next front (calls call) true what is = cc
left_next front (refused why) memory what is = cc

take_front : (h journal : Front) (k : ℕ) → h ⊑ journal → length h.changes ≡ k → take k journal.changes ≡ h.changes
take_front h journal k on size =
    ap (take k) on.changes ∙ take-append-le k h.changes on.later (omega arith) ∙ take_all k h.changes (omega arith)

one_more : (front left : Front) (n : ℕ) → Next front left → length front.changes ≡ n → length left.changes ≡ suc n
unfolding Next
one_more front left n next size =
    let all = ap length next.1 ∙ length-append front.changes (next.0 ∷ []) in
    omega arith

same_step : (first f g : Front) (xs : List Exchange) (n : ℕ) → f.opening ≡ g.opening → AllByRecursion (λ (x : Exchange). IsPlaced first f x) xs → AllByRecursion (λ (x : Exchange). IsPlaced first g x) xs
    → suc n ≤ length f.changes → take n f.changes ≡ take n g.changes → Makes n f xs → take (suc n) f.changes ≡ take (suc n) g.changes
same_step first f g xs n opening on_f on_g within same m =
    let x = m.x in
    let r = x.receipt in
    let first_ones : take r.changes f.changes ≡ take r.changes g.changes = ap (λ k. take k f.changes) m.number ∙ same ∙ sym (ap (λ k. take k g.changes) m.number) in
    let cuts : cut_at f r ≡ cut_at g r = λ i. record { opening = opening i; changes = first_ones i; high = r.moment; kept = 0 } in
    let left : front_after f x ≡ front_after g x = ap (λ front. left_by front x.asked r.memory) cuts in
    let size : length (take r.changes f.changes) ≡ n = ap (λ k. length (take k f.changes)) m.number ∙ length-take-le n f.changes (omega arith) in
    let longer : length (front_after f x).changes ≡ suc n = one_more (cut_at f r) (front_after f x) n (left_next (cut_at f r) x.asked r.memory m.what m.makes) size in
    let also : length (front_after g x).changes ≡ suc n = sym (ap (λ (h : Front). length h.changes) left) ∙ longer in
    take_front (front_after f x) f (suc n) (all_among (λ (y : Exchange). IsPlaced first f y) xs x on_f m.among).is_past longer
    ∙ ap (λ (h : Front). h.changes) left
    ∙ sym (take_front (front_after g x) g (suc n) (all_among (λ (y : Exchange). IsPlaced first g y) xs x on_g m.among).is_past also)

-- the changes of the first front are the same in both
same_first : (first f g : Front) (n : ℕ) → first ⊑ f → first ⊑ g → n ≤ length first.changes → take n f.changes ≡ take n g.changes
same_first first f g n on also within =
    ap (take n) on.changes ∙ take-append-le n first.changes on.later within ∙ sym (ap (take n) also.changes ∙ take-append-le n first.changes also.later within)

-- and of those behind it, the next one
same_behind : (first f g : Front) (xs : List Exchange) (n : ℕ) → IsJournalOf first f xs → IsJournalOf first g xs → suc n ≤ length f.changes
    → take n f.changes ≡ take n g.changes → Dec (suc n ≤ length first.changes) → take (suc n) f.changes ≡ take (suc n) g.changes
same_behind first f g xs n one other within same (yes le) = same_first first f g (suc n) one.later other.later le
same_behind first f g xs n one other within same (no gt) =
    let made = one.made n in
    let none = below_none n (length first.changes) (lt_of_not-le gt) in
    let is_below = below_one n (length f.changes) within in
    same_step first f g xs n (sym one.later.opening ∙ other.later.opening) one.placed other.placed within same (made_has n f xs (omega (arith, made, none, is_below)))

same_upto : (first f g : Front) (xs : List Exchange) (n : ℕ) → IsJournalOf first f xs → IsJournalOf first g xs → n ≤ length f.changes → take n f.changes ≡ take n g.changes
same_upto first f g xs zero one other within = refl
same_upto first f g xs (suc n) one other within =
    same_behind first f g xs n one other within (same_upto first f g xs n one other (omega arith)) (dec_le (suc n) (length first.changes))

pub same_changes : (first f g : Front) (xs : List Exchange) → IsJournalOf first f xs → IsJournalOf first g xs → f.changes ≡ g.changes
same_changes first f g xs one other =
    let a : f.changes ≡ take (length f.changes) g.changes =
    sym (take_all (length f.changes) f.changes (omega arith)) ∙ same_upto first f g xs (length f.changes) one other (omega arith) in
    let b : g.changes ≡ take (length g.changes) f.changes =
    sym (take_all (length g.changes) g.changes (omega arith)) ∙ same_upto first g f xs (length g.changes) other one (omega arith) in
    let short = ap length a ∙ length-take (length f.changes) g.changes in
    let long = ap length b ∙ length-take (length g.changes) f.changes in
    let sizes : length f.changes ≡ length g.changes = omega arith in
    a ∙ ap (λ k. take k g.changes) sizes ∙ take_all (length g.changes) g.changes (omega arith)

-- the journals of two runs

pub placed_by : {Link : Type 0} (first journal : Front) (workers : List (Worker Link)) → AllByRecursion (TellsOf first journal) workers → AllByRecursion (λ (x : Exchange). IsPlaced first journal x) (exchanges_by workers)
placed_by first journal [] each = tt
placed_by first journal (w ∷ workers) each =
    all_both (λ (x : Exchange). IsPlaced first journal x) (exchanges_of w.connections) (exchanges_by workers) each.0.placed (placed_by first journal workers each.1)

journal_of : {Link Seat K : Type 0} (keeping : Keeping K) (view : Seat → Place Link) (stream : Link → StreamState) (what : Words) (old new : World Link Seat K) (f : Option Fault) (state : BookedState K)
    → (said : Headline keeping view stream what old new f state) → IsJournalOf said.first said.journal (exchanges_by said.workers)
journal_of keeping view stream what old new f state said =
    record { later = said.later; placed = placed_by said.first said.journal said.workers said.each; made = said.made }

pub changes_are_determined : (Link Seat : Type 0) {K : Type 0} (keeping : Keeping K) → ChangesAreDetermined Link Seat keeping
changes_are_determined Link Seat {K} keeping view stream what what_too old new old_too new_too f f_too state state_too one other same alike =
    same_changes other.first one.journal other.journal (exchanges_by other.workers)
    (subst (IsJournalOf other.first one.journal)
    (workers_same one.first other.first one.journal other.journal one.workers other.workers one.each other.each alike)
    (subst (λ (first : Front). IsJournalOf first one.journal (exchanges_by one.workers)) same (journal_of keeping view stream what old new f state one)))
    (journal_of keeping view stream what_too old_too new_too f_too state_too other)

-- a call whose checks pass

answer_passes : (front : Front) (call : Call) (outcome : Outcome) → checked_at front call ≡ Go outcome → (answer front call ≡ reply.Ok outcome.told) × (made_by front call ≡ outcome.change)
unfolding answer made_by step_at replay
answer_passes front call outcome goes = (ap (λ (a : Attempt Cause Outcome). reply_of (stepped a)) goes, ap (λ (a : Attempt Cause Outcome). change_of (stepped a)) goes)

pub requests_complete : RequestsComplete
requests_complete journal x call outcome is goes =
    let front = cut_at journal x.receipt in
    let passes = answer_passes front call outcome goes in
    (ap (replied front) is ∙ passes.0, λ decided. (λ i. change_in front (is i) (decided i)) ∙ passes.1)
