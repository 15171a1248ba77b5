-- Workers in seats: what they did, and how their passes meet.
use Rattle.std.proofs.Common.{◌≡◌, ◌⊎◌, inl, inr, ℕ, ◌-◌, ◌<◌, ◌≤◌, max, zero, suc, Bool, false, ◌||◌, List, [], ◌∷◌, ◌++◌, length, map, reverse, take, drop, slice_index_or, Option, Some, None, IsSomeAnd, refl, sym, ap, subst, ◌∙◌, arith, append_assoc, append-nil, length-append}
use Rattle.std.proofs.lemmas.List.{get_or-take, get_or_default, length-drop, length-map, length-take-le, map-append, reverse-append}
use Rattle.std.proofs.lemmas.List.Concat.{flat_map-append}
use Rattle.std.proofs.Math.Bool.{or_assoc, or-false}
use Rattle.std.specs.List.{AllByRecursion}
use Rattle.std.specs.Option.{option_or}
use Rattle.ks_machine.proofs.FrontLemmas.{reflexive, transitive}
use Rattle.ks_machine.specs.Fronts.{Front, ◌⊑◌}
use Rattle.ks_outside.specs.Streams.{StreamState}
use Rattle.ks_server.proofs.LawLemmas.{order_stays}
use Rattle.ks_server.proofs.OrderLemmas.{AreWithin, made_both, made_kept, made_none, within_of}
use Rattle.ks_server.proofs.ShiftLemmas.{visited_kept}
use Rattle.ks_server.proofs.WorkLemmas.{reading_first, reading_last}
use Rattle.ks_server.specs.Exchanges.{Exchange, bare, made}
use Rattle.ks_server.specs.Orders.{InOrder}
use Rattle.ks_server.specs.Work.{IsReadingAmong}
use Rattle.ks_server.specs.Workers.{AreServed, IsServed, Place, ServesAll, Shift, all_exchanges, exchanges_of, first_keeper, some_failed}
use Rattle.ks_server.specs.steps.Seats.{HasWorked, HaveMet, HaveWorked, Meeting, SeatState, seated}
use Rattle.ks_server.specs.steps.Shifts.{IsWorked}
use Rattle.ks_turn.specs.Passes.{Met, Passed, splitting}

-- what is told of desks is told at each later journal

within_order : (seen journal : Front) (xs : List Exchange) → InOrder seen journal xs → AreWithin journal xs
within_order seen journal xs order = within_of journal (bare seen) order.now xs order.goes

served_kept : {F Link : Type 0} (state : Link → StreamState) (connections : ℕ) (seen f g : Front) (old new : Place Link) (shift : Shift F Link) → f ⊑ g → IsServed state connections seen f old new shift → IsServed state connections seen g old new shift
served_kept state connections seen f g old new shift on h = record {
  in_order = order_stays seen f g (exchanges_of shift.visits) h.in_order on;
  tied = h.tied;
  visited = visited_kept state f g on 0 shift.visits (within_order seen f (exchanges_of shift.visits) h.in_order) h.visited;
  coming = h.coming;
  returned = h.returned;
  accepts = h.accepts;
  few = h.few;
  ends = h.ends;
}

all_kept : {F Link : Type 0} (state : Link → StreamState) (connections : ℕ) (seen f g : Front) (olds news : List (Place Link)) (shifts : List (Shift F Link)) → f ⊑ g
    → AreServed state connections seen f olds news shifts → AreServed state connections seen g olds news shifts
all_kept state connections seen f g [] [] [] on h = tt
all_kept state connections seen f g [] [] (shift ∷ shifts) on h = absurd h
all_kept state connections seen f g [] (new ∷ news) shifts on h = absurd h
all_kept state connections seen f g (old ∷ olds) [] shifts on h = absurd h
all_kept state connections seen f g (old ∷ olds) (new ∷ news) [] on h = absurd h
all_kept state connections seen f g (old ∷ olds) (new ∷ news) (shift ∷ shifts) on h =
    (served_kept state connections seen f g old new shift on h.0, all_kept state connections seen f g olds news shifts on h.1)

served_more : {F Link : Type 0} (state : Link → StreamState) (connections : ℕ) (seen journal : Front) (olds news : List (Place Link)) (shifts : List (Shift F Link)) (old new : Place Link) (shift : Shift F Link)
    → AreServed state connections seen journal olds news shifts → IsServed state connections seen journal old new shift
    → AreServed state connections seen journal (olds ++ old ∷ []) (news ++ new ∷ []) (shifts ++ shift ∷ [])
served_more state connections seen journal [] [] [] old new shift h one = (one, tt)
served_more state connections seen journal [] [] (s ∷ shifts) old new shift h one = absurd h
served_more state connections seen journal [] (n ∷ news) shifts old new shift h one = absurd h
served_more state connections seen journal (o ∷ olds) [] shifts old new shift h one = absurd h
served_more state connections seen journal (o ∷ olds) (n ∷ news) [] old new shift h one = absurd h
served_more state connections seen journal (o ∷ olds) (n ∷ news) (s ∷ shifts) old new shift h one =
    (h.0, served_more state connections seen journal olds news shifts old new shift h.1 one)

within_join : (journal : Front) (xs ys : List Exchange) → AreWithin journal xs → AreWithin journal ys → AreWithin journal (xs ++ ys)
within_join journal [] ys one other = other
within_join journal (x ∷ xs) ys one other = (one.0, within_join journal xs ys one.1 other)

within_all : {F Link : Type 0} (state : Link → StreamState) (connections : ℕ) (seen journal : Front) (olds news : List (Place Link)) (shifts : List (Shift F Link)) → AreServed state connections seen journal olds news shifts → AreWithin journal (all_exchanges shifts)
within_all state connections seen journal [] [] [] h = tt
within_all state connections seen journal [] [] (shift ∷ shifts) h = absurd h
within_all state connections seen journal [] (new ∷ news) shifts h = absurd h
within_all state connections seen journal (old ∷ olds) [] shifts h = absurd h
within_all state connections seen journal (old ∷ olds) (new ∷ news) [] h = absurd h
within_all state connections seen journal (old ∷ olds) (new ∷ news) (shift ∷ shifts) h =
    within_join journal (exchanges_of shift.visits) (all_exchanges shifts) (within_order seen journal (exchanges_of shift.visits) h.0.in_order) (within_all state connections seen journal olds news shifts h.1)

-- what is told of one worker more

all_more : {F Link : Type 0} (shifts : List (Shift F Link)) (shift : Shift F Link) → all_exchanges (shifts ++ shift ∷ []) ≡ all_exchanges shifts ++ exchanges_of shift.visits
all_more {F} {Link} shifts shift =
    flat_map-append (λ (s : Shift F Link). exchanges_of s.visits) shifts (shift ∷ []) ∙ ap (λ l. all_exchanges shifts ++ l) (append-nil (exchanges_of shift.visits))

failed_more : {F Link : Type 0} (shifts : List (Shift F Link)) (shift : Shift F Link) → some_failed (shifts ++ shift ∷ []) ≡ some_failed shifts || shift.failed
failed_more [] shift = or-false shift.failed
failed_more (s ∷ shifts) shift = ap (λ b. s.failed || b) (failed_more shifts shift) ∙ sym (or_assoc s.failed (some_failed shifts) shift.failed)

option_again : {F : Type 0} (a b c : Option F) → option_or (option_or a b) c ≡ option_or a (option_or b c)
option_again None b c = refl
option_again (Some x) b c = refl

option_none : {F : Type 0} (a : Option F) → option_or a None ≡ a
option_none None = refl
option_none (Some x) = refl

keeper_more : {F Link : Type 0} (shifts : List (Shift F Link)) (shift : Shift F Link) → first_keeper (shifts ++ shift ∷ []) ≡ option_or (first_keeper shifts) shift.keeper
keeper_more [] shift = option_none shift.keeper
keeper_more (s ∷ shifts) shift = ap (λ k. option_or s.keeper k) (keeper_more shifts shift) ∙ sym (option_again s.keeper (first_keeper shifts) shift.keeper)

-- the greater of two tops

pub max_is : (b c : ℕ) → (max b c ≡ b) ⊎ (max b c ≡ c)
max_is zero c = inr (omega arith)
max_is (suc b) zero = inl (omega arith)
max_is (suc b) (suc c) = elim (max_is b c) [
  | inl is ↦ inl (omega (arith, is))
  | inr is ↦ inr (omega (arith, is))
]

top_first : (a b m : ℕ) (xs ys : List Exchange) → m ≡ b → (b ≡ a) ⊎ IsReadingAmong b xs → (m ≡ a) ⊎ IsReadingAmong m (xs ++ ys)
top_first a b m xs ys is (inl same) = inl (is ∙ same)
top_first a b m xs ys is (inr among) = inr (subst (λ n. IsReadingAmong n (xs ++ ys)) (sym is) (reading_first b xs ys among))

top_last : (a b c : ℕ) (xs ys : List Exchange) → (b ≡ a) ⊎ IsReadingAmong b xs → IsReadingAmong c ys → (max b c ≡ b) ⊎ (max b c ≡ c) → (max b c ≡ a) ⊎ IsReadingAmong (max b c) (xs ++ ys)
top_last a b c xs ys one other (inl is) = top_first a b (max b c) xs ys is one
top_last a b c xs ys one other (inr is) = inr (subst (λ n. IsReadingAmong n (xs ++ ys)) (sym is) (reading_last c xs ys other))

top_more : (a b c : ℕ) (xs ys : List Exchange) → (b ≡ a) ⊎ IsReadingAmong b xs → (c ≡ 0) ⊎ IsReadingAmong c ys → (max b c ≡ a) ⊎ IsReadingAmong (max b c) (xs ++ ys)
top_more a b c xs ys one (inl none) = top_first a b (max b c) xs ys (omega (arith, none)) one
top_more a b c xs ys one (inr among) = top_last a b c xs ys one among (max_is b c)

-- a pass meets that of one worker more
pub met_more : {F Link : Type 0} {state : Link → StreamState} {connections : ℕ} {first : Front} {old now part next : Passed} {olds news : List (Place Link)} {place place_new : Place Link} {failed failed' : Bool} {keeper keeper' : Option F} {more : ℕ}
    → HaveMet state connections old now olds news failed keeper (suc more) → IsWorked state connections (splitting old) part place place_new failed' keeper' → Met first now part next
    → HaveMet state connections old next (olds ++ place ∷ []) (news ++ place_new ∷ []) (failed || failed') (option_or keeper keeper') more
met_more {F} {Link} {state} {connections} {first} {old} {now} {part} {next} {olds} {news} {place} {place_new} {failed} {failed'} {keeper} {keeper'} {more} h w met =
    let shift : Shift F Link = record { visits = w.visits; failed = failed'; keeper = keeper' } in
    let xs = exchanges_of w.visits in
    let within = within_all state connections old.seen now.seen olds news h.shifts h.desks in
    let part_within = within_of part.seen (bare old.seen) (bare part.seen) xs w.moves.in_order in
    let own = ap (λ p. p.own) met.pass in
    let top = ap (λ p. p.top) met.pass in
    let weight = ap (λ p. p.weight) met.pass in
    let part_weight = w.moves.weight in
    let before = h.weight in
    record {
      shifts = h.shifts ++ shift ∷ [];
      desks =
          served_more state connections old.seen next.seen olds news h.shifts place place_new shift
          (all_kept state connections old.seen now.seen next.seen olds news h.shifts met.later h.desks)
          (served_kept state connections old.seen part.seen next.seen place place_new shift met.later_too w.served);
      turn = ap (λ p. p.turn) met.pass ∙ h.turn;
      later = transitive old.seen now.seen next.seen h.later met.later;
      own =
          own
          ∙ ap (λ l. l ++ part.own) h.own
          ∙ ap (λ l. (old.own ++ made now.seen (all_exchanges h.shifts)) ++ l) w.moves.own
          ∙ ap (λ l. (old.own ++ l) ++ made part.seen xs) (sym (made_kept now.seen next.seen met.later (all_exchanges h.shifts) within))
          ∙ ap (λ l. (old.own ++ made next.seen (all_exchanges h.shifts)) ++ l) (sym (made_kept part.seen next.seen met.later_too xs part_within))
          ∙ append_assoc old.own (made next.seen (all_exchanges h.shifts)) (made next.seen xs)
          ∙ ap (λ l. old.own ++ l) (sym (made_both next.seen (all_exchanges h.shifts) xs))
          ∙ ap (λ l. old.own ++ made next.seen l) (sym (all_more h.shifts shift));
      top =
          subst (λ l. (next.top ≡ old.top) ⊎ IsReadingAmong next.top l) (sym (all_more h.shifts shift))
          (subst (λ n. (n ≡ old.top) ⊎ IsReadingAmong n (all_exchanges h.shifts ++ xs)) (sym top)
          (top_more old.top now.top part.top (all_exchanges h.shifts) xs h.top w.moves.top));
      weight = omega (arith, weight, part_weight, before);
      failed_is = ap (λ b. b || failed') h.failed_is ∙ sym (failed_more h.shifts shift);
      keeper_is = ap (λ k. option_or k keeper') h.keeper_is ∙ sym (keeper_more h.shifts shift);
    }

none_met : {F Link : Type 0} (state : Link → StreamState) (connections : ℕ) (old now : Passed) (more : ℕ) → now ≡ record old { weight = old.weight - more } → more ≤ old.weight
    → HaveMet {F = F} state connections old now [] [] false None more
none_met state connections old now more is le =
    let seen : now.seen ≡ old.seen = ap (λ p. p.seen) is in
    let weight = ap (λ p. p.weight) is in
    record {
      shifts = [];
      desks = tt;
      turn = ap (λ p. p.turn) is;
      later = subst (λ f. old.seen ⊑ f) (sym seen) (reflexive old.seen);
      own = ap (λ p. p.own) is ∙ sym (ap (λ l. old.own ++ l) (made_none now.seen) ∙ append-nil old.own);
      top = inl (ap (λ p. p.top) is);
      weight = omega (arith, weight, le);
      failed_is = refl;
      keeper_is = refl;
    }

-- seats that are emptied from the end

pub reverse_more : {A B : Type 0} (view : A → B) (items rest : List A) (x : A) → items ≡ rest ++ x ∷ [] → reverse (map view items) ≡ view x ∷ reverse (map view rest)
reverse_more view items rest x is = ap (λ l. reverse (map view l)) is ∙ ap (λ l. reverse l) (map-append view rest (x ∷ [])) ∙ reverse-append (map view rest) (view x ∷ [])

-- before the first has met
pub meeting_begins : {F Link : Type 0} {state : Link → StreamState} {connections : ℕ} {old now : Passed} {olds : List (Place Link)} {seats : List (SeatState F Link)} → HaveWorked state connections (splitting old) olds seats
    → now ≡ record old { weight = old.weight - length olds } → length olds ≤ old.weight → Meeting state connections old now olds [] seats false None
meeting_begins {F} {Link} {state} {connections} {old} {now} {olds} {seats} worked is le =
    record { first = []; others = olds; are_both = refl; met = none_met state connections old now (length olds) is le; rest = worked }

module _ {F Link : Type 0} {state : Link → StreamState} {connections : ℕ} {old now : Passed} {olds news : List (Place Link)} {failed : Bool} {keeper : Option F} where
  next_met : {next part : Passed} {front : Front} (first others : List (Place Link)) → olds ≡ first ++ others → HaveMet state connections old now first news failed keeper (length others)
      → (seat : SeatState F Link) (rest : List (SeatState F Link)) → HaveWorked state connections (splitting old) others (seat ∷ rest) → seat.pass ≡ Some part → Met front now part next
      → Meeting state connections old next olds (news ++ seat.place ∷ []) rest (failed || seat.failed) (option_or keeper seat.keeper)
  next_met first [] are_both met seat rest worked has meets = absurd worked
  next_met {next} {part} {front} first (place ∷ others) are_both met seat rest worked has meets =
      let same : worked.0.after ≡ part = cc (has, worked.0.has) in
      record {
        first = first ++ place ∷ [];
        others = others;
        are_both = are_both ∙ sym (append_assoc first (place ∷ []) others);
        met = met_more met (subst (λ p. IsWorked state connections (splitting old) p place seat.place seat.failed seat.keeper) same worked.0.worked) meets;
        rest = worked.1;
      }

  -- the worker of the next seat
  pub meeting_more : {next part : Passed} {front : Front} {news' : List (Place Link)} {seats rest : List (SeatState F Link)} {seat : SeatState F Link} {failed' : Bool} {keeper' : Option F}
      → Meeting state connections old now olds news seats failed keeper → seats ≡ seat ∷ rest → seat.pass ≡ Some part → Met front now part next
      → news' ≡ news ++ seat.place ∷ [] → failed' ≡ (failed || seat.failed) → keeper' ≡ option_or keeper seat.keeper
      → Meeting state connections old next olds news' rest failed' keeper'
  meeting_more {next} {part} {front} {news'} {seats} {rest} {seat} {failed'} {keeper'} h is has meets news_is failed_is keeper_is =
      let on = next_met h.first h.others h.are_both h.met seat rest (subst (λ l. HaveWorked state connections (splitting old) h.others l) is h.rest) has meets in
      subst (λ l. Meeting state connections old next olds l rest failed' keeper') (sym news_is)
      (subst (λ b. Meeting state connections old next olds (news ++ seat.place ∷ []) rest b keeper') (sym failed_is)
      (subst (λ k. Meeting state connections old next olds (news ++ seat.place ∷ []) rest (failed || seat.failed) k) (sym keeper_is) on))

  all_met : (first others : List (Place Link)) → olds ≡ first ++ others → HaveMet state connections old now first news failed keeper (length others) → HaveWorked {F = F} state connections (splitting old) others []
      → ServesAll state connections old now olds news failed keeper
  all_met first [] are_both met worked =
      let same : olds ≡ first = are_both ∙ append-nil first in
      let weight = met.weight in
      record {
        shifts = met.shifts;
        desks = subst (λ l. AreServed state connections old.seen now.seen l news met.shifts) (sym same) met.desks;
        turn = met.turn;
        later = met.later;
        own = met.own;
        top = met.top;
        weight = omega (arith, weight);
        failed_is = met.failed_is;
        keeper_is = met.keeper_is;
      }
  all_met first (place ∷ others) are_both met worked = absurd worked

  -- none is left
  pub meeting_ends : {seats : List (SeatState F Link)} → Meeting state connections old now olds news seats failed keeper → seats ≡ [] → ServesAll state connections old now olds news failed keeper
  meeting_ends h is = all_met h.first h.others h.are_both h.met (subst (λ l. HaveWorked state connections (splitting old) h.others l) is h.rest)

-- desks that are seated

pub each_more : {A : Type 0} (P : A → Type 0) (xs : List A) (x : A) → AllByRecursion P xs → P x → AllByRecursion P (xs ++ x ∷ [])
each_more P [] x all one = (one, tt)
each_more P (y ∷ xs) x all one = (all.0, each_more P xs x all.1 one)

pub each_first : {A : Type 0} (P : A → Type 0) (xs : List A) (x : A) → AllByRecursion P (xs ++ x ∷ []) → AllByRecursion P xs × P x
each_first P [] x all = (tt, all.0)
each_first P (y ∷ xs) x all = let rest = each_first P xs x all.1 in ((all.0, rest.0), rest.1)

pub listed_more : {B C : Type 0} (of : B → C) (items' items : List B) (x : B) → items' ≡ items ++ x ∷ [] → map of items' ≡ map of items ++ of x ∷ []
listed_more of items' items x is = ap (λ l. map of l) is ∙ map-append of items (x ∷ [])

pub none_left : {A B : Type 0} (view : A → B) (items : List A) → length items ≡ 0 → reverse (map view items) ≡ []
none_left view [] none = refl
none_left view (x ∷ items) none = absurd (omega (arith, none))

left_of : (pass : Passed) (count more : ℕ) → count ≡ more → record pass { weight = pass.weight - count } ≡ record pass { weight = pass.weight - more }
left_of pass count more same = ap (λ n. let p : Passed = record pass { weight = pass.weight - n } in p) same

-- what is left of a pass when one was split off for each of these
pub left_is : {A B : Type 0} (f : A → B) (xs : List A) (pass left : Passed) (count : ℕ) → count ≡ length xs → left ≡ record pass { weight = pass.weight - count }
    → left ≡ record pass { weight = pass.weight - length (map f xs) }
left_is f xs pass left count size is = is ∙ left_of pass count (length (map f xs)) (size ∙ sym (length-map xs f))

-- the pass of the last seat
pub last_pass : {A : Type 0} (pass_of : A → Option Passed) (P : Passed → Type 0) (items rest : List A) (x : A) → items ≡ rest ++ x ∷ [] → AllByRecursion (λ s. IsSomeAnd (pass_of s) P) items
    → AllByRecursion (λ s. IsSomeAnd (pass_of s) P) rest × IsSomeAnd (pass_of x) P
last_pass pass_of P items rest x is all = each_first (λ s. IsSomeAnd (pass_of s) P) rest x (subst (λ l. AllByRecursion (λ s. IsSomeAnd (pass_of s) P) l) is all)

-- what the workers of seats did, seat by seat

abbrev ArePairs : {F Link : Type 0} → (Link → StreamState) → ℕ → List (SeatState F Link) → List (SeatState F Link) → Type 0
ArePairs state connections [] [] = Unit {0}
ArePairs state connections [] (y ∷ ys) = ⊥
ArePairs state connections (x ∷ xs) [] = ⊥
ArePairs state connections (x ∷ xs) (y ∷ ys) = HasWorked state connections x y × ArePairs state connections xs ys

pairs_more : {F Link : Type 0} (state : Link → StreamState) (connections : ℕ) (xs ys : List (SeatState F Link)) (x y : SeatState F Link) → ArePairs state connections xs ys → HasWorked state connections x y
    → ArePairs state connections (xs ++ x ∷ []) (ys ++ y ∷ [])
pairs_more state connections [] [] x y pairs one = (one, tt)
pairs_more state connections [] (b ∷ ys) x y pairs one = absurd pairs
pairs_more state connections (a ∷ xs) [] x y pairs one = absurd pairs
pairs_more state connections (a ∷ xs) (b ∷ ys) x y pairs one = (pairs.0, pairs_more state connections xs ys x y pairs.1 one)

pairs_reversed : {F Link : Type 0} (state : Link → StreamState) (connections : ℕ) (xs ys : List (SeatState F Link)) → ArePairs state connections xs ys → ArePairs state connections (reverse xs) (reverse ys)
pairs_reversed state connections [] [] pairs = tt
pairs_reversed state connections [] (y ∷ ys) pairs = absurd pairs
pairs_reversed state connections (x ∷ xs) [] pairs = absurd pairs
pairs_reversed state connections (x ∷ xs) (y ∷ ys) pairs =
    let both = pairs_more state connections (reverse xs) (reverse ys) x y (pairs_reversed state connections xs ys pairs.1) pairs.0 in
    subst (λ l. ArePairs state connections l (reverse (y ∷ ys))) (sym (reverse-append (x ∷ []) xs))
    (subst (λ l. ArePairs state connections (reverse xs ++ x ∷ []) l) (sym (reverse-append (y ∷ []) ys)) both)

worked_of : {F Link : Type 0} (state : Link → StreamState) (connections : ℕ) (pass : Passed) (olds : List (Place Link)) (seats : List (SeatState F Link)) → ArePairs state connections (map (λ old. seated pass old) olds) seats
    → HaveWorked state connections (splitting pass) olds seats
worked_of state connections pass [] [] pairs = tt
worked_of state connections pass [] (seat ∷ seats) pairs = absurd pairs
worked_of state connections pass (old ∷ olds) [] pairs = absurd pairs
worked_of state connections pass (old ∷ olds) (seat ∷ seats) pairs =
    let same : pairs.0.before ≡ splitting pass = cc pairs.0.had in (
      record {
        after = pairs.0.after;
        has = pairs.0.has;
        worked = subst (λ p. IsWorked state connections p pairs.0.after old seat.place seat.failed seat.keeper) same pairs.0.worked;
      },
      worked_of state connections pass olds seats pairs.1,
    )

-- what stands in a list that was lent as a slice
lent_at : {A : Type 0} (old new : List A) (i : ℕ) (d : A) → i < length old → slice_index_or (new ++ drop (length new) old) i d ≡ slice_index_or new i (slice_index_or old i d)
lent_at [] new i d le = absurd (omega (arith, le))
lent_at (o ∷ old) [] i d le = refl
lent_at (o ∷ old) (x ∷ new) zero d le = refl
lent_at (o ∷ old) (x ∷ new) (suc i) d le = lent_at old new i d (omega (arith, le))

abbrev lent : {A : Type 0} → List A → List A → List A
lent old new = take (length old) (new ++ drop (length new) old)

lent_length : {A : Type 0} (old new : List A) → length (lent old new) ≡ length old
lent_length old new = length-take-le (length old) (new ++ drop (length new) old) (let both = length-append new (drop (length new) old) in let rest = length-drop (length new) old in omega (arith, both, rest))

module _ {A F Link : Type 0} (view : A → SeatState F Link) (state : Link → StreamState) (connections : ℕ) where
  -- each seat that was lent was worked in
  abbrev pub EachWorks : List A → List A → Type 0
  EachWorks old new = (i : ℕ) (d : A) → i < length old → HasWorked state connections (view (slice_index_or old i d)) (view (slice_index_or new i d))

  pairs_from : (xs ys : List A) → length ys ≡ length xs → EachWorks xs ys → ArePairs state connections (map view xs) (map view ys)
  pairs_from [] [] same each = tt
  pairs_from [] (y ∷ ys) same each = absurd (omega (arith, same))
  pairs_from (x ∷ xs) [] same each = absurd (omega (arith, same))
  pairs_from (x ∷ xs) (y ∷ ys) same each = (each 0 x (omega arith), pairs_from xs ys (omega (arith, same)) (λ i d le. each (suc i) d (omega (arith, le))))

  each_lent : (old new : List A) → EachWorks old new → EachWorks old (lent old new)
  each_lent old new each i d le =
      let e = slice_index_or old i d in
      let at = get_or-take (length old) (new ++ drop (length new) old) i d le ∙ lent_at old new i d le in
      subst (λ x. HasWorked state connections (view x) (view (slice_index_or (lent old new) i d))) (get_or_default old i e d le)
      (subst (λ y. HasWorked state connections (view (slice_index_or old i e)) (view y)) (sym at) (each i e le))

  pairs_lent : (old new : List A) → EachWorks old new → ArePairs state connections (map view old) (map view (lent old new))
  pairs_lent old new each = pairs_from old (lent old new) (lent_length old new) (each_lent old new each)

  -- workers served the desks that were seated
  pub have_worked : (pass : Passed) (olds : List (Place Link)) (old new : List A) (count : ℕ) → count ≡ length old → reverse (map view old) ≡ map (λ o. seated pass o) olds → (now : List A) → now ≡ old → EachWorks now new
      → HaveWorked state connections (splitting pass) olds (reverse (map view (take count (new ++ drop (length new) old))))
  have_worked pass olds old new count size are now shown each =
      worked_of state connections pass olds (reverse (map view (take count (new ++ drop (length new) old))))
      (subst (λ l. ArePairs state connections l (reverse (map view (take count (new ++ drop (length new) old))))) are
      (pairs_reversed state connections (map view old) (map view (take count (new ++ drop (length new) old)))
      (subst (λ n. ArePairs state connections (map view old) (map view (take n (new ++ drop (length new) old)))) (sym size) (pairs_lent old new (subst (λ l. EachWorks l new) shown each)))))
