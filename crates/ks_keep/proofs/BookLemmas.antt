-- Books of fronts, and an identity with its keeper that stands for a front.
use Rattle.std.proofs.Common.{◌≡◌, ◌≢◌, ◌⊎◌, inl, inr, ℕ, zero, suc, ◌+◌, ◌<◌, ◌≤◌, ◌==◌, List, [], ◌∷◌, ◌++◌, length, take, drop, slice_index_or, Option, Some, None, refl, sym, ap, subst, ◌∙◌, arith, add-one, append-nil, length-append, length-drop, lt_of_not-le}
use Rattle.std.specs.Prelude.{if◌then◌else◌}
use Rattle.std.proofs.Math.Seq.{take-append_seam}
use Rattle.std.proofs.lemmas.Bool.Decides.{nat_tests}
use native.Mathlib.Decide.{dec_le}
use Rattle.ks_entries.specs.Changes.{IsEntry}
use Rattle.ks_keeper.specs.Keeper.{IsTidy, Keeping, Kept, with_entry}
use Rattle.ks_machine.specs.declared.change.Change.{Change}
use Rattle.ks_machine.specs.declared.change.Entry.{Entry}
use Rattle.ks_machine.specs.Fronts.{Front, then as goes_on}
use Rattle.ks_state.specs.Decides.{with_kept}
use Rattle.ks_state.specs.Shown.{Shown}
use Rattle.ks_state.specs.Standing.{IsNewest, Stands, StandsWithAllKept}
use Rattle.ks_state.specs.StandingLaws.{made_so_far}
use Rattle.ks_state.proofs.KeptLemmas.{apart}
use Rattle.ks_keep.specs.Books.{AreKept, BookedState, HasHeader, IsBookOf, Spell, Stand, StandsBooked, StandsSince}
use Rattle.ks_keep.specs.Keeping.{GoesOn, IsLacking, IsSpelled}
use Rattle.ks_keep.specs.Stops.{with_entries}

-- a function with these bytes at this number
abbrev put : ℕ → List ℕ → (ℕ → Option (List ℕ)) → ℕ → Option (List ℕ)
put number bytes at n = if n == number then Some bytes else at n

put_there : (number : ℕ) (bytes : List ℕ) (at : ℕ → Option (List ℕ)) (n : ℕ) → n ≡ number → put number bytes at n ≡ Some bytes
put_there number bytes at n is = grind (arith, nat_tests)

put_apart : (number : ℕ) (bytes : List ℕ) (at : ℕ → Option (List ℕ)) (n : ℕ) → n ≢ number → put number bytes at n ≡ at n
put_apart number bytes at n differs = grind (arith, nat_tests)

-- entries behind the number stand as they stood
stand_behind : (number : ℕ) (bytes : List ℕ) (at : ℕ → Option (List ℕ)) (from : ℕ) (entries : List Entry) → number < from → Stand at from entries →
    Stand (put number bytes at) from entries
stand_behind number bytes at from [] lt stand = tt
stand_behind number bytes at from (entry ∷ entries) lt (there, stand) =
    ((there.0, put_apart number bytes at from (λ is. absurd (omega arith)) ∙ there.1, there.2), stand_behind number bytes at (suc from) entries (omega arith) stand)

-- one entry more, behind those that stand
stand_more : (number : ℕ) (bytes : List ℕ) (at : ℕ → Option (List ℕ)) (count from : ℕ) (entries : List Entry) (entry : Entry) (rest : List Entry) →
    number ≡ from + count → drop count entries ≡ entry ∷ rest → IsEntry bytes entry → Stand at from (take count entries) →
    Stand (put number bytes at) from (take (suc count) entries)
stand_more number bytes at zero from [] entry rest is next spells stand = absurd (cc)
stand_more number bytes at zero from (first ∷ entries) entry rest is next spells stand =
    let same : first ≡ entry = cc in
    ((bytes, put_there number bytes at from (omega arith), subst (IsEntry bytes) (sym same) spells), tt)
stand_more number bytes at (suc count) from [] entry rest is next spells stand = absurd (cc)
stand_more number bytes at (suc count) from (first ∷ entries) entry rest is next spells (there, stand) = (
  (there.0, put_apart number bytes at from (λ same. absurd (omega arith)) ∙ there.1, there.2),
  stand_more number bytes at count (suc from) entries entry rest (omega arith) next spells stand,
)

-- one of those that stand, once more
stand_again : (number : ℕ) (bytes : List ℕ) (at : ℕ → Option (List ℕ)) (place count from : ℕ) (entries : List Entry) (entry : Entry) (rest : List Entry) →
    place < count → number ≡ from + place → drop place entries ≡ entry ∷ rest → IsEntry bytes entry → Stand at from (take count entries) →
    Stand (put number bytes at) from (take count entries)
stand_again number bytes at place zero from entries entry rest lt is next spells stand = absurd (omega arith)
stand_again number bytes at zero (suc count) from [] entry rest lt is next spells stand = absurd (cc)
stand_again number bytes at zero (suc count) from (first ∷ entries) entry rest lt is next spells (there, stand) =
    let same : first ≡ entry = cc in
    ((bytes, put_there number bytes at from (omega arith), subst (IsEntry bytes) (sym same) spells), stand_behind number bytes at (suc from) (take count entries) (omega arith) stand)
stand_again number bytes at (suc place) (suc count) from [] entry rest lt is next spells stand = absurd (cc)
stand_again number bytes at (suc place) (suc count) from (first ∷ entries) entry rest lt is next spells (there, stand) = (
  (there.0, put_apart number bytes at from (λ same. absurd (omega arith)) ∙ there.1, there.2),
  stand_again number bytes at place count (suc from) entries entry rest (omega arith) (omega arith) next spells stand,
)

there_is : (f : Front) (count : ℕ) (entry : Entry) (rest : List Entry) → drop count f.changes ≡ entry ∷ rest → count + 1 ≤ length f.changes
there_is f count entry rest next = let long : length (drop count f.changes) ≡ length rest + 1 = ap length next ∙ omega arith in omega (arith, long, length-drop count f.changes)

-- a book with the next change put into it
kept_by : (kept : Kept) (f : Front) (bytes : List ℕ) (entry : Entry) (rest : List Entry) → drop f.kept f.changes ≡ entry ∷ rest → IsEntry bytes entry →
    (book : IsBookOf kept f) → Dec (suc f.kept ≤ book.count) → IsBookOf (with_entry f.kept bytes kept) (with_kept f (f.kept + 1))
kept_by kept f bytes entry rest next spells book (yes lt) = record {
  header = book.header;
  count = book.count;
  least = omega (arith, lt);
  most = book.most;
  stand = stand_again f.kept bytes kept.entries f.kept book.count 0 f.changes entry rest lt (omega arith) next spells book.stand;
  none = λ number le. put_apart f.kept bytes kept.entries number (λ is. absurd (omega (arith, lt, le))) ∙ book.none number le;
}
kept_by kept f bytes entry rest next spells book (no gt) =
    let is : book.count ≡ f.kept = let l = lt_of_not-le gt in omega (arith, book.least) in record {
      header = book.header;
      count = suc f.kept;
      least = omega arith;
      most = omega (arith, there_is f f.kept entry rest next);
      stand = stand_more f.kept bytes kept.entries f.kept 0 f.changes entry rest (omega arith) next spells
          (subst (λ count. Stand kept.entries 0 (take count f.changes)) is book.stand);
      none = λ number le. put_apart f.kept bytes kept.entries number (λ same. absurd (omega (arith, le))) ∙ book.none number (omega (arith, is, le));
    }

pub kept_next : (kept : Kept) (f : Front) (bytes : List ℕ) (entry : Entry) (rest : List Entry) → drop f.kept f.changes ≡ entry ∷ rest → IsEntry bytes entry →
    IsBookOf kept f → IsBookOf (with_entry f.kept bytes kept) (with_kept f (f.kept + 1))
kept_next kept f bytes entry rest next spells book = kept_by kept f bytes entry rest next spells book (dec_le (suc f.kept) book.count)

-- a book of a front is one of it with fewer changes kept
pub fewer_kept : (kept : Kept) (f : Front) (count : ℕ) → count ≤ f.kept → IsBookOf kept f → IsBookOf kept (with_kept f count)
fewer_kept kept f count le book = record { header = book.header; count = book.count; least = omega (arith, book.least); most = book.most; stand = book.stand; none = book.none }

take_first : (count : ℕ) (xs : List Entry) (x : Entry) → count ≤ length xs → take count (xs ++ x ∷ []) ≡ take count xs
take_first zero [] x le = refl
take_first zero (y ∷ xs) x le = refl
take_first (suc count) [] x le = absurd (omega arith)
take_first (suc count) (y ∷ xs) x le = ap (λ (entries : List Entry). y ∷ entries) (take_first count xs x (omega arith))

drop_first : (count : ℕ) (xs : List Entry) (x : Entry) → count ≤ length xs → drop count (xs ++ x ∷ []) ≡ drop count xs ++ x ∷ []
drop_first zero [] x le = refl
drop_first zero (y ∷ xs) x le = refl
drop_first (suc count) [] x le = absurd (omega arith)
drop_first (suc count) (y ∷ xs) x le = drop_first count xs x (omega arith)

-- a book of a front is one of the front after it
pub book_after : (kept : Kept) (f : Front) (moment : ℕ) (change : Option Change) → IsBookOf kept f → IsBookOf kept (goes_on f moment change)
book_after kept f moment None book = record { header = book.header; count = book.count; least = book.least; most = book.most; stand = book.stand; none = book.none }
book_after kept f moment (Some what) book =
    let entry : Entry = record { number = length f.changes; moment = moment; change = what } in record {
      header = book.header;
      count = book.count;
      least = book.least;
      most = omega (arith, book.most, length-append f.changes (entry ∷ []));
      stand = subst (Stand kept.entries 0) (sym (take_first book.count f.changes entry book.most)) book.stand;
      none = book.none;
    }

-- spellings

-- the first of what is pending
pub first_is : (pending : List (List ℕ)) (count : ℕ) (bytes one : List ℕ) → count ≡ length pending → 0 < count → bytes ≡ slice_index_or pending 0 bytes → one ≡ bytes →
    pending ≡ one ∷ drop 1 pending
first_is [] count bytes one long some is same = absurd (omega (arith, long))
first_is (first ∷ []) count bytes one long some is same = ap (λ (x : List ℕ). x ∷ []) (sym (same ∙ is))
first_is (first ∷ next ∷ pending) count bytes one long some is same = ap (λ (x : List ℕ). x ∷ next ∷ pending) (sym (same ∙ is))

-- the newest gets its own
spell_newest : (bytes : List ℕ) (entry : Entry) → IsEntry bytes entry → (pending : List (List ℕ)) (entries : List Entry) → Spell pending (entries ++ entry ∷ []) →
    length pending ≤ length entries → Spell (pending ++ bytes ∷ []) (entries ++ entry ∷ [])
spell_newest bytes entry is [] [] spell le = (is, tt)
spell_newest bytes entry is [] (x ∷ []) spell le = absurd spell
spell_newest bytes entry is [] (x ∷ y ∷ entries) spell le = absurd spell
spell_newest bytes entry is (first ∷ pending) [] spell le = absurd (omega arith)
spell_newest bytes entry is (first ∷ pending) (x ∷ entries) (one, spell) le = (one, spell_newest bytes entry is pending entries spell (omega arith))

-- where all have theirs, one more may lack its own
spell_more : (entry : Entry) (pending : List (List ℕ)) (entries : List Entry) → Spell pending entries → length entries ≤ length pending → Spell pending (entries ++ entry ∷ [])
spell_more entry [] [] spell le = tt
spell_more entry [] (x ∷ entries) spell le = absurd (omega arith)
spell_more entry (first ∷ pending) [] spell le = absurd spell
spell_more entry (first ∷ pending) (x ∷ entries) (one, spell) le = (one, spell_more entry pending entries spell (omega arith))

drop_all : (xs : List Entry) → drop (length xs) xs ≡ []
drop_all [] = refl
drop_all (x ∷ xs) = drop_all xs

-- and then a keeper that is whole has all changes
pub all_in_book : (kept : Kept) (f : Front) → IsBookOf kept f → f.kept ≡ length f.changes → AreKept kept.entries f.changes
all_in_book kept f book all =
    let is : book.count ≡ length f.changes = omega (arith, book.least, book.most) in
    let whole : take (length f.changes) f.changes ≡ f.changes = ap (λ (entries : List Entry). take (length f.changes) entries) (sym (append-nil f.changes)) ∙ take-append_seam f.changes [] in record {
      stand = subst (Stand kept.entries 0) (ap (λ count. take count f.changes) is ∙ whole) book.stand;
      end = book.none (length f.changes) (omega (arith, is));
    }

-- and what stands from 0 to where a tidy keeper ends is a book
pub book_of_all : (kept : Kept) (f : Front) → (IsTidy kept) → HasHeader kept f.opening → f.kept ≤ length f.changes → AreKept kept.entries f.changes → IsBookOf kept f
book_of_all kept f tidy header le are =
    let whole : take (length f.changes) f.changes ≡ f.changes = ap (λ (entries : List Entry). take (length f.changes) entries) (sym (append-nil f.changes)) ∙ take-append_seam f.changes [] in record {
      header = header;
      count = length f.changes;
      least = le;
      most = omega arith;
      stand = subst (Stand kept.entries 0) (sym whole) are.stand;
      none = λ number behind. tidy.entries (length f.changes) number are.end behind;
    }

-- an identity with its keeper

drop_next : (count : ℕ) (xs : List Entry) (x : Entry) (rest : List Entry) → drop count xs ≡ x ∷ rest → drop (suc count) xs ≡ rest
drop_next zero [] x rest e = absurd (cc)
drop_next zero (y ∷ []) x rest e = cc
drop_next zero (y ∷ z ∷ xs) x rest e = cc
drop_next (suc count) [] x rest e = absurd (cc)
drop_next (suc count) (y ∷ xs) x rest e = drop_next count xs x rest e

-- a book stays one with the first of what is pending put into it, however many these are
pub stopped : (count : ℕ) (pending : List (List ℕ)) (kept : Kept) (f : Front) (entries : List Entry) → drop f.kept f.changes ≡ entries → Spell pending entries →
    IsBookOf kept f → IsBookOf (with_entries f.kept (take count pending) kept) f
stopped zero [] kept f entries next spell book = book
stopped zero (bytes ∷ more) kept f entries next spell book = book
stopped (suc count) [] kept f entries next spell book = book
stopped (suc count) (bytes ∷ more) kept f [] next spell book = absurd spell
stopped (suc count) (bytes ∷ more) kept f (entry ∷ rest) next (one, spell) book =
    let further : drop (f.kept + 1) f.changes ≡ rest = ap (λ count. drop count f.changes) (add-one f.kept) ∙ drop_next f.kept f.changes entry rest next in
    let all = stopped count more (with_entry f.kept bytes kept) (with_kept f (f.kept + 1)) rest further spell (kept_next kept f bytes entry rest next one book) in
    fewer_kept (with_entries (f.kept + 1) (take count more) (with_entry f.kept bytes kept)) (with_kept f (f.kept + 1)) f.kept (omega arith) all

module _ {K : Type 0} (keeping : Keeping K) where
  -- the first of what is pending was put into the book
  stands_kept : (b : BookedState K) (f : Front) (bytes : List ℕ) (more : List (List ℕ)) (keeper : K) (entries : List Entry) → StandsBooked keeping b f →
      drop b.kept f.changes ≡ entries → Spell (bytes ∷ more) entries → (keeping.whole keeper → keeping.whole b.keeper) →
      (keeping.whole keeper → keeping.kept keeper ≡ with_entry b.kept bytes (keeping.kept b.keeper)) →
      StandsBooked keeping (record b { keeper = keeper; pending = more; kept = b.kept + 1 }) (with_kept f (b.kept + 1))
  stands_kept b f bytes more keeper [] stands next spell since is = absurd spell
  stands_kept b f bytes more keeper (entry ∷ rest) stands next (one, spell) since is = record {
    stands = apart b.shown f (b.kept + 1) stands.stands;
    kept = refl;
    most = there_is f b.kept entry rest next;
    pending = subst (Spell more) (sym (ap (λ count. drop count f.changes) (add-one b.kept) ∙ drop_next b.kept f.changes entry rest next)) spell;
    book = λ whole.
        let next_too : drop f.kept f.changes ≡ entry ∷ rest = ap (λ count. drop count f.changes) stands.kept ∙ next in
        let book = kept_next (keeping.kept b.keeper) f bytes entry rest next_too one (stands.book (since whole)) in
        subst (λ kept. IsBookOf kept (with_kept f (b.kept + 1))) (sym (is whole))
        (subst (λ count. IsBookOf (with_entry count bytes (keeping.kept b.keeper)) (with_kept f (count + 1))) stands.kept book);
  }

  -- it may have been put there, and is pending all the same
  stands_pending : (b : BookedState K) (f : Front) (bytes : List ℕ) (more : List (List ℕ)) (keeper : K) (entries : List Entry) → StandsBooked keeping b f →
      drop b.kept f.changes ≡ entries → Spell (bytes ∷ more) entries → (keeping.whole keeper → keeping.whole b.keeper) →
      (keeping.whole keeper → (keeping.kept keeper ≡ keeping.kept b.keeper) ⊎ (keeping.kept keeper ≡ with_entry b.kept bytes (keeping.kept b.keeper))) →
      StandsBooked keeping (record b { keeper = keeper }) f
  stands_pending b f bytes more keeper [] stands next spell since is = absurd spell
  stands_pending b f bytes more keeper (entry ∷ rest) stands next (one, spell) since is = record {
    stands = stands.stands;
    kept = stands.kept;
    most = stands.most;
    pending = stands.pending;
    book = λ whole.
        let next_too : drop f.kept f.changes ≡ entry ∷ rest = ap (λ count. drop count f.changes) stands.kept ∙ next in
        let old = stands.book (since whole) in
        let more_kept = kept_next (keeping.kept b.keeper) f bytes entry rest next_too one old in
        let book : IsBookOf (with_entry f.kept bytes (keeping.kept b.keeper)) f =
        fewer_kept (with_entry f.kept bytes (keeping.kept b.keeper)) (with_kept f (f.kept + 1)) f.kept (omega arith) more_kept in
        elim (is whole) as (λ _. IsBookOf (keeping.kept keeper) f) [
          | inl same ↦ subst (λ kept. IsBookOf kept f) (sym same) old
          | inr put ↦ subst (λ kept. IsBookOf kept f) (sym put) (subst (λ count. IsBookOf (with_entry count bytes (keeping.kept b.keeper)) f) stands.kept book)
        ];
  }

  -- where all changes are kept, nothing is pending
  pub new_stands : (holds : Type 0) (b : BookedState K) (f : Front) → b.pending ≡ [] → b.kept ≡ b.shown.state.made → StandsWithAllKept b.shown f →
      (keeping.whole b.keeper → IsBookOf (keeping.kept b.keeper) f) → (keeping.whole b.keeper → holds) → StandsSince keeping holds b f
  new_stands holds b f empty all stands book since =
      let is : b.kept ≡ length f.changes = all ∙ made_so_far b.shown f stands.stands in
      let none : drop b.kept f.changes ≡ [] = ap (λ count. drop count f.changes) is ∙ drop_all f.changes in record {
        stands = record {
          stands = stands.stands;
          kept = stands.kept ∙ sym is;
          most = omega (arith, is);
          pending = subst (λ (pending : List (List ℕ)). Spell pending (drop b.kept f.changes)) (sym empty) (subst (Spell []) (sym none) tt);
          book = book;
        };
        since = since;
      }

  long_as : (b : BookedState K) (f : Front) → StandsBooked keeping b f → length (drop b.kept f.changes) + b.kept ≡ b.shown.state.made
  long_as b f stands = omega (arith, length-drop b.kept f.changes, stands.most, made_so_far b.shown f stands.stands)

  none_made : (b : BookedState K) (f : Front) → StandsBooked keeping b f → b.shown.newest ≡ None → length f.changes ≡ 0
  none_made b f stands none = let empty : f.changes ≡ [] = subst (λ newest. IsNewest newest f.changes) none stands.stands.newest in ap length empty

  -- all that is not kept has its spelling
  pub spelled : (b : BookedState K) (f : Front) → StandsBooked keeping b f → IsSpelled b → length (drop b.kept f.changes) ≤ length b.pending
  spelled b f stands (inl is) = omega (arith, is, long_as b f stands)
  spelled b f stands (inr none) = omega (arith, none_made b f stands none, length-drop b.kept f.changes)

  spell_last : (b : BookedState K) (f : Front) (bytes : List ℕ) (entry : Entry) → StandsBooked keeping b f → b.kept + length b.pending + 1 ≡ b.shown.state.made →
      IsEntry bytes entry → (older : List Entry) → f.changes ≡ older ++ entry ∷ [] → Spell (b.pending ++ bytes ∷ []) (drop b.kept f.changes)
  spell_last b f bytes entry stands lt is older last =
      let count : length f.changes ≡ length older + 1 = ap length last ∙ length-append older (entry ∷ []) in
      let least : b.kept ≤ length older = omega (arith, lt, count, made_so_far b.shown f stands.stands) in
      let changes : drop b.kept f.changes ≡ drop b.kept older ++ entry ∷ [] = ap (drop b.kept) last ∙ drop_first b.kept older entry least in
      let spell = spell_newest bytes entry is b.pending (drop b.kept older) (subst (Spell b.pending) changes stands.pending)
      (omega (arith, lt, count, made_so_far b.shown f stands.stands, length-drop b.kept older)) in
      subst (Spell (b.pending ++ bytes ∷ [])) (sym changes) spell

  -- the newest has its spelling now
  stands_spelled : (b : BookedState K) (f : Front) (bytes : List ℕ) → StandsBooked keeping b f → IsLacking b (Some bytes) →
      StandsBooked keeping (record b { pending = b.pending ++ bytes ∷ [] }) f
  stands_spelled b f bytes stands (lt, (entry, newest, is)) =
      let last = subst (λ (newest : Option Entry). IsNewest newest f.changes) newest stands.stands.newest in record {
        stands = stands.stands;
        kept = stands.kept;
        most = stands.most;
        pending = spell_last b f bytes entry stands lt is last.0 last.1;
        book = stands.book;
      }

  -- the front after a call, where all before it have their spellings
  pub stands_after : (b : BookedState K) (f : Front) (moment : ℕ) (change : Option Change) (shown : Shown) → StandsBooked keeping b f →
      length (drop b.kept f.changes) ≤ length b.pending → Stands shown (goes_on f moment change) →
      StandsBooked keeping (record b { shown = shown }) (with_kept (goes_on f moment change) b.kept)
  stands_after b f moment None shown stands all new = record {
    stands = apart shown (goes_on f moment None) b.kept new;
    kept = refl;
    most = stands.most;
    pending = stands.pending;
    book = λ whole. fewer_kept (keeping.kept b.keeper) (goes_on f moment None) b.kept (omega (arith, stands.kept)) (book_after (keeping.kept b.keeper) f moment None (stands.book whole));
  }
  stands_after b f moment (Some what) shown stands all new =
      let entry : Entry = record { number = length f.changes; moment = moment; change = what } in record {
        stands = apart shown (goes_on f moment (Some what)) b.kept new;
        kept = refl;
        most = omega (arith, stands.most, length-append f.changes (entry ∷ []));
        pending = subst (Spell b.pending) (sym (drop_first b.kept f.changes entry stands.most)) (spell_more entry b.pending (drop b.kept f.changes) stands.pending all);
        book = λ whole. fewer_kept (keeping.kept b.keeper) (goes_on f moment (Some what)) b.kept (omega (arith, stands.kept))
            (book_after (keeping.kept b.keeper) f moment (Some what) (stands.book whole));
      }

  -- where nothing is pending and nothing lacks its spelling, all is kept
  pub all_kept : (b : BookedState K) (f : Front) → StandsBooked keeping b f → b.pending ≡ [] → IsSpelled b → f.kept ≡ length f.changes
  all_kept b f stands empty is =
      let none : length b.pending ≡ 0 = ap length empty in
      omega (arith, spelled b f stands is, none, length-drop b.kept f.changes, stands.kept, stands.most)

  -- keeping that goes on

  pub goes_nowhere : (b : BookedState K) → GoesOn keeping b b
  goes_nowhere b = record {
    shown = refl;
    grows = omega arith;
    stands = λ f stands. subst (StandsBooked keeping b) (λ i. record f { kept = stands.kept i }) stands;
    whole = λ whole. whole;
    faults = omega arith;
  }

  pub goes_further : (a b c : BookedState K) → GoesOn keeping a b → GoesOn keeping b c → GoesOn keeping a c
  goes_further a b c one two = record {
    shown = two.shown ∙ one.shown;
    grows = omega (arith, one.grows, two.grows);
    stands = λ f stands. two.stands (with_kept f b.kept) (one.stands f stands);
    whole = λ whole. one.whole (two.whole whole);
    faults = omega (arith, one.faults, two.faults);
  }

  pub goes_by_one : (b : BookedState K) (bytes : List ℕ) (more : List (List ℕ)) (keeper : K) → b.pending ≡ bytes ∷ more → keeping.faults b.keeper ≤ keeping.faults keeper →
      (keeping.whole keeper → keeping.whole b.keeper) → (keeping.whole keeper → keeping.kept keeper ≡ with_entry b.kept bytes (keeping.kept b.keeper)) →
      GoesOn keeping b (record b { keeper = keeper; pending = more; kept = b.kept + 1 })
  goes_by_one b bytes more keeper first faults since is = record {
    shown = refl;
    grows = omega arith;
    stands = λ f stands. stands_kept b f bytes more keeper (drop b.kept f.changes) stands refl (subst (λ pending. Spell pending (drop b.kept f.changes)) first stands.pending) since is;
    whole = since;
    faults = faults;
  }

  pub goes_pending : (b : BookedState K) (bytes : List ℕ) (more : List (List ℕ)) (keeper : K) → b.pending ≡ bytes ∷ more → keeping.faults b.keeper ≤ keeping.faults keeper →
      (keeping.whole keeper → keeping.whole b.keeper) →
      (keeping.whole keeper → (keeping.kept keeper ≡ keeping.kept b.keeper) ⊎ (keeping.kept keeper ≡ with_entry b.kept bytes (keeping.kept b.keeper))) →
      GoesOn keeping b (record b { keeper = keeper })
  goes_pending b bytes more keeper first faults since is = record {
    shown = refl;
    grows = omega arith;
    stands = λ f stands.
        let new = stands_pending b f bytes more keeper (drop b.kept f.changes) stands refl (subst (λ pending. Spell pending (drop b.kept f.changes)) first stands.pending) since is in
        subst (StandsBooked keeping (record b { keeper = keeper })) (λ i. record f { kept = stands.kept i }) new;
    whole = since;
    faults = faults;
  }

  pub goes_spelled : (b : BookedState K) (bytes : List ℕ) → IsLacking b (Some bytes) → GoesOn keeping b (record b { pending = b.pending ++ bytes ∷ [] })
  goes_spelled b bytes is = record {
    shown = refl;
    grows = omega arith;
    stands = λ f stands. subst (StandsBooked keeping (record b { pending = b.pending ++ bytes ∷ [] })) (λ i. record f { kept = stands.kept i }) (stands_spelled b f bytes stands is);
    whole = λ whole. whole;
    faults = omega arith;
  }

  pub still_spelled : (b c : BookedState K) → c.shown ≡ b.shown → c.kept ≡ b.kept + 1 → length b.pending ≡ length c.pending + 1 → IsSpelled b → IsSpelled c
  still_spelled b c shown kept pending (inl is) = inl (omega (arith, is, kept, pending, ap (λ (state : Shown). state.state.made) shown))
  still_spelled b c shown kept pending (inr none) = inr (ap (λ (state : Shown). state.newest) shown ∙ none)
