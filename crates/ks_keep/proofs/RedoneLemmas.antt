-- The entries of a keeper that were made once more so far, and what comes of them in the end.
use Rattle.std.proofs.Common.{◌≡◌, ◌≤◌, ◌+◌, ◌^◌, ℕ, suc, List, [], ◌∷◌, ◌++◌, length, Option, Some, None, Ok, Err, true, false, refl, sym, ap, subst, ◌∙◌, arith, length-append}
use Rattle.ks_entries.specs.Changes.{IsEntry}
use Rattle.ks_keeper.specs.Keeper.{IsTidy, Keeping, Kept}
use Rattle.ks_machine.specs.declared.change.Entry.{Entry}
use Rattle.ks_machine.specs.Fronts.{first_front}
use Rattle.ks_machine.specs.Openings.{PlainOpening}
use Rattle.ks_state.specs.Restoring.{last_moment_in, redone, restored_front}
use Rattle.ks_state.specs.Shown.{Shown}
use Rattle.ks_state.specs.Standing.{StandsWithAllKept}
use Rattle.ks_state.proofs.RestoreLemmas.{redone_is}
use Rattle.ks_keep.specs.declared.fault.NotRead.{NotRead}
use Rattle.ks_keep.specs.declared.fault.NotRead.TheVariants as why
use Rattle.ks_keep.specs.declared.past.Past.{Past}
use Rattle.ks_keep.specs.Books.{AreKept, HasHeader, IsBookOf, Stand, StandsAt}
use Rattle.ks_keep.specs.Pasts.{entries_of}
use Rattle.ks_keep.specs.Redoing.{AreRedoneSoFar, IsOneRedone, RedoesAll, RedoesAt}
use Rattle.ks_keep.specs.Restored.{AreRedone, IsRead}
use Rattle.ks_keep.proofs.BookLemmas.{book_of_all}

stand_behind_all : (at : ℕ → Option (List ℕ)) (from : ℕ) (entries : List Entry) (entry : Entry) → Stand at from entries → StandsAt at (from + length entries) entry →
    Stand at from (entries ++ entry ∷ [])
stand_behind_all at from [] entry stand there =
    let is : from + length {A = Entry} [] ≡ from = omega arith in (subst (λ number. StandsAt at number entry) is there, tt)
stand_behind_all at from (first ∷ entries) entry (one, stand) there =
    let is : from + length (first ∷ entries) ≡ suc from + length entries = omega arith in
    (one, stand_behind_all at (suc from) entries entry stand (subst (λ number. StandsAt at number entry) is there))

module _ {K : Type 0} (keeping : Keeping K) (old : K) (opening : PlainOpening) where
  pub none_so_far : (shown : Shown) → StandsWithAllKept shown (first_front opening) → AreRedoneSoFar keeping old opening 0 shown old []
  unfolding last_moment_in
  none_so_far shown stands = record {
    keeper = record { since = λ whole. whole; same = λ whole. refl; faults = omega arith };
    count = refl;
    stands = stands;
    stand = λ whole. tt;
  }

  read_further : (mid new : K) → IsRead keeping old mid → IsRead keeping mid new → IsRead keeping old new
  read_further mid new one two = record {
    since = λ whole. one.since (two.since whole);
    same = λ whole. two.same whole ∙ one.same (two.since whole);
    faults = omega (arith, one.faults, two.faults);
  }

  one_behind : (number : ℕ) (shown shown_new : Shown) (mid new : K) (entries : List Entry) (entry : Entry) (bytes : List ℕ) →
      AreRedoneSoFar keeping old opening number shown mid entries → IsRead keeping mid new → IsEntry bytes entry →
      (keeping.whole new → (keeping.kept mid).entries number ≡ Some bytes) → StandsWithAllKept shown_new (redone (restored_front opening entries) entry) →
      AreRedoneSoFar keeping old opening (number + 1) shown_new new (entries ++ entry ∷ [])
  one_behind number shown shown_new mid new entries entry bytes far read spells found stands = record {
    keeper = read_further mid new far.keeper read;
    count = omega (arith, far.count, length-append entries (entry ∷ []));
    stands = subst (StandsWithAllKept shown_new) (redone_is opening entries entry) stands;
    stand = λ whole.
        let was = read.since whole in
        let same : (keeping.kept mid).entries number ≡ (keeping.kept old).entries number = ap (λ (kept : Kept). kept.entries number) (far.keeper.same was) in
        let there : StandsAt (keeping.kept old).entries number entry = (bytes, sym same ∙ found whole, spells) in
        let is : number ≡ 0 + length entries = omega (arith, far.count) in
        stand_behind_all (keeping.kept old).entries 0 entries entry (far.stand was) (subst (λ n. StandsAt (keeping.kept old).entries n entry) is there);
  }

  pub one_more : (number : ℕ) (shown shown_new : Shown) (mid new : K) (before after : List Entry) → AreRedoneSoFar keeping old opening number shown mid before →
      IsRead keeping mid new → IsOneRedone (keeping.kept mid).entries (keeping.whole new) number shown shown_new before after →
      AreRedoneSoFar keeping old opening (number + 1) shown_new new after
  one_more number shown shown_new mid new before after far read one =
      subst (AreRedoneSoFar keeping old opening (number + 1) shown_new new) (sym one.entries)
      (one_behind number shown shown_new mid new before one.entry one.bytes far read one.spells one.is (one.stands (restored_front opening before) far.stands))

  pub few_so_far : (number : ℕ) (shown : Shown) (new : K) (entries : List Entry) → AreRedoneSoFar keeping old opening number shown new entries → number ≤ 2 ^ 58
  few_so_far number shown new entries far = omega (arith, far.count, far.stands.stands.lawful.count)

  same_there : (mid new : K) (number : ℕ) (found : Option (List ℕ)) → IsRead keeping old mid → IsRead keeping mid new → keeping.whole new →
      (keeping.kept mid).entries number ≡ found → (keeping.kept old).entries number ≡ found
  same_there mid new number found one two whole is = sym (ap (λ (kept : Kept). kept.entries number) (one.same (two.since whole))) ∙ is

  here : (number : ℕ) (shown : Shown) (mid new : K) (entries : List Entry) → AreRedoneSoFar keeping old opening number shown mid entries → IsRead keeping mid new →
      AreRedoneSoFar keeping old opening number shown new entries
  here number shown mid new entries far read =
      record { keeper = read_further mid new far.keeper read; count = far.count; stands = far.stands; stand = λ whole. far.stand (read.since whole) }

  pub all_so_far : (number : ℕ) (shown shown_new : Shown) (mid new : K) (before : List Entry) (past : Past) → AreRedoneSoFar keeping old opening number shown mid before →
      IsRead keeping mid new → RedoesAt (keeping.kept mid).entries (keeping.whole new) number shown before (Ok false) shown_new (entries_of past) →
      RedoesAll keeping old opening (Ok past) shown_new new
  all_so_far number shown shown_new mid new before past far read (none, same, entries) =
      let there : AreRedoneSoFar keeping old opening number shown_new new (entries_of past) =
      subst (λ (state : Shown). AreRedoneSoFar keeping old opening number state new (entries_of past)) (sym same)
      (subst (AreRedoneSoFar keeping old opening number shown new) (sym entries) (here number shown mid new before far read)) in
      (number, there, λ whole. same_there mid new number None far.keeper read whole (none whole))

  pub bad_there : (number : ℕ) (shown shown_new : Shown) (mid new : K) (fault : NotRead) (before after : List Entry) →
      AreRedoneSoFar keeping old opening number shown mid before → IsRead keeping mid new →
      RedoesAt (keeping.kept mid).entries (keeping.whole new) number shown before (Err fault) shown_new after → RedoesAll keeping old opening (Err fault) shown_new new
  bad_there number shown shown_new mid new why.Failed before after far read is = (read_further mid new far.keeper read, tt)
  bad_there number shown shown_new mid new why.Memory before after far read is = (read_further mid new far.keeper read, tt)
  bad_there number shown shown_new mid new (why.BadEntry bad) before after far read (same, is) = (
    read_further mid new far.keeper read,
    λ whole. let found = is whole in record {
      before = before;
      count = far.count ∙ sym same;
      stand = far.stand (read.since whole);
      lawful = far.stands.stands.lawful;
      bytes = found.bytes;
      is = same_there mid new bad (Some found.bytes) far.keeper read whole (subst (λ n. (keeping.kept mid).entries n ≡ Some found.bytes) (sym same) found.is);
      bad = λ entry spells may. found.bad entry spells (restored_front opening before) far.stands may;
    },
  )

  pub are_redone : (shown : Shown) (new : K) (past : Past) → (keeping.whole old → IsTidy (keeping.kept old)) → (keeping.whole old → HasHeader (keeping.kept old) opening) →
      RedoesAll keeping old opening (Ok past) shown new → AreRedone keeping old opening shown new past
  are_redone shown new past tidy header (number, far, none) =
      let are : keeping.whole new → AreKept (keeping.kept old).entries (entries_of past) = λ whole. record {
        stand = far.stand whole;
        end = ap (keeping.kept old).entries far.count ∙ none whole;
      } in record {
        keeper = far.keeper;
        stands = far.stands;
        are_kept = are;
        book = λ whole. subst (λ (kept : Kept). IsBookOf kept (restored_front opening (entries_of past))) (sym (far.keeper.same whole))
            (book_of_all (keeping.kept old) (restored_front opening (entries_of past)) (tidy (far.keeper.since whole)) (header (far.keeper.since whole)) (omega arith) (are whole));
      }
