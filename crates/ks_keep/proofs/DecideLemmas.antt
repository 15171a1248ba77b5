-- What is decided by an identity with its keeper.
use Rattle.std.proofs.Common.{◌≡◌, ℕ, ◌+◌, ◌≤◌, inl, inr, List, [], ◌∷◌, ◌++◌, length, drop, Option, Some, None, refl, sym, ap, subst, ◌∙◌, arith, length-append, length-drop}
use Rattle.ks_auth.specs.Facts.{FactsState}
use Rattle.ks_keeper.specs.Keeper.{Keeping}
use Rattle.ks_machine.specs.declared.call.Call.{Call}
use Rattle.ks_machine.specs.declared.cause.Cause.TheVariants as cause
use Rattle.ks_machine.specs.declared.change.Change.{Change}
use Rattle.ks_machine.specs.declared.change.Entry.{Entry}
use Rattle.ks_machine.specs.declared.reply.Reply.{Reply}
use Rattle.ks_machine.specs.declared.reply.Reply.TheVariants as reply
use Rattle.ks_machine.specs.Attempts.{everything}
use Rattle.ks_machine.specs.Fronts.{Front, after, answer, change_of, replay, then as goes_on}
use Rattle.ks_machine.specs.Moment.{moment_of}
use Rattle.ks_machine.specs.Steps.{step}
use Rattle.ks_checks.specs.declared.halt.Needs.{Needs}
use Rattle.ks_state.specs.declared.decision.Decision.TheVariants as decision
use Rattle.ks_state.specs.Decides.{DecidedBy, IsAsked, Replied, with_kept}
use Rattle.ks_state.specs.Shown.{Shown}
use Rattle.ks_state.specs.Standing.{Stands, StandsWithAllKept, changes_made}
use Rattle.ks_state.specs.StandingLaws.{made_so_far}
use Rattle.ks_state.proofs.KeptLemmas.{apart, keeps_all}
use Rattle.ks_keep.specs.Books.{BookedState, Spell, StandsBooked, StandsSince, kept_of}
use Rattle.ks_keep.specs.Keeping.{IsLacking}
use Rattle.ks_keep.proofs.BookLemmas.{fewer_kept, goes_spelled, spelled, stands_after}

-- the pending spellings with the one that was lacking
abbrev pub pending_with : List (List ℕ) → Option (List ℕ) → List (List ℕ)
pending_with pending None = pending
pending_with pending (Some bytes) = pending ++ bytes ∷ []

spell_counts : (pending : List (List ℕ)) (entries : List Entry) → Spell pending entries → (length pending ≤ length entries) × (length entries ≤ length pending + 1)
spell_counts [] [] spell = (omega arith, omega arith)
spell_counts [] (x ∷ []) spell = (omega arith, omega arith)
spell_counts [] (x ∷ y ∷ entries) spell = absurd spell
spell_counts (bytes ∷ pending) [] spell = absurd spell
spell_counts (bytes ∷ pending) (x ∷ entries) (is, spell) = let counts = spell_counts pending entries spell in (omega (arith, counts.0), omega (arith, counts.1))

-- how many changes are kept does not matter to an identity
kept_apart : (shown : Shown) (f : Front) (moment count more : ℕ) (change : Option Change) → Stands shown (with_kept (goes_on (with_kept f count) moment change) more) →
    Stands shown (goes_on f moment change)
kept_apart shown f moment count more None stands = apart shown (with_kept (goes_on (with_kept f count) moment None) more) f.kept stands
kept_apart shown f moment count more (Some what) stands = apart shown (with_kept (goes_on (with_kept f count) moment (Some what)) more) f.kept stands

-- the front, of which all changes that were made are kept
abbrev pub with_all_kept : {K : Type 0} → BookedState K → Front → Front
with_all_kept b f = with_kept f (changes_made b.shown)

-- of the changes that are not kept yet, one at most is pending without its spelling
abbrev pub AreCounted : {K : Type 0} → BookedState K → Type 0
AreCounted b = (b.kept + length b.pending ≤ b.shown.state.made) × (b.shown.state.made ≤ b.kept + length b.pending + 1)

module _ {K : Type 0} (keeping : Keeping K) (holds : Type 0) where
  pub stands_with_all : (b : BookedState K) (f : Front) → StandsSince keeping holds b f → StandsWithAllKept b.shown (with_all_kept b f)
  stands_with_all b f all = keeps_all b.shown f all.stands.stands

  -- the newest change may be pending without its spelling, and no other
  pub counted : (b : BookedState K) (f : Front) → StandsSince keeping holds b f → AreCounted b
  counted b f all =
      let stands = all.stands in
      let counts = spell_counts b.pending (drop b.kept f.changes) stands.pending in
      let long : length (drop b.kept f.changes) + b.kept ≡ b.shown.state.made =
      omega (arith, length-drop b.kept f.changes, stands.most, made_so_far b.shown f stands.stands) in
      (omega (arith, counts.0, long), omega (arith, counts.1, long))

  as_it_is : (b : BookedState K) (f : Front) → StandsBooked keeping b f → record f { kept = b.kept } ≡ f
  as_it_is b f stands = sym (λ i. record f { kept = stands.kept i })

  -- there was no memory before anything was decided
  pub not_decided : (f : Front) (call : Call) (b : BookedState K) → StandsSince keeping holds b f →
      Replied (StandsSince keeping holds) kept_of f call (reply.Refused cause.Memory) b
  not_decided f call b all = inr (refl, inr (subst (StandsSince keeping holds b) (sym (as_it_is b f all.stands)) all))

  with_spelling : (b : BookedState K) (f : Front) (lacking : Option (List ℕ)) → StandsBooked keeping b f → IsLacking b lacking →
      StandsBooked keeping (record b { pending = pending_with b.pending lacking }) f
  with_spelling b f None stands is = stands
  with_spelling b f (Some bytes) stands is =
      subst (StandsBooked keeping (record b { pending = b.pending ++ bytes ∷ [] })) (as_it_is b f stands) ((goes_spelled keeping b bytes is).stands f stands)

  all_spelled : (b : BookedState K) (f : Front) (lacking : Option (List ℕ)) → StandsBooked keeping b f → IsLacking b lacking →
      length (drop b.kept f.changes) ≤ length (pending_with b.pending lacking)
  all_spelled b f None stands is = spelled keeping b f stands is
  all_spelled b f (Some bytes) stands (count, _) =
      omega (arith, count, length-append b.pending (bytes ∷ []), length-drop b.kept f.changes, made_so_far b.shown f stands.stands, stands.most)

  -- it was decided
  pub replied : (f : Front) (call : Call) (said : Reply) (b : BookedState K) (lacking : Option (List ℕ)) (shown : Shown) → StandsSince keeping holds b f →
      IsLacking b lacking → Replied StandsWithAllKept changes_made (with_all_kept b f) call said shown →
      Replied (StandsSince keeping holds) kept_of f call said (record b { shown = shown; pending = pending_with b.pending lacking })
  unfolding after answer replay
  replied f call said b lacking shown all is (inl (told, new)) =
      let stands = all.stands in
      let ready = with_spelling b f lacking stands is in
      let change = change_of (step everything (replay f) call) in
      inl (
        told,
        record {
          stands = stands_after keeping (record b { pending = pending_with b.pending lacking }) f (moment_of f.high call.reading) change shown ready
              (all_spelled b f lacking stands is) (kept_apart shown f (moment_of f.high call.reading) (changes_made b.shown) (changes_made shown) change new.stands);
          since = all.since;
        },
      )
  replied f call said b lacking shown all is (inr (told, inl new)) =
      let stands = all.stands in
      let ready = with_spelling b f lacking stands is in
      inr (
        told,
        inl (record {
          stands = stands_after keeping (record b { pending = pending_with b.pending lacking }) f (moment_of f.high call.reading) None shown ready
              (all_spelled b f lacking stands is) (kept_apart shown f (moment_of f.high call.reading) (changes_made b.shown) (changes_made shown) None new.stands);
          since = all.since;
        }),
      )
  replied f call said b lacking shown all is (inr (told, inr new)) =
      let stands = all.stands in
      let ready = with_spelling b f lacking stands is in
      inr (
        told,
        inr (record {
          stands = record {
            stands = apart shown (with_kept (with_all_kept b f) (changes_made shown)) b.kept new.stands;
            kept = refl;
            most = ready.most;
            pending = ready.pending;
            book = λ whole. fewer_kept (keeping.kept b.keeper) f b.kept (omega (arith, stands.kept)) (stands.book whole);
          };
          since = all.since;
        }),
      )

  pub replied_counted : (f : Front) (call : Call) (said : Reply) (b : BookedState K) → Replied (StandsSince keeping holds) kept_of f call said b → AreCounted b
  replied_counted f call said b (inl (told, stands)) = counted b (record (after f call) { kept = b.kept }) stands
  replied_counted f call said b (inr (told, inl stands)) = counted b (record f { high = moment_of f.high call.reading; kept = b.kept }) stands
  replied_counted f call said b (inr (told, inr stands)) = counted b (record f { kept = b.kept }) stands

  -- facts are lacking
  pub asked : (facts : FactsState) (f : Front) (call : Call) (needs : Needs) (b : BookedState K) → IsAsked (with_all_kept b f) call facts needs → IsAsked f call facts needs
  unfolding replay
  asked facts f call needs b is = record { lack = is.lack; names = is.names; lacks = is.lacks; found = is.found; unknown = is.unknown; few = is.few }

  -- what was decided, as the code has it

  pub answered : (f : Front) (call : Call) (said : Reply) (b : BookedState K) (found lacking : Option (List ℕ)) (shown : Shown) (items : List (List ℕ)) →
      found ≡ lacking → items ≡ pending_with b.pending lacking → IsLacking b found → StandsSince keeping holds b f →
      Replied StandsWithAllKept changes_made (with_all_kept b f) call said shown →
      Replied (StandsSince keeping holds) kept_of f call said (record b { shown = shown; pending = items })
  answered f call said b found lacking shown items is same lacks all told =
      subst (λ (pending : List (List ℕ)). Replied (StandsSince keeping holds) kept_of f call said (record b { shown = shown; pending = pending })) (sym same)
      (replied f call said b lacking shown all (subst (λ (one : Option (List ℕ)). IsLacking b one) is lacks) told)

  pub asked_same : (facts : FactsState) (f : Front) (call : Call) (needs : Needs) (b : BookedState K) (shown : Shown) (items : List (List ℕ)) → items ≡ b.pending →
      DecidedBy StandsWithAllKept changes_made (with_all_kept b f) call facts (decision.Needs needs) b.shown shown →
      IsAsked f call facts needs × (record b { shown = shown; pending = items } ≡ b)
  asked_same facts f call needs b shown items same (is, kept) = (asked facts f call needs b is, λ i. record b { shown = kept i; pending = same i })
