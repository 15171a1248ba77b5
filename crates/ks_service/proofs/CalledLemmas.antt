-- From one event in a hold to what a call promises.
use Rattle.std.proofs.Common.{◌≡◌, ℕ, ◌-◌, ◌<◌, ◌≤◌, ◌⊎◌, inl, inr, ⊎_elim, Bool, true, false, List, [], ◌∷◌, ◌++◌, length, min, Option, Some, None, refl, sym, ap, subst, ◌∙◌, arith, append-nil, length-append, lt_of_not-le}
use native.Mathlib.Decide.{dec_le}
use Rattle.ks_machine.specs.declared.call.Call.{Call}
use Rattle.ks_machine.specs.declared.cause.Cause.TheVariants as cause
use Rattle.ks_machine.specs.declared.change.Change.{Change}
use Rattle.ks_machine.specs.declared.change.Entry.{Entry}
use Rattle.ks_machine.specs.declared.reply.Reply.{Reply}
use Rattle.ks_machine.specs.declared.reply.Reply.TheVariants as reply
use Rattle.ks_machine.specs.Fronts.{Front, IsSound, ◌⊑◌, after, answer, cut}
use Rattle.ks_machine.specs.Moment.{moment_of}
use Rattle.ks_machine.specs.Told.{IsTellable}
use Rattle.ks_payload.specs.declared.payload.Payload.{Payload}
use Rattle.ks_service.specs.declared.answer.Answer.{Answer}
use Rattle.ks_service.specs.Called.{Called, IsDecidedUnless, IsNextUnless, IsUndecided, capped, is_memory, made_by, numbered}
use Rattle.ks_service.proofs.EventLemmas.{after_raised, answer_raised, cut_event, event, event_high, event_is_place, event_kept, event_within, made_none, made_raised, memory_is, place, place_comes_before, place_goes_on}
use Rattle.ks_state.specs.declared.decides.Kept.{Kept}
use Rattle.ks_state.specs.declared.decides.Kept.TheVariants as keeping
use Rattle.ks_state.specs.Decides.{with_kept}
use Rattle.ks_turn.specs.Passes.{Passed, released}
use Rattle.ks_turn.specs.Sums.{numbers}
use Rattle.ks_turn.specs.Views.{risen, since}
use Rattle.ks_turn.proofs.StepLemmas.{risen_not, risen_up}

-- numbers of changes and tops

since_event : (f : Front) (moment kept : ℕ) (change : Option Change) → since f.changes (event f moment change kept).changes ≡ numbered (length f.changes) change
since_event f moment kept None = ap (numbers (length f.changes)) (let e : length f.changes - length f.changes ≡ 0 = omega arith in e)
since_event f moment kept (Some change) =
    let new : List Entry = record { number = length f.changes; moment = moment; change = change } ∷ [] in
    let one : length (f.changes ++ new) - length f.changes ≡ 1 = omega (arith, length-append f.changes new) in
    ap (numbers (length f.changes)) one

top_by : (high moment top reading : ℕ) → (moment ≡ moment_of high reading) ⊎ (moment ≡ high) → Dec (moment ≤ high) → (risen high moment top ≡ top) ⊎ (risen high moment top ≡ capped reading)
top_by high moment top reading is (yes le) =
    let same : moment ≡ high = ⊎_elim (λ (e : moment ≡ moment_of high reading). let t : moment ≡ high = omega arith in t) (λ (e : moment ≡ high). e) is in
    inl (ap (λ m. risen high m top) same ∙ risen_not high top)
top_by high moment top reading is (no gt) =
    let up : high < moment = lt_of_not-le gt in
    let same : moment ≡ capped reading = ⊎_elim (λ (e : moment ≡ moment_of high reading). let t : moment ≡ capped reading = omega arith in t) (λ (e : moment ≡ high). let t : moment ≡ capped reading = absurd (omega arith) in t) is in
    inr (risen_up high moment top up ∙ same)

top_event : (high moment top reading : ℕ) → (moment ≡ moment_of high reading) ⊎ (moment ≡ high) → (risen high moment top ≡ top) ⊎ (risen high moment top ≡ capped reading)
top_event high moment top reading is = top_by high moment top reading is (dec_le moment high)

-- one event in a hold

-- when it was, and how much is kept afterwards
pub record Happened (p : Passed) (call : Call) (moment kept : ℕ) : Type 0 where
  pub sound : IsSound p.seen
  pub moment_is : (moment ≡ moment_of p.seen.high call.reading) ⊎ (moment ≡ p.seen.high)
  pub more : p.seen.kept ≤ kept

pub not_before : (p : Passed) (call : Call) (moment kept : ℕ) → Happened p call moment kept → p.seen.high ≤ moment
not_before p call moment kept h =
    ⊎_elim (λ (e : moment ≡ moment_of p.seen.high call.reading). let t : p.seen.high ≤ moment = omega arith in t) (λ (e : moment ≡ p.seen.high). let t : p.seen.high ≤ moment = omega arith in t) h.moment_is

-- the answer in a hold after so many changes
abbrev pub answered : {F : Type 0} → Passed → ℕ → Reply → Kept F → Answer F
answered p moment said keeps = record { reply = said; changes = length p.seen.changes; moment = moment; kept = keeps; caller = None }

module _ {F : Type 0} (p : Passed) (call : Call) (moment kept : ℕ) (change : Option Change) (said : Reply) (keeps : Kept F) where
  abbrev pub after_event : Passed
  after_event = released p (event p.seen moment change kept)

  -- the changes are kept where the answer says so
  abbrev pub Keeps : Type 0
  Keeps = keeps ≡ keeping.Yes → (event p.seen moment change kept).kept ≡ length (event p.seen moment change kept).changes

  -- and there was no event where the moment is below the reading
  abbrev pub KeepsNone : Type 0
  KeepsNone = moment < capped call.reading → keeps ≡ keeping.Memory

  called_at : Happened p call moment kept → IsSound (event p.seen moment change kept) → Keeps → KeepsNone
      → IsDecidedUnless (is_memory said) p after_event call (place p.seen moment kept) (answered p moment said keeps)
      → IsNextUnless (is_memory said) p.seen call moment → IsTellable said
      → Called p after_event call (answered p moment said keeps)
  called_at h sound all none decided next tellable =
      let high = not_before p call moment kept h in
      let at = sym (cut_event p.seen moment kept change) in record {
        turn = refl;
        within = event_within p.seen moment kept change;
        goes_on = subst (λ g. p.seen ⊑ g) at (place_goes_on p.seen moment kept h.sound high h.more);
        is_cut = subst (λ g. g ⊑ event p.seen moment change kept) at (place_comes_before p.seen moment kept change);
        sound = sound;
        moment = event_high p.seen moment kept change;
        decided = subst (λ g. IsDecidedUnless (is_memory said) p after_event call g (answered p moment said keeps)) at decided;
        tellable = tellable;
        top = subst (λ m. (risen p.seen.high m p.top ≡ p.top) ⊎ (risen p.seen.high m p.top ≡ capped call.reading)) (sym (event_high p.seen moment kept change)) (top_event p.seen.high moment p.top call.reading h.moment_is);
        weight = refl;
        alone = λ _. (refl, next);
        kept = all;
        unkept = none;
      }

  -- a pass that made no change
  undecided : change ≡ None → IsSound (event p.seen moment change kept) → IsUndecided p after_event (place p.seen moment kept)
  undecided none sound = record {
    seen = event_is_place p.seen moment kept change none sound;
    own = ap (λ l. p.own ++ l) (since_event p.seen moment kept change ∙ ap (numbered (length p.seen.changes)) none) ∙ append-nil p.own;
  }

  -- without memory nothing changed
  pub called_memory : said ≡ reply.Refused cause.Memory → change ≡ None → Happened p call moment kept → IsSound (event p.seen moment change kept) → Keeps → KeepsNone
      → Called p after_event call (answered p moment said keeps)
  called_memory memory none h sound all unkept =
      let is : is_memory said ≡ true = ap is_memory memory in
      called_at h sound all unkept
      (subst (λ b. IsDecidedUnless b p after_event call (place p.seen moment kept) (answered p moment said keeps)) (sym is) (undecided none sound))
      (subst (λ b. IsNextUnless b p.seen call moment) (sym is) h.moment_is) (subst IsTellable (sym memory) tt)

-- the plain machine's step
module _ {F : Type 0} (p : Passed) (call : Call) (kept : ℕ) (said : Reply) (keeps : Kept F) where
  abbrev pub at_call : ℕ
  at_call = moment_of p.seen.high call.reading

  abbrev pub made : Option Change
  made = made_by p.seen call

  decided_by : (b : Bool) → is_memory said ≡ b → said ≡ answer p.seen call → IsSound (event p.seen at_call made kept)
      → IsDecidedUnless b p (released p (event p.seen at_call made kept)) call (place p.seen at_call kept) (answered p at_call said keeps)
  decided_by false is replied sound =
      let some = min kept (length p.seen.changes) in record {
        reply = replied ∙ sym (answer_raised p.seen call some);
        seen = sym (after_raised p.seen call kept some)
            ∙ ap (λ k. with_kept (after (place p.seen at_call kept) call) k) (sym (event_kept p.seen at_call kept made));
        own = ap (λ l. p.own ++ l) (since_event p.seen at_call kept made ∙ ap (numbered (length p.seen.changes)) (sym (made_raised p.seen call some)));
        late = omega arith;
      }
  decided_by true is replied sound =
      undecided p call at_call kept made said keeps (made_none p.seen call cause.Memory (sym replied ∙ memory_is said is)) sound

  next_by : (b : Bool) → IsNextUnless b p.seen call at_call
  next_by false = refl
  next_by true = inl refl

  pub called_decided : said ≡ answer p.seen call → IsTellable said → IsSound p.seen → p.seen.kept ≤ kept → IsSound (event p.seen at_call made kept) → Keeps p call at_call kept made said keeps
      → Called p (released p (event p.seen at_call made kept)) call (answered p at_call said keeps)
  called_decided replied tellable sound more sound' all =
      called_at p call at_call kept made said keeps (record { sound = sound; moment_is = inl refl; more = more }) sound' all
      (λ (below : at_call < capped call.reading). absurd (omega (arith, below)))
      (decided_by (is_memory said) refl replied sound') (next_by (is_memory said)) tellable

-- the answer says these numbers
pub at_numbers : {F : Type 0} (p q : Passed) (call : Call) (said : Answer F) (count moment : ℕ) → said.changes ≡ count → said.moment ≡ moment
    → Called p q call (record said { changes = count; moment = moment }) → Called p q call said
at_numbers p q call said count moment c m made =
    subst (λ (t : ℕ × ℕ). Called p q call (record said { changes = t.0; moment = t.1 })) (λ i. (sym c i, sym m i)) made

decided_by_any : {F : Type 0} (b : Bool) (old new : Passed) (call : Call) (at : Front) (said : Answer F) (caller : Option Payload)
    → IsDecidedUnless b old new call at said → IsDecidedUnless b old new call at (record said { caller = caller })
decided_by_any false old new call at said caller decided = record { reply = decided.reply; seen = decided.seen; own = decided.own; late = decided.late }
decided_by_any true old new call at said caller decided = decided

-- whatever the answer says of the caller
pub called_by : {F : Type 0} (old new : Passed) (call : Call) (said : Answer F) (caller : Option Payload) → Called old new call said
    → Called old new call (record said { caller = caller })
called_by old new call said caller called = record {
  turn = called.turn;
  within = called.within;
  goes_on = called.goes_on;
  is_cut = called.is_cut;
  sound = called.sound;
  moment = called.moment;
  decided = decided_by_any (is_memory said.reply) old new call (cut new.seen said.changes said.moment) said caller called.decided;
  tellable = called.tellable;
  top = called.top;
  weight = called.weight;
  alone = called.alone;
  kept = called.kept;
  unkept = called.unkept;
}

-- no change before the event is later than its moment
