-- From a hold to its answer, and from round to round.
use Rattle.std.proofs.Common.{◌≡◌, ℕ, ◌+◌, ◌-◌, ◌<◌, ◌≤◌, ◌⊎◌, inl, inr, Bool, true, false, ◌++◌, length, Option, None, refl, sym, ap, subst, ◌∙◌, arith, append-nil}
use Rattle.ks_machine.specs.declared.call.Call.{Call}
use Rattle.ks_machine.specs.declared.cause.Cause.TheVariants as cause
use Rattle.ks_machine.specs.declared.change.Change.{Change}
use Rattle.ks_machine.specs.declared.reply.Reply.{Reply}
use Rattle.ks_machine.specs.declared.reply.Reply.TheVariants as reply
use Rattle.ks_machine.specs.Fronts.{Front, IsSound, ◌⊑◌, after, answer, cut}
use Rattle.ks_machine.specs.Moment.{moment_of}
use Rattle.ks_machine.specs.Told.{IsTellable}
use Rattle.ks_machine.proofs.FrontLemmas.{reflexive, transitive}
use Rattle.ks_service.specs.declared.answer.Answer.{Answer}
use Rattle.ks_service.specs.Called.{Called, IsDecidedUnless, IsNextUnless, capped, is_memory, made_by, numbered}
use Rattle.ks_service.specs.Rounds.{Waited}
use Rattle.ks_service.proofs.CalledLemmas.{Happened, at_numbers, called_by, called_decided, called_memory, not_before}
use Rattle.ks_turn.proofs.StepLemmas.{risen_not}
use Rattle.ks_service.proofs.EventLemmas.{after_is, event, event_few, event_goes_on, event_high}
use Rattle.ks_state.specs.declared.decides.Kept.TheVariants as keeping
use Rattle.ks_state.specs.Decides.{Replied, with_kept}
use Rattle.ks_turn.specs.Passes.{Lands, Passed, Took, released}
use Rattle.ks_turn.specs.Sums.{numbers}

-- what a hold comes to, whose value stood for a front, kept its changes and stands for it still, and for which numbers are told
pub record Settled (F : Type 0) {S : Type 0} (means : S → Front → Type 0) (p : Passed) (call : Call) (said : Reply) (held value : S) : Type 0 where
  pub before : Front
  pub stood : means held before
  pub front : Front
  pub high : front.high ≡ before.high
  pub lands : Lands means value p.seen front
  pub called : (answer : Answer F) → answer.reply ≡ said → answer.changes ≡ length p.seen.changes → answer.moment ≡ front.high → IsSound front
      → (answer.kept ≡ keeping.Yes → front.kept ≡ length front.changes) → (answer.moment < capped call.reading → answer.kept ≡ keeping.Memory)
      → Called p (released p front) call answer

-- of the fronts that go on from one by one change at most, a value stands for one alone
abbrev pub AreAlone : {S : Type 0} → (S → Front → Type 0) → Type 0
AreAlone {S = S} means = (value : S) (base f g : Front) → base ⊑ f → base ⊑ g → length f.changes ≤ length base.changes + 1 → means value f → means value g → g ≡ f

module _ (F : Type 0) {S : Type 0} (means : S → Front → Type 0) (kept : S → ℕ) (p : Passed) (call : Call) (said : Reply) (held value : S) where
  lands_at : AreAlone means → (moment : ℕ) (change : Option Change) → p.seen.high ≤ moment → p.seen.kept ≤ kept value → means value (event p.seen moment change (kept value))
      → Lands means value p.seen (event p.seen moment change (kept value))
  lands_at alone moment change high more stands =
      let later = event_goes_on p.seen moment (kept value) change high more in record {
        later = later;
        stands = stands;
        alone = λ g goes_on also. alone value p.seen (event p.seen moment change (kept value)) g later goes_on (event_few p.seen moment (kept value) change) stands also;
      }

  -- all is kept that can be
  abbrev pub Keeps : Type 0
  Keeps = (g : Front) → means held g → means value (with_kept g (kept value))

  settled_decided : AreAlone means → IsSound p.seen → p.seen.kept ≤ kept value → IsTellable said → Keeps → (said ≡ answer p.seen call) × means held (with_kept (after p.seen call) (kept held))
      → Settled F means p call said held value
  settled_decided alone sound more tellable keeps replied =
      let moment = moment_of p.seen.high call.reading in
      let change = made_by p.seen call in
      let is = after_is p.seen call in
      let stands : means value (event p.seen moment change (kept value)) = subst (λ g. means value (with_kept g (kept value))) is (keeps (with_kept (after p.seen call) (kept held)) replied.1) in
      let last = event_high p.seen moment (kept value) change in record {
        before = with_kept (after p.seen call) (kept held);
        stood = replied.1;
        front = event p.seen moment change (kept value);
        high = let same : (after p.seen call).high ≡ (event p.seen moment change (kept value)).high = ap (λ (g : Front). g.high) is in sym same;
        lands = lands_at alone moment change (omega arith) more stands;
        called = λ answer is count moment_is sound' all none.
            at_numbers p (released p (event p.seen moment change (kept value))) call answer _ _ count (moment_is ∙ last)
            (called_by p _ call _ answer.caller (called_decided p call (kept value) answer.reply answer.kept (is ∙ replied.0) (subst IsTellable (sym is) tellable) sound more sound' all));
      }

  settled_memory : AreAlone means → IsSound p.seen → p.seen.kept ≤ kept value → Keeps → (moment : ℕ) → (moment ≡ moment_of p.seen.high call.reading) ⊎ (moment ≡ p.seen.high)
      → said ≡ reply.Refused cause.Memory → means held (event p.seen moment None (kept held)) → Settled F means p call said held value
  settled_memory alone sound more keeps moment moment_is memory stood =
      let h : Happened p call moment (kept value) = record { sound = sound; moment_is = moment_is; more = more } in record {
        before = event p.seen moment None (kept held);
        stood = stood;
        front = event p.seen moment None (kept value);
        high = refl;
        lands = lands_at alone moment None (not_before p call moment (kept value) h) more (keeps (event p.seen moment None (kept held)) stood);
        called = λ answer is count last sound' all none.
            at_numbers p (released p (event p.seen moment None (kept value))) call answer _ _ count last
            (called_by p _ call _ answer.caller (called_memory p call moment (kept value) None answer.reply answer.kept (is ∙ memory) refl h sound' all
            (λ (below : moment < capped call.reading). none (subst (λ m. m < capped call.reading) (sym last) below))));
      }

  settled : AreAlone means → IsSound p.seen → p.seen.kept ≤ kept value → IsTellable said → Keeps → Replied means kept p.seen call said held → Settled F means p call said held value
  settled alone sound more tellable keeps (inl replied) = settled_decided alone sound more tellable keeps replied
  settled alone sound more tellable keeps (inr (memory, inl stood)) = settled_memory alone sound more keeps (moment_of p.seen.high call.reading) (inl refl) memory stood
  settled alone sound more tellable keeps (inr (memory, inr stood)) = settled_memory alone sound more keeps p.seen.high (inr refl) memory stood

module _ (F : Type 0) {S : Type 0} (means : S → Front → Type 0) (kept : S → ℕ) (p : Passed) (call : Call) (said : Reply) (held shown value : S) where
  -- the value that was held is shown, and keeps its changes
  pub settled_kept : shown ≡ held → ((g : Front) → means shown g → means value (with_kept g (kept value))) → kept shown ≤ kept value
      → AreAlone means → IsSound p.seen → p.seen.kept ≤ kept held → IsTellable said → Replied means kept p.seen call said held → Settled F means p call said shown value
  settled_kept is keeps grows alone sound more tellable replied =
      let same : kept shown ≡ kept held = ap kept is in
      settled F means kept p call said shown value alone sound (omega (arith, more, grows, same)) tellable keeps
      (subst (λ v. Replied means kept p.seen call said v) (sym is) replied)

  pub settles : Settled F means p call said shown value → (q : Passed) → ((f : Front) → p.seen ⊑ f → means value f → q ≡ released p f)
      → (answer : Answer F) → answer.reply ≡ said → answer.changes ≡ length p.seen.changes → answer.moment ≡ q.seen.high → IsSound q.seen
      → (answer.kept ≡ keeping.Yes → (f : Front) → means value f → f.kept ≡ length f.changes)
      → ((f : Front) → means shown f → f.high < capped call.reading → answer.kept ≡ keeping.Memory) → Called p q call answer
  settles s q gives answer is count last sound all none =
      let same = gives s.front s.lands.later s.lands.stands in
      let moment : answer.moment ≡ s.front.high = last ∙ ap (λ (r : Passed). r.seen.high) same in
      subst (λ (r : Passed). Called p r call answer) (sym same)
      (s.called answer is count moment (subst (λ (r : Passed). IsSound r.seen) same sound) (λ yes. all yes s.front s.lands.stands)
      (λ below. none s.before s.stood (subst (λ m. m < capped call.reading) (moment ∙ s.high) below)))

-- rounds

released_same : (p : Passed) → released p p.seen ≡ p
released_same p =
    let none : length p.seen.changes - length p.seen.changes ≡ 0 = omega arith in
    let own = ap (λ n. p.own ++ numbers (length p.seen.changes) n) none ∙ append-nil p.own in
    λ i. record p { own = own i; top = risen_not p.seen.high p.top i }

pub waited_trans : (p q r : Passed) → Waited p q → Waited q r → Waited p r
waited_trans p q r a b = record {
  pass = b.pass ∙ ap (λ (x : Passed). record x { seen = r.seen }) a.pass;
  later = transitive p.seen q.seen r.seen a.later b.later;
  alone = λ all. b.alone (ap (λ (x : Passed). x.weight) a.pass ∙ all) ∙ a.alone all;
}

pub took_waits : (first : Front) {S : Type 0} (means : S → Front → Type 0) (p q : Passed) (value : S) → Took first means p q value → Waited p q
took_waits first means p q value t = record { pass = t.pass; later = t.later; alone = t.alone }

-- a value that nobody changed
pub lands_back : {S : Type 0} (means : S → Front → Type 0) (value : S) (f : Front) → AreAlone means → means value f → Lands means value f f
lands_back means value f alone stands = record {
  later = reflexive f;
  stands = stands;
  alone = λ g later also. alone value f f g (reflexive f) later (omega arith) stands also;
}

-- and a pass that gave the turn back with it
pub gave_back : {S : Type 0} (means : S → Front → Type 0) (value : S) (p q : Passed) → ((f : Front) → p.seen ⊑ f → means value f → q ≡ released p f) → means value p.seen → q ≡ p
gave_back means value p q gives stands = gives p.seen (reflexive p.seen) stands ∙ released_same p

decided_later : {F : Type 0} (b : Bool) (p q r : Passed) (call : Call) (at : Front) (said : Answer F) → q.own ≡ p.own → IsDecidedUnless b q r call at said → IsDecidedUnless b p r call at said
decided_later false p q r call at said same d = record { reply = d.reply; seen = d.seen; own = d.own ∙ ap (λ l. l ++ numbered said.changes (made_by at call)) same; late = d.late }
decided_later true p q r call at said same d = record { seen = d.seen; own = d.own ∙ same }

pub called_waited : {F : Type 0} (p q r : Passed) (call : Call) (said : Answer F) → Waited p q → Called q r call said → Called p r call said
called_waited p q r call said w c = record {
  turn = c.turn ∙ ap (λ (x : Passed). x.turn) w.pass;
  within = c.within;
  goes_on = transitive p.seen q.seen (cut r.seen said.changes said.moment) w.later c.goes_on;
  is_cut = c.is_cut;
  sound = c.sound;
  moment = c.moment;
  decided = decided_later (is_memory said.reply) p q r call (cut r.seen said.changes said.moment) said (ap (λ (x : Passed). x.own) w.pass) c.decided;
  tellable = c.tellable;
  top = subst (λ t. (r.top ≡ t) ⊎ (r.top ≡ capped call.reading)) (ap (λ (x : Passed). x.top) w.pass) c.top;
  weight = c.weight ∙ ap (λ (x : Passed). x.weight) w.pass;
  alone = λ all. subst (λ (f : Front). (said.changes ≡ length f.changes) × IsNextUnless (is_memory said.reply) f call said.moment) (w.alone all)
      (c.alone (ap (λ (x : Passed). x.weight) w.pass ∙ all));
  kept = c.kept;
  unkept = c.unkept;
}

-- the same where the pass in the hold is told by equations
pub answered_in : {F : Type 0} (p held q r : Passed) (call : Call) (said : Answer F) → Waited p held → q ≡ held → Called q r call said → Called p r call said
answered_in p held q r call said w same c = called_waited p q r call said (subst (Waited p) (sym same) w) c
