-- A call through the only pass of a turn is decided right after what the pass had seen.
use Rattle.std.proofs.Common.{◌≡◌, ℕ, ◌+◌, ◌≤◌, false, List, [], ◌∷◌, ◌++◌, length, take, Option, Some, None, refl, sym, ap, subst, ◌∙◌, arith, append-nil, length-append, length-take}
use Rattle.std.specs.Prelude.{Result, IfOk}
use Rattle.std.proofs.lemmas.Result.{IfOk-weaker}
use Rattle.ks_base.specs.Rows.{Text}
use Rattle.ks_machine.specs.declared.call.Call.{Call}
use Rattle.ks_machine.specs.declared.change.Change.{Change}
use Rattle.ks_machine.specs.declared.change.Entry.{Entry}
use Rattle.ks_machine.specs.declared.command.Command.{Command}
use Rattle.ks_machine.specs.Fronts.{Front, after, answer, cut, first_front, then}
use Rattle.ks_machine.specs.Moment.{moment_of}
use Rattle.ks_machine.specs.Openings.{NamedRule, PlainOpening}
use Rattle.ks_service.specs.declared.answer.Answer.{Answer}
use Rattle.ks_service.specs.Called.{Called, IsDecided, IsDecidedUnless, IsNextUnless, is_memory, made_by}
use Rattle.ks_service.proofs.EventLemmas.{after_is, after_raised, answer_bare, answer_raised, event, made_bare, raised}
use Rattle.ks_turn.specs.Passes.{Passed}
use Rattle.ks_drill.specs.Drill.{AreDefault, IsDrill, drill, drill_of, opened}
use Rattle.ks_drill.specs.Openings.{drill_opening}
use Rattle.ks_drill.specs.Scripts.{Stage, asks, bare, call_of}

no_more : (xs ys later : List Entry) → ys ≡ xs ++ later → length ys ≡ length xs → ys ≡ xs
no_more xs ys [] e same = e ∙ append-nil xs
no_more xs ys (entry ∷ later) e same = let long = ap length e ∙ length-append xs (entry ∷ later) in absurd (omega arith)

-- the plain machine does not look at how many changes are kept

then_bare : (f : Front) (moment : ℕ) (change : Option Change) → then (bare f) moment change ≡ event f moment change 0
then_bare f moment None = refl
then_bare f moment (Some change) = refl

after_bare : (f : Front) (call : Call) (kept : ℕ) → bare (after (raised f call kept) call) ≡ after (bare f) call
after_bare f call kept =
    let moment = moment_of f.high call.reading in
    after_raised f call 0 kept
    ∙ sym (after_is (bare f) call ∙ ap (λ change. then (bare f) moment change) (made_bare f call) ∙ then_bare f moment (made_by f call))

module _ {F : Type 0} (old new : Passed) (call : Call) (said : Answer F) (h : Called old new call said) (all : old.weight ≡ 1000000) (decided : is_memory said.reply ≡ false) where
  abbrev at : Front
  at = cut new.seen said.changes said.moment

  by_machine : IsDecided old new call at said
  by_machine = subst (λ b. IsDecidedUnless b old new call at said) decided h.decided

  moment_is : said.moment ≡ moment_of old.seen.high call.reading
  moment_is = subst (λ b. IsNextUnless b old.seen call said.moment) decided (h.alone all).1

  count_is : length at.changes ≡ length old.seen.changes
  count_is = let count = (h.alone all).0 in omega (arith, length-take said.changes new.seen.changes, h.within)

  at_is : at ≡ raised old.seen call at.kept
  at_is =
      let opening = sym h.goes_on.opening in
      let changes = no_more old.seen.changes at.changes h.goes_on.later h.goes_on.changes count_is in
      λ i. record { opening = opening i; changes = changes i; high = moment_is i; kept = at.kept }

  reply_is : said.reply ≡ answer (bare old.seen) call
  reply_is = by_machine.reply ∙ ap (λ front. answer front call) at_is ∙ answer_raised old.seen call at.kept ∙ sym (answer_bare old.seen call)

  front_is : bare new.seen ≡ after (bare old.seen) call
  front_is = ap bare by_machine.seen ∙ ap (λ front. bare (after front call)) at_is ∙ after_bare old.seen call at.kept

  pub told_is : (calls : ℕ) (command : Command) (caller subject : Option Text) (session : Stage) →
      session ≡ record { front = bare old.seen; calls = calls } → call ≡ call_of (calls + 1) command caller subject →
      (record { front = bare new.seen; calls = calls + 1 }, said.reply) ≡ asks command caller subject session
  unfolding asks
  told_is calls command caller subject session is made =
      let front = front_is ∙ ap (λ next. after (bare old.seen) next) made in
      let reply = reply_is ∙ ap (λ next. answer (bare old.seen) next) made in
      rw is (λ i. (record { front = front i; calls = calls + 1 }, reply i))

-- a machine that was just opened

pub opened_is : (front : Front) (opening : PlainOpening) (rules : List NamedRule) (session : Stage) → front ≡ first_front opening → opening ≡ drill_opening rules →
    session ≡ record { front = bare front; calls = 0 } → session ≡ opened rules
opened_is front opening rules session first is begun = begun ∙ ap (λ f. record { front = bare f; calls = 0 }) (first ∙ ap first_front is)

pub run_ok : {E : Type 0} (start count : ℕ) (front : Front) (opening : PlainOpening) (rules : List NamedRule) (session : Stage) (made : Result Text E) →
    front ≡ first_front opening → opening ≡ drill_opening rules → session ≡ record { front = bare front; calls = 0 } → AreDefault rules →
    IfOk made (λ text. text ≡ (drill start count session).1) → IfOk made (IsDrill start count)
unfolding drill_of
run_ok start count front opening rules session made first is begun are says =
    IfOk-weaker made (λ text. text ≡ (drill start count session).1) (IsDrill start count)
    (λ text told.
    record { rules = rules; are_default = are; is = told ∙ ap (λ stage. (drill start count stage).1) (opened_is front opening rules session first is begun) })
    says
