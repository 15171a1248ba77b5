-- How many facts a call can lack: while nothing changes, each work that is done leaves one less.
use Rattle.std.proofs.Common.{◌≡◌, ℕ, zero, suc, ◌+◌, ◌*◌, ◌<◌, ◌≤◌, Bool, true, false, ◌⊎◌, inl, inr, List, [], ◌∷◌, length, Option, Some, None, IfSome, if◌then◌else◌, refl, sym, ap, subst, ◌∙◌, arith}
use Rattle.std.specs.Prelude.{not}
use Rattle.std.specs.List.{filter}
use Rattle.ks_auth.specs.Facts.{FactsState, has_derived, has_opened, told}
use Rattle.ks_base.specs.declared.limits.TheConstants.{KEYS}
use Rattle.ks_base.specs.declared.receipt.Drawn.{Drawn}
use Rattle.ks_base.specs.Rows.{Text}
use Rattle.ks_base.specs.Tables.{Among}
use Rattle.ks_base.proofs.ListLemmas.{length_filter}
use Rattle.ks_laws.specs.Lacking.{IsKept, IsLack, IsNewOf, IsTestedOf, IsTokenOf, IsUnknown}
use Rattle.ks_laws.specs.Orderly.{Each}
use Rattle.ks_laws.proofs.LackLaws.{one_kept}
use Rattle.ks_laws.proofs.ListLemmas.{more_pass, no_fewer}
use Rattle.ks_machine.specs.declared.bodies.Proof.TheVariants as proof
use Rattle.ks_machine.specs.declared.bodies.ScopeIn.{ScopeIn}
use Rattle.ks_machine.specs.declared.call.Call.{Call}
use Rattle.ks_machine.specs.declared.command.Command.{Command}
use Rattle.ks_machine.specs.declared.command.Command.TheVariants as command
use Rattle.ks_machine.specs.Attempts.{Keys, Stored, Fresh, Lack}
use Rattle.ks_machine.specs.Fronts.{Front, replay}
use Rattle.ks_machine.specs.Outcomes.{salt}
use Rattle.ks_machine.specs.States.{State}
use Rattle.ks_checks.specs.declared.halt.Needs.{Needs}
use Rattle.ks_checks.specs.Plans.{Names}
use Rattle.ks_ring.specs.declared.held_key.HeldKey.{HeldKey}
use Rattle.ks_service.specs.declared.rounds.TheConstants.{DECISIONS}
use Rattle.ks_service.specs.Work.{AreKept, IsDerived, IsDone, IsOpened, secrets_in, secrets_of}
use Rattle.ks_state.specs.Decides.{IsAsked}

if_some : {X : Type 0} (given : Option X) (x : X) (P : X → Type 0) → given ≡ Some x → IfSome given P → P x
if_some given x P is holds = subst (λ o. IfSome o P) is holds

-- what is not known

none_if : {X : Type 0} (b : Bool) (x : X) → (if b then Some x else None) ≡ None → b ≡ false
none_if true x is = absurd (cc)
none_if false x is = refl

not_opened : (facts : FactsState) (held : HeldKey) (text : Text) → (told facts).answer held text ≡ None → has_opened held text facts.opened ≡ false
unfolding told
not_opened facts held text is = none_if (has_opened held text facts.opened) _ is

not_derived : (facts : FactsState) (password : Text) (salted : List ℕ) (rounds : ℕ) → (told facts).derive password salted rounds ≡ None →
    has_derived password salted rounds facts.derived ≡ false
unfolding told
not_derived facts password salted rounds is = none_if (has_derived password salted rounds facts.derived) _ is

-- texts of tokens

-- of how many of these keys it is not known what they make of a text, if there is one
pub unopened : List HeldKey → FactsState → Option Text → ℕ
unopened keys facts None = 0
unopened keys facts (Some text) = length (filter (λ held. not (has_opened held text facts.opened)) keys)

unopened_most : (keys : List HeldKey) (facts : FactsState) (given : Option Text) → unopened keys facts given ≤ length keys
unfolding unopened
unopened_most keys facts None = omega arith
unopened_most keys facts (Some text) = length_filter (λ held. not (has_opened held text facts.opened)) keys

still_unopened : (held : HeldKey) (text : Text) (old new : FactsState) → AreKept old new → not (has_opened held text new.opened) ≡ true →
    not (has_opened held text old.opened) ≡ true
still_unopened held text old new kept = by (has_opened held text old.opened) (has_opened held text new.opened) (kept.opened held text)
  where
    by : (b c : Bool) → (b ≡ true → c ≡ true) → not c ≡ true → not b ≡ true
    by true c more is = let known = more refl in absurd (cc)
    by false c more is = refl

unopened_kept : (keys : List HeldKey) (old new : FactsState) (given : Option Text) → AreKept old new → unopened keys new given ≤ unopened keys old given
unfolding unopened
unopened_kept keys old new None kept = omega arith
unopened_kept keys old new (Some text) kept =
    no_fewer (λ held. not (has_opened held text new.opened)) (λ held. not (has_opened held text old.opened))
    (λ held. still_unopened held text old new kept) keys

unopened_less : (keys : List HeldKey) (old new : FactsState) (given : Option Text) (text : Text) (held : HeldKey) → given ≡ Some text → AreKept old new →
    Among keys held → has_opened held text old.opened ≡ false → has_opened held text new.opened ≡ true → unopened keys new given < unopened keys old given
unfolding unopened
unopened_less keys old new None text held is kept among before after = absurd (cc)
unopened_less keys old new (Some other) text held is kept among before after =
    let same : text ≡ other = cc in
    more_pass (λ key. not (has_opened key other new.opened)) (λ key. not (has_opened key other old.opened))
    (λ key. still_unopened key other old new kept) keys held among
    (ap not (subst (λ (t : Text). has_opened held t new.opened ≡ true) same after)) (ap not (subst (λ (t : Text). has_opened held t old.opened ≡ false) same before))

-- one of the keys that are asked for makes of the text what was not known and is known now
opened_less : (held keys : List HeldKey) (needs : Needs) (old new : FactsState) (given : Option Text) (text : Text) → given ≡ Some text → AreKept old new →
    needs.keys ≡ keys → 1 ≤ length keys → Each (Among held) keys → Each (λ key. (told old).answer key text ≡ None) keys → IfSome given (IsOpened needs.keys new) →
    unopened held new given < unopened held old given
opened_less held [] needs old new given text is kept names some among unknown done = absurd (omega (arith, some))
opened_less held (key ∷ keys) needs old new given text is kept names some among unknown done =
    let first : IsOpened (key ∷ keys) new text = subst (λ (ks : List HeldKey). IsOpened ks new text) names (if_some given text (IsOpened needs.keys new) is done) in
    unopened_less held old new given text key is kept (among key (inl refl)) (not_opened old key text (unknown key (inl refl))) first.0

-- the same of all three texts of a call
pub unopened_all : State → Call → FactsState → ℕ
unopened_all S call facts =
    unopened S.ring.held facts call.caller + (unopened S.ring.held facts call.subject + unopened S.ring.held facts (secrets_in call).token)

all_most : (S : State) (call : Call) (facts : FactsState) → length S.ring.held ≤ KEYS → unopened_all S call facts ≤ 3 * KEYS
unfolding unopened_all
all_most S call facts few =
    omega (arith, few, unopened_most S.ring.held facts call.caller, unopened_most S.ring.held facts call.subject, unopened_most S.ring.held facts (secrets_in call).token)

token_is : (drawn : Drawn) (asked : Command) (text : Text) (scope : ScopeIn) → asked ≡ command.Login (record { proof = proof.Token text; scope = scope }) →
    (secrets_of drawn asked).token ≡ Some text
token_is drawn asked text scope is = ap (λ (c : Command). (secrets_of drawn c).token) is

module _ (S : State) (call : Call) (old new : FactsState) (needs : Needs) (kept : AreKept old new) (done : IsDone needs call new) where
  all_kept : unopened_all S call new ≤ unopened_all S call old
  unfolding unopened_all
  all_kept =
      omega (arith, unopened_kept S.ring.held old new call.caller kept, unopened_kept S.ring.held old new call.subject kept, unopened_kept S.ring.held old new (secrets_in call).token kept)

  all_less : (keys : List HeldKey) (text : Text) → needs.keys ≡ keys → 1 ≤ length keys → Each (Among S.ring.held) keys → IsTokenOf call text →
      Each (λ key. (told old).answer key text ≡ None) keys → unopened_all S call new < unopened_all S call old
  unfolding unopened_all
  all_less keys text names some among (inl is) unknown =
      omega (arith, opened_less S.ring.held keys needs old new call.caller text is kept names some among unknown done.caller, unopened_kept S.ring.held old new call.subject kept, unopened_kept S.ring.held old new (secrets_in call).token kept)
  all_less keys text names some among (inr (inl is)) unknown =
      omega (arith, unopened_kept S.ring.held old new call.caller kept, opened_less S.ring.held keys needs old new call.subject text is kept names some among unknown done.subject, unopened_kept S.ring.held old new (secrets_in call).token kept)
  all_less keys text names some among (inr (inr (scope, is))) unknown =
      let token = token_is call.draw call.command text scope is in
      omega (arith, unopened_kept S.ring.held old new call.caller kept, unopened_kept S.ring.held old new call.subject kept, opened_less S.ring.held keys needs old new (secrets_in call).token text token kept names some among unknown done.token)

-- passwords

shown_is : (drawn : Drawn) (asked : Command) (password : Text) → IsTestedOf asked password → (secrets_of drawn asked).shown ≡ Some password
shown_is drawn asked password (inl (body, is, shows)) = ap (λ (c : Command). (secrets_of drawn c).shown) is ∙ shows
shown_is drawn asked password (inr (id, new, is)) = ap (λ (c : Command). (secrets_of drawn c).shown) is

set_is : (call : Call) (password : Text) → IsNewOf call password → (secrets_in call).set ≡ Some password
set_is call password (inl (id, original, is)) = ap (λ (c : Command). (secrets_of call.draw c).set) is
set_is call password (inr (inl (given, name, domain, enabled, factors, is))) = ap (λ (c : Command). (secrets_of call.draw c).set) is
set_is call password (inr (inr (inl (id, given, name, domain, enabled, factors, is)))) = ap (λ (c : Command). (secrets_of call.draw c).set) is
set_is call password (inr (inr (inr (user, body, is, same)))) = ap (λ (c : Command). (secrets_of call.draw c).set) is ∙ ap Some same

above_none : (n : ℕ) → (n ≡ 0 → ⊥) → 1 ≤ n
above_none zero never = absurd (never refl)
above_none (suc n) never = omega arith

-- what was found, and what is left to find: no more facts than decisions that lack one
pub record Left (S : State) (call : Call) (facts : FactsState) (found : ℕ) : Type 0 where
  -- of the password that is tested, and of that which is to be kept: 0 where it is known what is derived of it
  pub tested : ℕ
  pub fresh : ℕ
  pub tested_known : tested ≡ 0 → (password salted : List ℕ) (rounds : ℕ) → IsTestedOf call.command password → IsKept S.rows call.command salted rounds →
      has_derived password salted rounds facts.derived ≡ true
  pub fresh_known : fresh ≡ 0 → (password : List ℕ) → IsNewOf call password → has_derived password (salt call.draw) S.settings.rounds facts.derived ≡ true
  pub most : found + unopened_all S call facts + tested + fresh < DECISIONS

left_first : (S : State) (call : Call) (facts : FactsState) → length S.ring.held ≤ KEYS → Left S call facts 0
left_first S call facts few = record {
  tested = 1;
  fresh = 1;
  tested_known = λ gone. absurd (omega (arith, gone));
  fresh_known = λ gone. absurd (omega (arith, gone));
  most = omega (arith, all_most S call facts few);
}

module _ (S : State) (call : Call) (old new : FactsState) (needs : Needs) (found : ℕ) (left : Left S call old found) (kept : AreKept old new) (done : IsDone needs call new) where
  tested_still : left.tested ≡ 0 → (password salted : List ℕ) (rounds : ℕ) → IsTestedOf call.command password → IsKept S.rows call.command salted rounds →
      has_derived password salted rounds new.derived ≡ true
  tested_still gone password salted rounds of keeps = kept.derived password salted rounds (left.tested_known gone password salted rounds of keeps)

  fresh_still : left.fresh ≡ 0 → (password : List ℕ) → IsNewOf call password → has_derived password (salt call.draw) S.settings.rounds new.derived ≡ true
  fresh_still gone password of = kept.derived password (salt call.draw) S.settings.rounds (left.fresh_known gone password of)

  -- of the password that is tested no other salt is kept
  tested_now : (salted : List ℕ) (rounds : ℕ) → needs.stored ≡ Some (salted, rounds) → IsKept S.rows call.command salted rounds →
      (password salted' : List ℕ) (rounds' : ℕ) → IsTestedOf call.command password → IsKept S.rows call.command salted' rounds' →
      has_derived password salted' rounds' new.derived ≡ true
  tested_now salted rounds asks keeps password salted' rounds' of keeps' =
      let same = one_kept S.rows call.command salted salted' rounds rounds' keeps keeps' in
      let known : has_derived password salted rounds new.derived ≡ true = if_some (secrets_in call).shown password (IsDerived (salted, rounds) new) (shown_is call.draw call.command password of)
      (if_some needs.stored (salted, rounds) (λ by. IfSome (secrets_in call).shown (IsDerived by new)) asks done.stored) in
      subst (λ (by : List ℕ × ℕ). has_derived password by.0 by.1 new.derived ≡ true) (λ i. (same.0 i, same.1 i)) known

  fresh_now : (salted : List ℕ) (rounds : ℕ) → needs.fresh ≡ Some (salted, rounds) → salted ≡ salt call.draw → rounds ≡ S.settings.rounds →
      (password : List ℕ) → IsNewOf call password → has_derived password (salt call.draw) S.settings.rounds new.derived ≡ true
  fresh_now salted rounds asks salt_is rounds_are password of =
      let known : has_derived password salted rounds new.derived ≡ true = if_some (secrets_in call).set password (IsDerived (salted, rounds) new) (set_is call password of)
      (if_some needs.fresh (salted, rounds) (λ by. IfSome (secrets_in call).set (IsDerived by new)) asks done.fresh) in
      subst (λ (by : List ℕ × ℕ). has_derived password by.0 by.1 new.derived ≡ true) (λ i. (salt_is i, rounds_are i)) known

  left_by : (lack : Lack) → Names needs lack → IsLack S call lack → IsUnknown (told old) call lack → Left S call new (found + 1)
  left_by (Keys keys) names (some, among) (text, of, unknown) = record {
    tested = left.tested;
    fresh = left.fresh;
    tested_known = tested_still;
    fresh_known = fresh_still;
    most = omega (arith, left.most, all_less S call old new needs kept done keys text names.0 some among of unknown);
  }
  left_by (Stored salted rounds) names (keeps, range) (password, of, unknown) =
      let before = not_derived old password salted rounds unknown in
      let one : 1 ≤ left.tested = above_none left.tested (λ gone. let known = left.tested_known gone password salted rounds of keeps in absurd (cc)) in record {
        tested = 0;
        fresh = left.fresh;
        tested_known = λ gone. tested_now salted rounds names.1 keeps;
        fresh_known = fresh_still;
        most = omega (arith, left.most, one, all_kept S call old new needs kept done);
      }
  left_by (Fresh salted rounds) names (salt_is, long, rounds_are, range) (password, of, unknown) =
      let before = not_derived old password salted rounds unknown in
      let there : has_derived password (salt call.draw) S.settings.rounds old.derived ≡ false =
      subst (λ (by : List ℕ × ℕ). has_derived password by.0 by.1 old.derived ≡ false) (λ i. (salt_is i, rounds_are i)) before in
      let one : 1 ≤ left.fresh = above_none left.fresh (λ gone. let known = left.fresh_known gone password of in absurd (cc)) in record {
        tested = left.tested;
        fresh = 0;
        tested_known = tested_still;
        fresh_known = λ gone. fresh_now salted rounds names.2 salt_is rounds_are;
        most = omega (arith, left.most, one, all_kept S call old new needs kept done);
      }

-- what is left after so many works, at a front; before the first, nothing is known of the keys

abbrev pub IsLeft : Front → Call → FactsState → ℕ → Type 0
IsLeft f call facts found = (found ≡ 0) ⊎ Left (replay f) call facts found

left_there : (f : Front) (call : Call) (facts : FactsState) (found : ℕ) → length (replay f).ring.held ≤ KEYS → IsLeft f call facts found → Left (replay f) call facts found
left_there f call facts found few (inl gone) = subst (Left (replay f) call facts) (sym gone) (left_first (replay f) call facts few)
left_there f call facts found few (inr left) = left

-- a work that is done leaves one less, so that there are fewer works than decisions
pub left_later : (f : Front) (call : Call) (old new : FactsState) (needs : Needs) (found : ℕ) → IsLeft f call old found → IsAsked f call old needs → AreKept old new →
    IsDone needs call new → IsLeft f call new (found + 1)
left_later f call old new needs found left asked kept done =
    inr (left_by (replay f) call old new needs found (left_there f call old found asked.few left) kept done asked.lack asked.names asked.found asked.unknown)
