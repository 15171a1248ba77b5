-- A token is told exactly where both texts are valid tokens and the policy allows it.
use Rattle.std.proofs.Common.{◌≡◌, ℕ, Bool, true, false, Option, Some, None, refl, sym, ap, subst, ◌∙◌}
use Rattle.std.specs.Prelude.{◌&&◌, ◌||◌, not, codes}
use Rattle.ks_base.specs.Rows.{Text}
use Rattle.ks_machine.specs.declared.body_out.BodyOut.{BodyOut}
use Rattle.ks_machine.specs.declared.call.Call.{Call}
use Rattle.ks_machine.specs.declared.cause.Cause.{Cause}
use Rattle.ks_machine.specs.declared.cause.Cause.TheVariants as cause
use Rattle.ks_machine.specs.declared.change.Change.{Change}
use Rattle.ks_machine.specs.declared.command.Command.{Command}
use Rattle.ks_machine.specs.declared.reply.Reply.TheVariants as reply
use Rattle.ks_machine.specs.declared.why.Why.{Why}
use Rattle.ks_machine.specs.Actions.{requirements}
use Rattle.ks_machine.specs.Admission.{Parties, admitted, allows, caller_of, missing, subject_of}
use Rattle.ks_machine.specs.Allowed.{allowed}
use Rattle.ks_machine.specs.Attempts.{Attempt, Go, Stop, Lacks, ◌>>=◌, blame, everything, found, need, unless}
use Rattle.ks_machine.specs.Fronts.{answer, replay, reply_of}
use Rattle.ks_machine.specs.Keys.{is_failed}
use Rattle.ks_machine.specs.Moment.{moment_of}
use Rattle.ks_machine.specs.Outcomes.{Outcome}
use Rattle.ks_machine.specs.Room.{event_limit, room_for}
use Rattle.ks_machine.specs.States.{State, raised}
use Rattle.ks_machine.specs.Steps.{checked, has_drawn, lacking_of, on_subject, own_checks, planned, planned_by, step_at, stepped, told_subject}
use Rattle.ks_machine.specs.Targets.{credentials, target_of}
use Rattle.ks_machine.specs.Validity.{Valid, validity}
use Rattle.ks_tokens.specs.Laws.{AsksAbout, MayTell, TokensValidateExactly, gets, heads}
use Rattle.ks_tokens.specs.ValidTokens.{IsValid}
use Rattle.ks_tokens.proofs.ValidLemmas.{valid_goes, valid_is}

-- where a check of a token goes on

record HasToken (S : State) (moment : ℕ) (late : Bool) (given : Option Text) (token : Valid) : Type 0 where
  text : Text
  has : given ≡ Some text
  is : IsValid S moment late text token

valid_behind : {B : Type 0} (S : State) (moment : ℕ) (late : Bool) (text : Text) (why : Why → Cause) (f : Valid → Attempt Cause B) (b : B) (a : Attempt Why Valid)
    → validity everything S moment late text ≡ a → blame why a >>= f ≡ Go b → (token : Valid) × HasToken S moment late (Some text) token × (f token ≡ Go b)
valid_behind S moment late text why f b (Go token) is goes = (token, record { text = text; has = refl; is = valid_is S moment late text token is }, goes)
valid_behind S moment late text why f b (Stop e) is goes = cc
valid_behind S moment late text why f b (Lacks l) is goes = cc

token_behind : {B : Type 0} (S : State) (moment : ℕ) (late : Bool) (given : Option Text) (none : Cause) (why : Why → Cause) (f : Valid → Attempt Cause B) (b : B)
    → (found given none >>= (λ text. blame why (validity everything S moment late text))) >>= f ≡ Go b → (token : Valid) × HasToken S moment late given token × (f token ≡ Go b)
token_behind S moment late None none why f b goes = cc
token_behind S moment late (Some text) none why f b goes = valid_behind S moment late text why f b (validity everything S moment late text) refl goes

-- what a command about a token asks for

pub record IsAbout (S : State) (moment : ℕ) (call : Call) (what : Command) (late : Bool) (action : Text) (own : Text → Valid → Outcome) : Type 0 where
  pub own_is : (who : Parties) → own_checks everything S S.rows moment call who what ≡ on_subject call.subject who.subject own
  pub action_is : (requirements what).action ≡ Some action
  pub subject : (requirements what).subject ≡ true
  pub late_is : (requirements what).late ≡ late
  pub draws : (requirements what).draws ≡ false
  pub loads : (requirements what).loads ≡ false
  pub lacks : (requirements what).lacks ≡ None

pub is_about : (S : State) (moment : ℕ) (call : Call) (what : Command) (late : Bool) (action : Text) → AsksAbout what late action → IsAbout S moment call what late action (told_subject S.rows)
unfolding own_checks requirements
is_about S moment call what late action (gets given) = record { own_is = λ who. refl; action_is = refl; subject = refl; late_is = refl; draws = refl; loads = refl; lacks = refl }
is_about S moment call what late action (heads given) = record { own_is = λ who. refl; action_is = refl; subject = refl; late_is = refl; draws = refl; loads = refl; lacks = refl }

abbrev Allows : State → Valid → Valid → Command → Text → Type 0
Allows S caller subject what action = allowed S.rules action (credentials S.rows caller) (target_of S.rows (Some subject) what) ≡ true

rule_behind : {B : Type 0} (holds : Bool) (why : Cause) (f : Unit {0} → Attempt Cause B) (b : B) → need holds why >>= f ≡ Go b → (holds ≡ true) × (f tt ≡ Go b)
rule_behind true why f b goes = (refl, goes)
rule_behind false why f b goes = cc

given_behind : {A : Type 0} (given : Option Text) (none : Cause) (own : Text → A) (b : A) → found given none >>= (λ text. Go (own text)) ≡ Go b → (text : Text) × (given ≡ Some text) × (own text ≡ b)
given_behind None none own b goes = cc
given_behind (Some text) none own b goes = (text, refl, cc)

-- its checks one after the other: the caller, the subject, the rule and its own

abbrev pub asked_about : State → ℕ → Call → Bool → Text → (Text → Valid → Outcome) → Attempt Cause Outcome
asked_about S moment call late action own = do
  caller ← caller_of everything S moment call.caller
  subject ← subject_of everything S moment late call.subject
  _ ← allows S.rules S.rows caller (Some subject) call.command action
  text ← found call.subject (missing (codes "X-Subject-Token"))
  Go (own text subject)

abbrev admits : Valid → Option Valid → Parties
admits caller subject = record { caller = Some caller; subject = subject }

own_next : (a : Attempt Cause (Unit {0})) (caller subject : Valid) (given : Option Text) (own : Text → Valid → Outcome) →
    (a >>= (λ _. Go (admits caller (Some subject)))) >>= (λ who. on_subject given who.subject own)
    ≡ a >>= (λ _. found given (missing (codes "X-Subject-Token")) >>= (λ text. Go (own text subject)))
own_next (Go u) caller subject (Some text) own = refl
own_next (Go u) caller subject None own = refl
own_next (Stop w) caller subject given own = refl
own_next (Lacks l) caller subject given own = refl

subject_next : (s : Attempt Cause Valid) (allowed : Option Valid → Attempt Cause (Unit {0})) (caller : Valid) (given : Option Text) (own : Text → Valid → Outcome) →
    ((s >>= (λ subject. Go (Some subject))) >>= (λ subject. allowed subject >>= (λ _. Go (admits caller subject)))) >>= (λ who. on_subject given who.subject own)
    ≡ s >>= (λ subject. allowed (Some subject) >>= (λ _. found given (missing (codes "X-Subject-Token")) >>= (λ text. Go (own text subject))))
subject_next (Go subject) allowed caller given own = own_next (allowed (Some subject)) caller subject given own
subject_next (Stop w) allowed caller given own = refl
subject_next (Lacks l) allowed caller given own = refl

caller_next : (c s : Attempt Cause Valid) (allowed : Valid → Option Valid → Attempt Cause (Unit {0})) (given : Option Text) (own : Text → Valid → Outcome) →
    (c >>= (λ caller. (s >>= (λ subject. Go (Some subject))) >>= (λ subject. allowed caller subject >>= (λ _. Go (admits caller subject)))))
    >>= (λ who. on_subject given who.subject own)
    ≡ c >>= (λ caller. s >>= (λ subject. allowed caller (Some subject) >>= (λ _. found given (missing (codes "X-Subject-Token")) >>= (λ text. Go (own text subject)))))
caller_next (Go caller) s allowed given own = subject_next s (allowed caller) caller given own
caller_next (Stop w) s allowed given own = refl
caller_next (Lacks l) s allowed given own = refl

same_own : (a : Attempt Cause Parties) (f g : Parties → Attempt Cause Outcome) → ((who : Parties) → f who ≡ g who) → a >>= f ≡ a >>= g
same_own (Go who) f g same = same who
same_own (Stop w) f g same = refl
same_own (Lacks l) f g same = refl

abbrev behind_three : State → ℕ → Call → Attempt Cause Outcome
behind_three S moment call =
    admitted everything S S.rules S.rows moment call (requirements call.command).action (requirements call.command).subject (requirements call.command).late
    >>= (λ who. own_checks everything S S.rows moment call who call.command)

three_first : (S : State) (moment : ℕ) (call : Call) (late : Bool) (action : Text) (own : Text → Valid → Outcome) → IsAbout S moment call call.command late action own →
    behind_three S moment call ≡ asked_about S moment call late action own
unfolding admitted
three_first S moment call late action own about =
    same_own (admitted everything S S.rules S.rows moment call (requirements call.command).action (requirements call.command).subject (requirements call.command).late) _ _ about.own_is
    ∙ ap (λ asked. admitted everything S S.rules S.rows moment call asked (requirements call.command).subject (requirements call.command).late >>= (λ who. on_subject call.subject who.subject own)) about.action_is
    ∙ ap (λ asked. admitted everything S S.rules S.rows moment call (Some action) asked (requirements call.command).late >>= (λ who. on_subject call.subject who.subject own)) about.subject
    ∙ ap (λ asked. admitted everything S S.rules S.rows moment call (Some action) true asked >>= (λ who. on_subject call.subject who.subject own)) about.late_is
    ∙ caller_next (caller_of everything S moment call.caller) (subject_of everything S moment late call.subject) (λ caller subject. allows S.rules S.rows caller subject call.command action) call.subject own

-- where it goes on

-- both tokens are valid, and the rule allows it
pub record HasBoth (S : State) (moment : ℕ) (call : Call) (late : Bool) (action : Text) (own : Text → Valid → Outcome) (outcome : Outcome) : Type 0 where
  pub caller_text : Text
  pub caller : Valid
  pub has_caller : call.caller ≡ Some caller_text
  pub caller_is : IsValid S moment false caller_text caller
  pub text : Text
  pub subject : Valid
  pub has_subject : call.subject ≡ Some text
  pub subject_is : IsValid S moment late text subject
  pub rule : Allows S caller subject call.command action
  pub is : own text subject ≡ outcome

both_about : (S : State) (moment : ℕ) (call : Call) (late : Bool) (action : Text) (own : Text → Valid → Outcome) (outcome : Outcome) →
    asked_about S moment call late action own ≡ Go outcome → HasBoth S moment call late action own outcome
unfolding caller_of subject_of
both_about S moment call late action own outcome goes =
    let c = token_behind S moment false call.caller cause.NoToken (λ why. cause.CallerToken why) _ outcome goes in
    let s = token_behind S moment late call.subject (missing (codes "X-Subject-Token")) (λ why. cause.SubjectToken why) _ outcome c.2 in
    let rule = rule_behind (allowed S.rules action (credentials S.rows c.0) (target_of S.rows (Some s.0) call.command)) (cause.Rule action) _ outcome s.2 in
    let text = given_behind call.subject (missing (codes "X-Subject-Token")) (λ text. own text s.0) outcome rule.1 in
    let same : s.1.text ≡ text.0 = (let first = s.1.has in let second = text.1 in cc) in
    record {
      caller_text = c.1.text;
      caller = c.0;
      has_caller = c.1.has;
      caller_is = c.1.is;
      text = text.0;
      subject = s.0;
      has_subject = text.1;
      subject_is = subst (λ (t : Text). IsValid S moment late t s.0) same s.1.is;
      rule = rule.0;
      is = text.2;
    }

past_three : (e : Option Cause) (a b : Bool) (x y : Cause) (own : Attempt Cause Outcome) (outcome : Outcome) → unless e >>= (λ _. need a x >>= (λ _. need b y >>= (λ _. own))) ≡ Go outcome → own ≡ Go outcome
past_three None true true x y own outcome goes = goes
past_three None true false x y own outcome goes = cc
past_three None false b x y own outcome goes = cc
past_three (Some e) a b x y own outcome goes = cc

past_room : (a : Attempt Cause (Unit {0})) (o outcome : Outcome) → a >>= (λ _. Go o) ≡ Go outcome → o ≡ outcome
past_room (Go done) o outcome goes = cc
past_room (Stop e) o outcome goes = cc
past_room (Lacks l) o outcome goes = cc

with_room : (room : Option Change → Attempt Cause (Unit {0})) (a : Attempt Cause Outcome) (outcome : Outcome) → a >>= (λ o. room o.change >>= (λ _. Go o)) ≡ Go outcome → a ≡ Go outcome
with_room room (Go o) outcome goes = ap Go (past_room (room o.change) o outcome goes)
with_room room (Stop e) outcome goes = cc
with_room room (Lacks l) outcome goes = cc

pub checked_about : (S : State) (moment : ℕ) (call : Call) (late : Bool) (action : Text) (own : Text → Valid → Outcome) (outcome : Outcome) → IsAbout S moment call call.command late action own
    → checked everything S moment call ≡ Go outcome → HasBoth S moment call late action own outcome
unfolding checked planned planned_by
checked_about S moment call late action own outcome about goes =
    let asked = requirements call.command in
    both_about S moment call late action own outcome (sym (three_first S moment call late action own about)
    ∙ past_three (lacking_of asked call.subject) (not asked.draws || has_drawn call.draw) (not (asked.loads && is_failed call.folder)) cause.Random cause.KeyDir
    (behind_three S moment call) outcome (with_room (room_for S moment (event_limit call.command)) (planned everything S moment call) outcome goes))

pub ok_reply : (a : Attempt Cause Outcome) (told : BodyOut) → reply_of (stepped a) ≡ reply.Ok told → (outcome : Outcome) × (a ≡ Go outcome) × (outcome.told ≡ told)
ok_reply (Go outcome) told is = (outcome, refl, cc)
ok_reply (Stop why) told is = cc
ok_reply (Lacks lack) told is = cc

-- and back

about_goes : (S : State) (moment : ℕ) (call : Call) (late : Bool) (action caller_text subject_text : Text) (caller subject : Valid)
    → call.caller ≡ Some caller_text → call.subject ≡ Some subject_text → validity everything S moment false caller_text ≡ Go caller → validity everything S moment late subject_text ≡ Go subject
    → Allows S caller subject call.command action → asked_about S moment call late action (told_subject S.rows) ≡ Go (told_subject S.rows subject_text subject)
unfolding caller_of subject_of
about_goes S moment call late action caller_text subject_text caller subject has_caller has_subject caller_goes subject_goes rule =
    rw (has_caller, has_subject, caller_goes, subject_goes, rule) refl

pass_three : (e : Option Cause) (a b : Bool) (x y : Cause) (own said : Attempt Cause Outcome) → e ≡ None → a ≡ true → b ≡ true → own ≡ said →
    unless e >>= (λ _. need a x >>= (λ _. need b y >>= (λ _. own))) ≡ said
pass_three e a b x y own said none first second is = rw (none, first, second) is

lacks_nothing : (S : State) (moment : ℕ) (call : Call) (late : Bool) (action text : Text) (own : Text → Valid → Outcome) → IsAbout S moment call call.command late action own → call.subject ≡ Some text →
    lacking_of (requirements call.command) call.subject ≡ None
unfolding lacking_of
lacks_nothing S moment call late action text own about has = rw (about.subject, about.lacks, has) refl

-- the checks say what those behind the first three do, and then comes room
pub checked_is : (S : State) (moment : ℕ) (call : Call) (late : Bool) (action text : Text) (own : Text → Valid → Outcome) (said : Attempt Cause Outcome) →
    IsAbout S moment call call.command late action own → call.subject ≡ Some text → asked_about S moment call late action own ≡ said →
    checked everything S moment call ≡ said >>= (λ outcome. room_for S moment (event_limit call.command) outcome.change >>= (λ _. Go outcome))
unfolding checked planned planned_by
checked_is S moment call late action text own said about has is =
    let asked = requirements call.command in
    ap (λ (a : Attempt Cause Outcome). a >>= (λ outcome. room_for S moment (event_limit call.command) outcome.change >>= (λ _. Go outcome)))
    (pass_three (lacking_of asked call.subject) (not asked.draws || has_drawn call.draw) (not (asked.loads && is_failed call.folder)) cause.Random cause.KeyDir (behind_three S moment call) said
    (lacks_nothing S moment call late action text own about has) (ap (λ draws. not draws || has_drawn call.draw) about.draws)
    (ap (λ loads. not (loads && is_failed call.folder)) about.loads) (three_first S moment call late action own about ∙ is))

checked_goes : (S : State) (moment : ℕ) (call : Call) (late : Bool) (action text : Text) (subject : Valid) → IsAbout S moment call call.command late action (told_subject S.rows) →
    call.subject ≡ Some text → asked_about S moment call late action (told_subject S.rows) ≡ Go (told_subject S.rows text subject) →
    checked everything S moment call ≡ Go (told_subject S.rows text subject)
unfolding room_for
checked_goes S moment call late action text subject about has goes =
    checked_is S moment call late action text (told_subject S.rows) (Go (told_subject S.rows text subject)) about has goes

pub tokens_validate_exactly : TokensValidateExactly
unfolding answer step_at replay
tokens_validate_exactly f call late action told asks = (forth, back)
  where
    moment : ℕ
    moment = moment_of f.high call.reading

    S : State
    S = raised (replay f) moment

    about : IsAbout S moment call call.command late action (told_subject S.rows)
    about = is_about S moment call call.command late action asks

    forth : answer f call ≡ reply.Ok told → MayTell S moment call late action told
    forth is =
        let ok = ok_reply (checked everything S moment call) told is in
        let both = checked_about S moment call late action (told_subject S.rows) ok.0 about ok.1 in
        subst (MayTell S moment call late action) (ap (λ (o : Outcome). o.told) both.is ∙ ok.2) (record {
          caller_text = both.caller_text;
          caller = both.caller;
          has_caller = both.has_caller;
          caller_is = both.caller_is;
          subject_text = both.text;
          subject = both.subject;
          has_subject = both.has_subject;
          subject_is = both.subject_is;
          rule = both.rule;
          told_is = refl;
        })

    back : MayTell S moment call late action told → answer f call ≡ reply.Ok told
    back may =
        let goes = about_goes S moment call late action may.caller_text may.subject_text may.caller may.subject may.has_caller may.has_subject
        (valid_goes S moment false may.caller_text may.caller may.caller_is) (valid_goes S moment late may.subject_text may.subject may.subject_is) may.rule in
        ap (λ (a : Attempt Cause Outcome). reply_of (stepped a)) (checked_goes S moment call late action may.subject_text may.subject about may.has_subject goes) ∙ ap reply.Ok (sym may.told_is)
