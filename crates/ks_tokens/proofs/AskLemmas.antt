-- A call that asks about a token that was ended.
use Rattle.std.proofs.Common.{◌≡◌, ℕ, Bool, false, List, Some, refl, sym, ap, subst, ◌∙◌}
use Rattle.ks_base.specs.Rows.{Text}
use Rattle.ks_fernet.specs.declared.opening.OpenAnswer.TheVariants.{Yes}
use Rattle.ks_machine.specs.declared.body_out.BodyOut.{BodyOut}
use Rattle.ks_machine.specs.declared.call.Call.{Call}
use Rattle.ks_machine.specs.declared.cause.Cause.{Cause}
use Rattle.ks_machine.specs.declared.cause.Cause.TheVariants as cause
use Rattle.ks_machine.specs.declared.reply.Reply.TheVariants as reply
use Rattle.ks_machine.specs.declared.why.Why.{Why}
use Rattle.ks_machine.specs.Admission.{caller_of, subject_of}
use Rattle.ks_machine.specs.Attempts.{Attempt, Go, Lack, Lacks, Stop, everything}
use Rattle.ks_machine.specs.Fronts.{Front, ◌⊑◌, after, answer, replay, reply_of}
use Rattle.ks_machine.specs.Lawful.{IsLawful}
use Rattle.ks_machine.specs.Moment.{moment_of}
use Rattle.ks_machine.specs.Outcomes.{Outcome}
use Rattle.ks_machine.specs.States.{State, raised}
use Rattle.ks_machine.specs.Steps.{step_at, stepped, told_subject}
use Rattle.ks_machine.specs.Validity.{Valid, opened, validity}
use Rattle.ks_machine.proofs.AllFacts.{all_facts}
use Rattle.ks_payload.specs.Readings.{payload_of}
use Rattle.ks_ring.specs.declared.held_key.HeldKey.{HeldKey}
use Rattle.ks_tokens.specs.Laws.{AsksFor, EndedTokensAreNotFound, HasEnded, HasValidCaller}
use Rattle.ks_tokens.specs.ValidTokens.{IsOpened, IsValid}
use Rattle.ks_tokens.proofs.EndLemmas.{ended_tokens_stay_refused}
use Rattle.ks_tokens.proofs.TellLemmas.{IsAbout, asked_about, checked_is, is_about, tokens_validate_exactly}
use Rattle.ks_tokens.proofs.ValidLemmas.{opened_by_one, valid_goes, valid_is}

-- keys open a text once

one_answer : (text : Text) (keys : List HeldKey) (issued time : ℕ) (plain bytes : List ℕ) → opened everything text keys ≡ Yes issued plain → opened everything text keys ≡ Yes time bytes
    → (issued ≡ time) × (plain ≡ bytes)
one_answer text keys issued time plain bytes first second = let same : Yes issued plain ≡ Yes time bytes = sym first ∙ second in (cc, cc)

opened_once : (keys : List HeldKey) (text : Text) (issued time : ℕ) (plain bytes : List ℕ) → IsOpened keys text issued plain → IsOpened keys text time bytes → (issued ≡ time) × (plain ≡ bytes)
opened_once keys text issued time plain bytes a b =
    one_answer text keys issued time plain bytes (opened_by_one keys text issued plain a) (opened_by_one keys text time bytes b)

-- what is valid of that text is that token
same_token : (S : State) (moment : ℕ) (late : Bool) (text given : Text) (token later : Valid) (plain : List ℕ) → Some text ≡ Some given → IsOpened S.ring.held text token.issued plain
    → payload_of plain ≡ Some token.payload → IsValid S moment late given later → (later.payload ≡ token.payload) × (later.issued ≡ token.issued)
same_token S moment late text given token later plain same opened payload is =
    let texts : text ≡ given = cc in
    let once = opened_once S.ring.held given token.issued later.issued plain is.plain (subst (λ (t : Text). IsOpened S.ring.held t token.issued plain) texts opened) is.opened in
    let says : Some later.payload ≡ Some token.payload = sym is.payload ∙ (ap payload_of (sym once.1) ∙ payload) in
    (cc, sym once.0)

never_valid : (f g : Front) (call asks : Call) (token : Valid) → HasEnded f call token → IsLawful g → after f call ⊑ g → (asked : AsksFor g asks token)
    → (moment : ℕ) (given : Text) (later : Valid) → asks.subject ≡ Some given → IsValid (raised (replay g) moment) moment asked.late given later → ⊥
never_valid f g call asks token ended lawful on asked moment given later has is =
    let same = same_token (raised (replay g) moment) moment asked.late asked.text given token later asked.plain (sym asked.subject ∙ has) asked.opened asked.payload is in
    ended_tokens_stay_refused f g call token ended lawful on moment asked.late given later is same.0 same.1

-- where the caller's token is valid and the subject's is not

about_stops : (S : State) (moment : ℕ) (call : Call) (late : Bool) (action caller_text subject_text : Text) (caller : Valid) (why : Why)
    → call.caller ≡ Some caller_text → call.subject ≡ Some subject_text → validity everything S moment false caller_text ≡ Go caller → validity everything S moment late subject_text ≡ Stop why
    → asked_about S moment call late action (told_subject S.rows) ≡ Stop (cause.SubjectToken why)
unfolding caller_of subject_of
about_stops S moment call late action caller_text subject_text caller why has_caller has_subject caller_goes subject_stops =
    rw (has_caller, has_subject, caller_goes, subject_stops) refl

about_lacks : (S : State) (moment : ℕ) (call : Call) (late : Bool) (action caller_text subject_text : Text) (caller : Valid) (lack : Lack)
    → call.caller ≡ Some caller_text → call.subject ≡ Some subject_text → validity everything S moment false caller_text ≡ Go caller → validity everything S moment late subject_text ≡ Lacks lack
    → asked_about S moment call late action (told_subject S.rows) ≡ Lacks lack
unfolding caller_of subject_of
about_lacks S moment call late action caller_text subject_text caller lack has_caller has_subject caller_goes subject_lacks =
    rw (has_caller, has_subject, caller_goes, subject_lacks) refl

pub ended_tokens_are_not_found : EndedTokensAreNotFound
unfolding answer step_at replay
ended_tokens_are_not_found f g call asks token ended lawful on asked = (never, λ caller. by caller (validity everything S moment asked.late asked.text) refl)
  where
    moment : ℕ
    moment = moment_of g.high asks.reading

    S : State
    S = raised (replay g) moment

    about : IsAbout S moment asks asks.command asked.late asked.action (told_subject S.rows)
    about = is_about S moment asks asks.command asked.late asked.action asked.about

    never : (told : BodyOut) → answer g asks ≡ reply.Ok told → ⊥
    never told is =
        let may = (tokens_validate_exactly g asks asked.late asked.action told asked.about).0 is in
        never_valid f g call asks token ended lawful on asked moment may.subject_text may.subject may.has_subject may.subject_is

    by : HasValidCaller g asks → (found : Attempt Why Valid) → validity everything S moment asked.late asked.text ≡ found → (why : Why) × (answer g asks ≡ reply.Refused (cause.SubjectToken why))
    by caller (Go later) is =
        absurd (never_valid f g call asks token ended lawful on asked moment asked.text later asked.subject (valid_is S moment asked.late asked.text later is))
    by caller (Stop why) is =
        let goes = valid_goes S moment false caller.text caller.caller caller.is in
        let stops = about_stops S moment asks asked.late asked.action caller.text asked.text caller.caller why caller.given asked.subject goes is in
        (why, ap (λ (a : Attempt Cause Outcome). reply_of (stepped a)) (checked_is S moment asks asked.late asked.action asked.text (told_subject S.rows) (Stop (cause.SubjectToken why)) about asked.subject stops))
    by caller (Lacks lack) is =
        let goes = valid_goes S moment false caller.text caller.caller caller.is in
        let lacks = about_lacks S moment asks asked.late asked.action caller.text asked.text caller.caller lack caller.given asked.subject goes is in
        absurd (all_facts (replay g) moment asks lack (ap stepped (checked_is S moment asks asked.late asked.action asked.text (told_subject S.rows) (Lacks lack) about asked.subject lacks)))
