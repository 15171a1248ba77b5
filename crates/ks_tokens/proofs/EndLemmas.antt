-- A token that a call ended stays refused.
use Rattle.std.proofs.Common.{◌≡◌, ℕ, ◌≤◌, Bool, true, false, [], ◌∷◌, ◌++◌, Some, refl, sym, ap, subst, ◌∙◌, inl}
use Rattle.std.specs.Prelude.{codes, nat_le}
use Rattle.std.specs.Str.{bytes_eq}
use Rattle.std.proofs.lemmas.Bool.{and_from, le-leb}
use Rattle.std.proofs.lemmas.Slice.Eq.{bytes_eq-Decides}
use Rattle.ks_base.specs.declared.events.EventRow.{EventRow}
use Rattle.ks_base.specs.declared.events.Revoke.TheVariants as revoke
use Rattle.ks_base.specs.Revocation.{is_revoked, matches}
use Rattle.ks_base.specs.Rows.{Text}
use Rattle.ks_base.proofs.AmongLemmas.{among_right, any_to}
use Rattle.ks_machine.specs.declared.body_out.BodyOut.TheVariants as body
use Rattle.ks_machine.specs.declared.call.Call.{Call}
use Rattle.ks_machine.specs.declared.cause.Cause.{Cause}
use Rattle.ks_machine.specs.declared.change.Change.TheVariants as change
use Rattle.ks_machine.specs.declared.command.Command.{Command}
use Rattle.ks_machine.specs.declared.command.Command.TheVariants as command
use Rattle.ks_machine.specs.Actions.{identity, requirements}
use Rattle.ks_machine.specs.Attempts.{Attempt, Go, everything}
use Rattle.ks_machine.specs.Changes.{apply, effect}
use Rattle.ks_machine.specs.Fronts.{Front, ◌⊑◌, after, answer, change_of, replay, then}
use Rattle.ks_machine.specs.Moment.{moment_of}
use Rattle.ks_machine.specs.Outcomes.{Outcome}
use Rattle.ks_machine.specs.States.{State, raised}
use Rattle.ks_machine.specs.Steps.{checked, own_checks, revoked_subject, step_at, stepped}
use Rattle.ks_machine.specs.Validity.{Valid, held_lines, holder, validity}
use Rattle.ks_machine.proofs.FrontLemmas.{changes_are_replayed}
use Rattle.ks_machine.proofs.RefusedLemmas.{refused_ever_after}
use Rattle.ks_payload.specs.declared.payload.Payload.{Payload}
use Rattle.ks_tokens.specs.Laws.{EndedTokensStayRefused, HasEnded}
use Rattle.ks_tokens.proofs.TellLemmas.{IsAbout, checked_about, ok_reply}
use Rattle.ks_tokens.proofs.ValidLemmas.{valid_goes}

-- the change of a call that ended a token

about_revoking : (S : State) (moment : ℕ) (call : Call) (what : Command) → what ≡ command.RevokeToken → IsAbout S moment call what false (identity (codes "revoke_token")) revoked_subject
unfolding own_checks requirements
about_revoking S moment call what is = subst (λ (c : Command). IsAbout S moment call c false (identity (codes "revoke_token")) revoked_subject) (sym is) of
  where
    of : IsAbout S moment call command.RevokeToken false (identity (codes "revoke_token")) revoked_subject
    of = record { own_is = λ who. refl; action_is = refl; subject = refl; late_is = refl; draws = refl; loads = refl; lacks = refl }

one_token : (S : State) (moment : ℕ) (text other : Text) (a b : Valid) → Some text ≡ Some other → validity everything S moment false text ≡ Go a → validity everything S moment false other ≡ Go b → a ≡ b
one_token S moment text other a b same first second =
    let texts : text ≡ other = cc in
    let also : validity everything S moment false text ≡ Go b = ap (validity everything S moment false) texts ∙ second in
    cc

ended_by_call : (f : Front) (call : Call) (token : Valid) → HasEnded f call token → after f call ≡ then f (moment_of f.high call.reading) (Some (change.RevokeToken token.payload.audit))
unfolding after answer step_at replay
ended_by_call f call token ended =
    let moment = moment_of f.high call.reading in
    let S = raised (replay f) moment in
    let ok = ok_reply (checked everything S moment call) body.Nothing ended.done in
    let both = checked_about S moment call false (identity (codes "revoke_token")) revoked_subject ok.0 (about_revoking S moment call call.command ended.revokes) ok.1 in
    let one : both.subject ≡ token = one_token S moment both.text ended.text both.subject token (sym both.has_subject ∙ ended.subject)
    (valid_goes S moment false both.text both.subject both.subject_is) (valid_goes S moment false ended.text token ended.was) in
    ap (λ (a : Attempt Cause Outcome). then f moment (change_of (stepped a))) ok.1
    ∙ ap (λ (o : Outcome). then f moment o.change) (sym both.is)
    ∙ ap (λ (t : Valid). then f moment (Some (change.RevokeToken t.payload.audit))) one

-- it revokes the token

revoked_by : (S : State) (moment issued : ℕ) (payload : Payload) → issued ≤ moment
    → is_revoked (apply S moment (change.RevokeToken payload.audit)).events (holder (apply S moment (change.RevokeToken payload.audit)).rows payload) issued ≡ true
unfolding apply effect holder
revoked_by S moment issued payload past =
    let event : EventRow = record { what = revoke.Audit payload.audit; moment = moment } in
    let rows = (apply S moment (change.RevokeToken payload.audit)).rows in
    any_to (λ (e : EventRow). matches e (holder rows payload) issued) (S.events ++ event ∷ []) event (among_right S.events (event ∷ []) event (inl refl))
    (and_from (nat_le issued moment) (bytes_eq payload.audit payload.audit) (le-leb issued moment past) ((bytes_eq-Decides payload.audit payload.audit).1 refl))

revoked_after : (f : Front) (moment issued : ℕ) (payload : Payload) → issued ≤ moment →
    let g = then f moment (Some (change.RevokeToken payload.audit)) in is_revoked (replay g).events (holder (replay g).rows payload) issued ≡ true
revoked_after f moment issued payload past =
    subst (λ (S : State). is_revoked S.events (holder S.rows payload) issued ≡ true) (sym (changes_are_replayed f moment (change.RevokeToken payload.audit)))
    (revoked_by (record (replay f) { high = moment }) moment issued payload past)

-- its moment is in no way seen by what holds of a token
at_any_high : (S : State) (high moment : ℕ) (late : Bool) (text : Text) (token : Valid) → validity everything (raised S high) moment late text ≡ Go token → validity everything S moment late text ≡ Go token
unfolding validity held_lines
at_any_high S high moment late text token goes = goes

pub ended_tokens_stay_refused : EndedTokensStayRefused
ended_tokens_stay_refused f g call token ended lawful on moment late text later is payload issued =
    let at = moment_of f.high call.reading in
    let left = then f at (Some (change.RevokeToken token.payload.audit)) in
    let goes = at_any_high (replay g) moment moment late text later (valid_goes (raised (replay g) moment) moment late text later is) in
    refused_ever_after left g token.payload token.issued lawful (subst (λ (h : Front). h ⊑ g) (ended_by_call f call token ended) on) ended.was.past
    (revoked_after f at token.issued token.payload ended.was.past) everything moment late text later goes payload issued
