-- When the machine tells of a token, that it never tells of one that was ended, and what it answers instead.
-- Source: Identity API v3, validate, check and revoke token; OS-REVOKE; oslo.policy.
use Rattle.std.specs.Prelude.{◌≡◌, ◌≢◌, ◌↔◌, ℕ, Bool, true, false, List, Some, codes}
use Rattle.ks_base.specs.Rows.{Text}
use Rattle.ks_machine.specs.declared.body_out.BodyOut.{BodyOut}
use Rattle.ks_machine.specs.declared.body_out.BodyOut.TheVariants as body
use Rattle.ks_machine.specs.declared.call.Call.{Call}
use Rattle.ks_machine.specs.declared.cause.Cause.TheVariants as cause
use Rattle.ks_machine.specs.declared.command.Command.{Command}
use Rattle.ks_machine.specs.declared.command.Command.TheVariants as command
use Rattle.ks_machine.specs.declared.reply.Reply.TheVariants as reply
use Rattle.ks_machine.specs.declared.why.Why.{Why}
use Rattle.ks_machine.specs.Actions.{identity}
use Rattle.ks_machine.specs.Allowed.{allowed}
use Rattle.ks_machine.specs.Fronts.{Front, ◌⊑◌, after, answer, replay}
use Rattle.ks_machine.specs.Lawful.{IsLawful}
use Rattle.ks_machine.specs.Login.{told_token}
use Rattle.ks_machine.specs.Moment.{moment_of}
use Rattle.ks_machine.specs.States.{State, raised}
use Rattle.ks_machine.specs.Targets.{credentials, target_of}
use Rattle.ks_machine.specs.Validity.{Valid}
use Rattle.ks_payload.specs.Readings.{payload_of}
use Rattle.ks_tokens.specs.ValidTokens.{IsOpened, IsValid}

-- | GET and HEAD of a token (Identity API v3, validate and check token), with the action of the policy that each of them is
pub data AsksAbout : Command → Bool → Text → Type 0 where
  gets : (late : Bool) → AsksAbout (command.Validate late) late (identity (codes "validate_token"))
  heads : (late : Bool) → AsksAbout (command.Check late) late (identity (codes "check_token"))

-- | the caller's text and the subject's are valid tokens, and the policy allows the one to ask about the other: this is told
pub record MayTell (S : State) (moment : ℕ) (call : Call) (late : Bool) (action : Text) (told : BodyOut) : Type 0 where
  pub caller_text : Text
  pub caller : Valid
  pub has_caller : call.caller ≡ Some caller_text
  pub caller_is : IsValid S moment false caller_text caller
  pub subject_text : Text
  pub subject : Valid
  pub has_subject : call.subject ≡ Some subject_text
  pub subject_is : IsValid S moment late subject_text subject
  pub rule : allowed S.rules action (credentials S.rows caller) (target_of S.rows (Some subject) call.command) ≡ true
  pub told_is : told ≡ body.Token (told_token S.rows subject_text false subject.payload subject.issued subject.roles)

-- law: after any front the reply is Ok exactly where both are, in the state of the front at the moment of the call
abbrev pub TokensValidateExactly : Type 0
TokensValidateExactly =
    (f : Front) (call : Call) (late : Bool) (action : Text) (told : BodyOut) → AsksAbout call.command late action
    → (answer f call ≡ reply.Ok told) ↔ MayTell (raised (replay f) (moment_of f.high call.reading)) (moment_of f.high call.reading) call late action told

-- ending

-- | a call ended this token: it was asked to revoke the token of its subject, and did
pub record HasEnded (f : Front) (call : Call) (token : Valid) : Type 0 where
  pub revokes : call.command ≡ command.RevokeToken
  pub text : Text
  pub subject : call.subject ≡ Some text
  pub was : IsValid (raised (replay f) (moment_of f.high call.reading)) (moment_of f.high call.reading) false text token
  pub done : answer f call ≡ reply.Ok body.Nothing

-- law: after each front that goes on from the one behind that call, no text is that token: not for whoever asks, and also not where an
-- expired one is allowed
abbrev pub EndedTokensStayRefused : Type 0
EndedTokensStayRefused =
    (f g : Front) (call : Call) (token : Valid) → HasEnded f call token → IsLawful g → after f call ⊑ g
    → (moment : ℕ) (late : Bool) (text : Text) (later : Valid) → IsValid (raised (replay g) moment) moment late text later
    → later.payload ≡ token.payload → later.issued ≡ token.issued → ⊥

-- | a call asks about this token: a held key opens its subject's text to the same payload and the same time
pub record AsksFor (f : Front) (call : Call) (token : Valid) : Type 0 where
  pub late : Bool
  pub action : Text
  pub about : AsksAbout call.command late action
  pub text : Text
  pub subject : call.subject ≡ Some text
  pub plain : List ℕ
  pub opened : IsOpened (replay f).ring.held text token.issued plain
  pub payload : payload_of plain ≡ Some token.payload

-- | the caller's own token is valid
pub record HasValidCaller (f : Front) (call : Call) : Type 0 where
  pub text : Text
  pub caller : Valid
  pub given : call.caller ≡ Some text
  pub is : IsValid (raised (replay f) (moment_of f.high call.reading)) (moment_of f.high call.reading) false text caller

-- law: after each such front a call that asks about that token is not answered Ok; where its caller's token is valid, it is refused for its
-- subject's (404)
abbrev pub EndedTokensAreNotFound : Type 0
EndedTokensAreNotFound =
    (f g : Front) (call asks : Call) (token : Valid) → HasEnded f call token → IsLawful g → after f call ⊑ g → AsksFor g asks token
    → ((told : BodyOut) → answer g asks ≢ reply.Ok told) × (HasValidCaller g asks → (why : Why) × (answer g asks ≡ reply.Refused (cause.SubjectToken why)))
