-- What is decided, where an identity stands for fronts that keep all their changes.
use Rattle.std.proofs.Common.{ℕ, ◌≤◌, inl, inr, length, None, ap, subst, arith, length-append}
use Rattle.ks_auth.specs.Facts.{FactsState, told}
use Rattle.ks_base.specs.declared.limits.TheConstants.{KEYS}
use Rattle.ks_laws.specs.Laws.{LacksAreInRange, LacksAreUnknown, LawfulIsOrderly}
use Rattle.ks_machine.specs.declared.call.Call.{Call}
use Rattle.ks_machine.specs.declared.reply.Reply.{Reply}
use Rattle.ks_machine.specs.Fit.{Fit}
use Rattle.ks_machine.specs.Fronts.{Front, ◌⊑◌, after, replay, then}
use Rattle.ks_machine.specs.Moment.{moment_of}
use Rattle.ks_machine.specs.States.{State}
use Rattle.ks_machine.proofs.FrontLemmas.{calls_go_on}
use Rattle.ks_state.specs.declared.decision.Decision.{Decision}
use Rattle.ks_state.specs.declared.decision.Decision.TheVariants as decision
use Rattle.ks_state.specs.Decides.{DecidedBy, Replied, with_kept}
use Rattle.ks_state.specs.Deciding.{Decided}
use Rattle.ks_state.specs.Replies.{IsReply}
use Rattle.ks_state.specs.Shown.{Shown}
use Rattle.ks_state.specs.Standing.{Stands, StandsWithAllKept, changes_made}
use Rattle.ks_state.specs.StandingLaws.{made_so_far}

-- an identity does not look at how many changes are kept
pub apart : (shown : Shown) (f : Front) (count : ℕ) → Stands shown f → Stands shown (with_kept f count)
unfolding replay
apart shown f count stands = record {
  state = stands.state;
  newest = stands.newest;
  lawful = record {
    range = stands.lawful.range;
    accepted = stands.lawful.accepted;
    changes = stands.lawful.changes;
    high = stands.lawful.high;
    count = stands.lawful.count;
  };
}

pub keeps_all : (shown : Shown) (f : Front) → Stands shown f → StandsWithAllKept shown (with_kept f (changes_made shown))
keeps_all shown f stands = record { stands = apart shown f (changes_made shown) stands; kept = made_so_far shown f stands }

-- what is decided

replied : (f : Front) (call : Call) (said : Reply) (new : Shown) → IsReply f call said new → Replied StandsWithAllKept changes_made f call said new
replied f call said new (inl (is, stands)) = inl (is, keeps_all new (after f call) stands)
replied f call said new (inr (is, stands)) = inr (is, inl (keeps_all new (then f (moment_of f.high call.reading) None) stands))

pub decided_by : (facts : FactsState) (f : Front) (call : Call) (decided : Decision) (old new : Shown) → LawfulIsOrderly → LacksAreInRange → LacksAreUnknown →
    length old.state.ring.held ≤ KEYS → Fit call → Stands old f → Decided f call facts decided old new → DecidedBy StandsWithAllKept changes_made f call facts decided old new
decided_by facts f call (decision.Done said) old new orderly ranges unknown few fit stands is = replied f call said new is
decided_by facts f call (decision.Needs needs) old new orderly ranges unknown few fit stands (lack, names, lacks, same) =
    let moment = moment_of (replay f).high call.reading in (
      record {
        lack = lack;
        names = names;
        lacks = lacks;
        found = ranges (told facts) (replay f) moment call lack (orderly f stands.lawful) fit lacks;
        unknown = unknown (told facts) (replay f) moment call lack lacks;
        few = subst (λ (S : State). length S.ring.held ≤ KEYS) stands.state few;
      },
      same,
    )

longer : (f g : Front) → f ⊑ g → length f.changes ≤ length g.changes
longer f g on = omega (arith, ap length on.changes, length-append f.changes on.later)

pub makes_more : (facts : FactsState) (f : Front) (call : Call) (decided : Decision) (old new : Shown) → Stands old f →
    Decided f call facts decided old new → changes_made old ≤ changes_made new
makes_more facts f call (decision.Done said) old new stands (inl (is, after_it)) =
    omega (arith, made_so_far old f stands, made_so_far new (after f call) after_it, longer f (after f call) (calls_go_on f call))
makes_more facts f call (decision.Done said) old new stands (inr (is, same)) =
    omega (arith, made_so_far old f stands, made_so_far new (then f (moment_of f.high call.reading) None) same)
makes_more facts f call (decision.Needs needs) old new stands (lack, names, lacks, same) =
    omega (arith, ap changes_made same)
