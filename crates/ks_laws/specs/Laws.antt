-- What holds of all orderly states and of all lawful fronts: they go on, what their steps lack can be found out, their replies can be told,
-- and the walks of a lawful front's state are the whole climbs.
use Rattle.std.specs.Prelude.{◌≡◌, ℕ, ◌<◌, ◌≤◌, ◌^◌, List, length, Option, Some, None}
use Rattle.ks_base.specs.declared.rows.ProjectRow.{ProjectRow}
use Rattle.ks_base.specs.declared.trusts.TrustRow.{TrustRow}
use Rattle.ks_base.specs.Rows.{Id, project_of, trust_of}
use Rattle.ks_base.specs.Tree.{above}
use Rattle.ks_base.specs.Tables.{Among}
use Rattle.ks_base.specs.Trusts.{LeadsTo, first_trustor, parent_trust}
use Rattle.ks_laws.specs.Ancestries.{IsAncestry}
use Rattle.ks_laws.specs.Lacking.{AreSalted, IsLack, IsUnknown}
use Rattle.ks_laws.specs.Orderly.{IsOrderly}
use Rattle.ks_machine.specs.declared.call.Call.{Call}
use Rattle.ks_machine.specs.declared.change.Change.{Change}
use Rattle.ks_machine.specs.declared.reply.Reply.{Reply}
use Rattle.ks_machine.specs.Attempts.{Go, Known, Lack, Stored, everything}
use Rattle.ks_machine.specs.Changes.{apply}
use Rattle.ks_machine.specs.Fit.{Fit}
use Rattle.ks_machine.specs.Fronts.{Front, IsSound, ◌⊑◌, after, answer, change_of, replay, then, first_front}
use Rattle.ks_machine.specs.Lawful.{Fits, IsLawful, IsOpeningInRange}
use Rattle.ks_machine.specs.Moment.{last_moment}
use Rattle.ks_machine.specs.Opened.{open_fault, opened_state}
use Rattle.ks_machine.specs.Openings.{PlainOpening}
use Rattle.ks_machine.specs.Room.{event_limit, room_for}
use Rattle.ks_machine.specs.States.{State, raised}
use Rattle.ks_machine.specs.Steps.{Needs, Replies, step, step_at}
use Rattle.ks_machine.specs.Told.{IsTellable}

-- states

-- | a change, if there is one, fits
abbrev pub FitsIf : State → ℕ → Option Change → Type 0
FitsIf S moment None = Unit {0}
FitsIf S moment (Some what) = Fits S moment what

-- law: with whatever facts, a step of an orderly state tells what can be told, and makes a change that fits and has room
abbrev pub StepsFit : Type 0
StepsFit =
    (known : Known) (S : State) (moment : ℕ) (call : Call) (told : Reply) (change : Option Change)
    → IsOrderly S → S.high ≤ moment → moment ≤ last_moment → S.made < 2 ^ 58 → Fit call
    → step_at known S moment call ≡ Replies told change
    → IsTellable told × FitsIf S moment change × (room_for S moment (event_limit call.command) change ≡ Go tt)

-- law: a change that fits leaves the state orderly, and so does the time
abbrev pub ChangesKeepOrderly : Type 0
ChangesKeepOrderly =
    (S : State) (moment : ℕ) (change : Change) → IsOrderly S → moment ≤ S.high → Fits S moment change → IsOrderly (apply S moment change)

abbrev pub TimeKeepsOrderly : Type 0
TimeKeepsOrderly = (S : State) (moment : ℕ) → IsOrderly S → S.high ≤ moment → IsOrderly (raised S moment)

-- law: what an opening opens with is orderly
abbrev pub OpenedIsOrderly : Type 0
OpenedIsOrderly = (opening : PlainOpening) → IsOpeningInRange opening → open_fault opening ≡ None → IsOrderly (opened_state opening)

-- law: what a step of an orderly state lacks can be found out, with whatever facts it is taken
abbrev pub LacksAreInRange : Type 0
LacksAreInRange =
    (known : Known) (S : State) (moment : ℕ) (call : Call) (lack : Lack)
    → IsOrderly S → Fit call → step_at known S moment call ≡ Needs lack → IsLack S call lack

-- law: a kept salt that it asks for has 16 bytes, where each that is kept has
abbrev pub KeptSaltsAreWhole : Type 0
KeptSaltsAreWhole =
    (known : Known) (S : State) (moment : ℕ) (call : Call) (salt : List ℕ) (rounds : ℕ)
    → IsOrderly S → AreSalted S.rows → Fit call → step_at known S moment call ≡ Needs (Stored salt rounds) → length salt ≡ 16

-- law: what any step lacks is a fact of a token, a password or a secret of its call, and is not known
abbrev pub LacksAreUnknown : Type 0
LacksAreUnknown =
    (known : Known) (S : State) (moment : ℕ) (call : Call) (lack : Lack) → step_at known S moment call ≡ Needs lack → IsUnknown known call lack

-- fronts

-- law: an accepted opening opens a lawful front
abbrev pub OpeningIsLawful : Type 0
OpeningIsLawful = (opening : PlainOpening) → IsOpeningInRange opening → open_fault opening ≡ None → IsLawful (first_front opening)

-- law: the front after a call is as lawful as the one before, as long as the journal has room
abbrev pub LawfulGoesOn : Type 0
LawfulGoesOn = (f : Front) (call : Call) → IsLawful f → Fit call → length f.changes < 2 ^ 58 → IsLawful (after f call)

-- law: so is the front at a later moment
abbrev pub MomentsKeepLawful : Type 0
MomentsKeepLawful = (f : Front) (moment : ℕ) → IsLawful f → f.high ≤ moment → moment ≤ last_moment → IsLawful (then f moment None)

-- law: and each sound front from which a lawful one goes on
abbrev pub EarlierIsLawful : Type 0
EarlierIsLawful = (f g : Front) → IsLawful g → f ⊑ g → IsSound f → IsLawful f

-- law: a lawful front is sound, and its state orderly
abbrev pub LawfulIsSound : Type 0
LawfulIsSound = (f : Front) → IsLawful f → f.kept ≤ length f.changes → IsSound f

abbrev pub LawfulIsOrderly : Type 0
LawfulIsOrderly = (f : Front) → IsLawful f → IsOrderly (replay f)

-- law: each change is counted
abbrev pub CountsChanges : Type 0
CountsChanges = (f : Front) → IsLawful f → (replay f).made ≡ length f.changes

-- law: no trust that counts its uses has a child, so that each use of what it gives is counted
abbrev pub CountedAreLast : Type 0
CountedAreLast =
    (f : Front) (trust parent : TrustRow) → IsLawful f → Among (replay f).rows.trusts trust
    → parent_trust (replay f).rows.trusts trust.parent ≡ Some parent → parent.remaining ≡ None

-- law: the replies of lawful fronts can be told
abbrev pub RepliesAreTellable : Type 0
RepliesAreTellable = (f : Front) (call : Call) → IsLawful f → Fit call → IsTellable (answer f call)

-- law: no answer stands for a fact that is lacking: it is what the step with all facts replies
abbrev pub AnswersAreReplies : Type 0
AnswersAreReplies =
    (f : Front) (call : Call) → step everything (replay f) call ≡ Replies (answer f call) (change_of (step everything (replay f) call))

-- law: what is computed as the projects above one is all of them, up to a top project
abbrev pub ProjectsAreClimbed : Type 0
ProjectsAreClimbed =
    (f : Front) (id : Id) (row : ProjectRow) → IsLawful f → project_of id (replay f).rows.projects ≡ Some row
    → IsAncestry (replay f).rows.projects row (above (replay f).rows.projects row)

-- law: and what is computed as the first trustor of a trust is the one to whom it leads
abbrev pub TrustsLead : Type 0
TrustsLead =
    (f : Front) (id : Id) (trust : TrustRow) → IsLawful f → trust_of id (replay f).rows.trusts ≡ Some trust
    → LeadsTo (replay f).rows.trusts trust (first_trustor (replay f).rows.trusts trust)
