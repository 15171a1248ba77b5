-- What holds of fronts, whatever happens: they are ordered, and the plain machine goes on from each. And that lists of roles are
-- decided as the relations say.
use Rattle.std.specs.Prelude.{◌≡◌, ◌↔◌, ℕ, ◌≤◌, ◌⊎◌, List, length, drop, Option, Some}
use Rattle.std.specs.List.{AllByRecursion}
use Rattle.ks_base.specs.declared.grants.Target.{Target}
use Rattle.ks_base.specs.Roles.{Effective, IsImplied}
use Rattle.ks_base.specs.Rows.{Id, Rows}
use Rattle.ks_base.specs.Tables.{Among, IsAscending, id_cmp}
use Rattle.ks_machine.specs.declared.call.Call.{Call}
use Rattle.ks_machine.specs.declared.change.Change.{Change}
use Rattle.ks_machine.specs.Changes.{apply}
use Rattle.ks_machine.specs.Effective.{closure, roles_at}
use Rattle.ks_machine.specs.Fronts.{Front, IsSound, ◌⊑◌, after, answer, cut, replay, then}
use Rattle.ks_machine.specs.Moment.{moment_of}

-- law: `⊑` is an order
abbrev pub IsReflexive : Type 0
IsReflexive = (f : Front) → f ⊑ f

abbrev pub IsTransitive : Type 0
IsTransitive = (f g h : Front) → f ⊑ g → g ⊑ h → f ⊑ h

-- law: a caller that saw a front and then calls sees one that goes on from it
abbrev pub GoesOn : Type 0
GoesOn = (f : Front) (call : Call) → f ⊑ after f call

-- law: two fronts from which one goes on are ordered where their numbers are
abbrev pub AreOrderedByNumbers : Type 0
AreOrderedByNumbers =
    (f g h : Front) → f ⊑ h → g ⊑ h → length f.changes ≤ length g.changes → f.high ≤ g.high → f.kept ≤ g.kept → f ⊑ g

-- law: two sound fronts from which one goes on, and which keep as many changes, are ordered
abbrev pub AreComparable : Type 0
AreComparable = (f g h : Front) → f ⊑ h → g ⊑ h → IsSound f → IsSound g → f.kept ≡ g.kept → (f ⊑ g) ⊎ (g ⊑ f)

-- law: a front that goes on from another with no greater number is that other
abbrev pub AreSame : Type 0
AreSame = (f g : Front) → f ⊑ g → length f.changes ≡ length g.changes → f.high ≡ g.high → f.kept ≡ g.kept → f ≡ g

-- law: the front after an event goes on from the one before, is as sound, and cut at the event is the one before at the event's moment
abbrev pub EventsGoOn : Type 0
EventsGoOn = (f : Front) (moment : ℕ) (change : Option Change) → f.high ≤ moment → f ⊑ then f moment change

abbrev pub EventsKeepSound : Type 0
EventsKeepSound = (f : Front) (moment : ℕ) (change : Option Change) → f.high ≤ moment → IsSound f → IsSound (then f moment change)

abbrev pub EventsAreCutOff : Type 0
EventsAreCutOff =
    (f : Front) (moment : ℕ) (change : Option Change) → IsSound f
    → cut (then f moment change) (length f.changes) moment ≡ record f { high = moment }

-- law: what a front goes on from, its cut goes on from that is no lower
abbrev pub CutsGoOn : Type 0
CutsGoOn =
    (f g : Front) (count high : ℕ) → f ⊑ g → IsSound f → length f.changes ≤ count → f.high ≤ high → f ⊑ cut g count high

-- law: a front goes on from its cut at a moment that no change behind it is below
abbrev pub CutsComeBefore : Type 0
CutsComeBefore =
    (g : Front) (count high : ℕ) → high ≤ g.high → AllByRecursion (λ entry. high ≤ entry.moment) (drop count g.changes)
    → cut g count high ⊑ g

-- law: the machine's reply to a call is that after the front cut at the call's event
abbrev pub AnswersAtCuts : Type 0
AnswersAtCuts =
    (f : Front) (call : Call) → IsSound f
    → answer (cut (after f call) (length f.changes) (moment_of f.high call.reading)) call ≡ answer f call

-- law: one change more in the journal is one change more of the state
abbrev pub ReplaysEachChange : Type 0
ReplaysEachChange =
    (f : Front) (moment : ℕ) (change : Change)
    → replay (then f moment (Some change)) ≡ apply (record (replay f) { high = moment }) moment change

-- law: a list of ids in their order whose members are the effective roles is the list of them
abbrev pub RolesAreEffective : Type 0
RolesAreEffective =
    (rows : Rows) (user : Id) (wanted : Target) (ids : List Id)
    → IsAscending id_cmp (λ id. id) ids
    → ((role : Id) → Among ids role ↔ Effective rows user wanted role)
    → ids ≡ roles_at rows user wanted

-- law: and one whose members are the end points of walks from some roles is their closure
abbrev pub RolesAreImplied : Type 0
RolesAreImplied =
    (rows : Rows) (roles ids : List Id)
    → IsAscending id_cmp (λ id. id) ids
    → ((role : Id) → Among ids role ↔ IsImplied rows.implications roles role)
    → ids ≡ closure rows roles
