-- The faults of an opening in their order, and the state of an opening that has none.
use Rattle.std.proofs.Common.{◌≡◌, [], ◌∷◌, ◌⊎◌, inl, inr, Option, Some, None, Result, Ok, Err, refl, sym, ap, subst, ◌∙◌}
use Rattle.std.specs.Result.{IsErrAnd}
use Rattle.ks_base.specs.Refusals.{first_of}
use Rattle.ks_machine.specs.declared.settings.OpenFault.{OpenFault}
use Rattle.ks_machine.specs.declared.settings.OpenFault.TheVariants as fault
use Rattle.ks_machine.specs.Opened.{absent_fault, project_below_disabled, first_alone, full_fault, ids_fault, names_fault, open_fault, opened_state, prohibited, rows_opened, project_too_deep}
use Rattle.ks_machine.specs.Openings.{PlainOpening}
use Rattle.ks_ring.specs.Rings.{RingState, new_of}
use Rattle.ks_opening.specs.declared.filled.Filled.{Filled}
use Rattle.ks_opening.specs.Opened.{TellsFault, state_of}
use Rattle.ks_opening.specs.steps.Filled.{IsFilled, keys_fault, rows_of, with_ring}
use Rattle.ks_opening.specs.steps.Listed.{listed_fault}

-- the faults in their order: of the rows, of their numbers, and of the keys

grouped : {F : Type 0} (a b c d e f g h : Option F) →
    first_of (a ∷ b ∷ c ∷ d ∷ e ∷ f ∷ g ∷ h ∷ []) ≡ first_of (first_of (a ∷ b ∷ first_of (c ∷ d ∷ e ∷ f ∷ []) ∷ []) ∷ g ∷ h ∷ [])
grouped (Some x) b c d e f g h = refl
grouped None (Some x) c d e f g h = refl
grouped None None (Some x) d e f g h = refl
grouped None None None (Some x) e f g h = refl
grouped None None None None (Some x) f g h = refl
grouped None None None None None (Some x) g h = refl
grouped None None None None None None g h = refl

fault_is : (opening : PlainOpening) →
    open_fault opening ≡ first_of (listed_fault opening ∷ full_fault (rows_opened opening) ∷ keys_fault opening.ring ∷ [])
unfolding open_fault
fault_is opening =
    grouped (ids_fault opening) (names_fault opening) (absent_fault (rows_opened opening) opening) (first_alone (project_too_deep (rows_opened opening)) opening.projects)
    (first_alone (project_below_disabled (rows_opened opening)) opening.projects) (first_alone (prohibited (rows_opened opening)) opening.implications)
    (full_fault (rows_opened opening)) (keys_fault opening.ring)

-- a check that is not passed
abbrev pub Refuses : Option OpenFault → OpenFault → Type 0
Refuses refusal why = (why ≡ fault.Memory) ⊎ (refusal ≡ Some why)

handed : {X : Type 0} (refusal : Option OpenFault) (r : Result X OpenFault) (why : OpenFault) → IsErrAnd r (λ e. e ≡ why) → Refuses refusal why → TellsFault refusal r
handed refusal (Ok x) why is tells = absurd is
handed refusal (Err e) why is (inl memory) = inl (is ∙ memory)
handed refusal (Err e) why is (inr fault) = inr (fault ∙ ap Some (sym is))

early_by : (rows full keys : Option OpenFault) (why : OpenFault) → Refuses rows why → Refuses (first_of (rows ∷ full ∷ keys ∷ [])) why
early_by rows full keys why (inl memory) = inl memory
early_by rows full keys why (inr is) = inr (rw is refl)

pub tells_early : {X : Type 0} (opening : PlainOpening) (r : Result X OpenFault) (why : OpenFault) → IsErrAnd r (λ e. e ≡ why) →
    Refuses (listed_fault opening) why → TellsFault (open_fault opening) r
tells_early opening r why is tells =
    subst (λ (o : Option OpenFault). TellsFault o r) (sym (fault_is opening))
    (handed (first_of (listed_fault opening ∷ full_fault (rows_opened opening) ∷ keys_fault opening.ring ∷ [])) r why is
    (early_by (listed_fault opening) (full_fault (rows_opened opening)) (keys_fault opening.ring) why tells))

full_by : (rows full keys : Option OpenFault) (why : OpenFault) → rows ≡ None → Some why ≡ full → Refuses (first_of (rows ∷ full ∷ keys ∷ [])) why
full_by rows full keys why fine is = inr (rw (fine, ← is) refl)

pub tells_full : {X : Type 0} (filled : Filled) (opening : PlainOpening) (r : Result X OpenFault) (why : OpenFault) → IsErrAnd r (λ e. e ≡ why) →
    IsFilled filled opening → listed_fault opening ≡ None → Some why ≡ full_fault (rows_of filled) → TellsFault (open_fault opening) r
tells_full filled opening r why is made fine full =
    subst (λ (o : Option OpenFault). TellsFault o r) (sym (fault_is opening))
    (handed (first_of (listed_fault opening ∷ full_fault (rows_opened opening) ∷ keys_fault opening.ring ∷ [])) r why is
    (full_by (listed_fault opening) (full_fault (rows_opened opening)) (keys_fault opening.ring) why fine (full ∙ ap full_fault made.rows)))

keys_by : (rows full keys : Option OpenFault) (why : OpenFault) → rows ≡ None → None ≡ full → Some why ≡ keys →
    Refuses (first_of (rows ∷ full ∷ keys ∷ [])) why
keys_by rows full keys why fine few is = inr (rw (fine, ← few, ← is) refl)

pub tells_keys : {X : Type 0} (filled : Filled) (opening : PlainOpening) (r : Result X OpenFault) (why : OpenFault) → IsErrAnd r (λ e. e ≡ why) →
    IsFilled filled opening → listed_fault opening ≡ None → None ≡ full_fault (rows_of filled) → Some why ≡ keys_fault filled.keys → TellsFault (open_fault opening) r
tells_keys filled opening r why is made fine few keys =
    subst (λ (o : Option OpenFault). TellsFault o r) (sym (fault_is opening))
    (handed (first_of (listed_fault opening ∷ full_fault (rows_opened opening) ∷ keys_fault opening.ring ∷ [])) r why is
    (keys_by (listed_fault opening) (full_fault (rows_opened opening)) (keys_fault opening.ring) why fine (few ∙ ap full_fault made.rows)
    (keys ∙ ap keys_fault made.keys)))

all_by : (rows full keys : Option OpenFault) → rows ≡ None → None ≡ full → None ≡ keys → first_of (rows ∷ full ∷ keys ∷ []) ≡ None
all_by rows full keys fine few is = rw (fine, ← few, ← is) refl

-- where nothing is at fault, the opening is accepted
pub accepted : (filled : Filled) (opening : PlainOpening) → IsFilled filled opening → listed_fault opening ≡ None → None ≡ full_fault (rows_of filled) →
    None ≡ keys_fault filled.keys → open_fault opening ≡ None
accepted filled opening made fine few keys =
    fault_is opening ∙ all_by (listed_fault opening) (full_fault (rows_opened opening)) (keys_fault opening.ring) fine (few ∙ ap full_fault made.rows)
    (keys ∙ ap keys_fault made.keys)

-- and its state is the one that the opening opens with
pub state_is : (filled : Filled) (opening : PlainOpening) (ring : RingState) → IsFilled filled opening → ring ≡ new_of filled.keys →
    state_of (with_ring filled ring) ≡ opened_state opening
unfolding opened_state
state_is filled opening ring made is = λ i. record {
  settings = made.settings i;
  rules = made.rules i;
  ring = (is ∙ ap new_of made.keys) i;
  rows = made.rows i;
  events = [];
  high = 0;
  made = 0;
}
