-- An identity that opens stands for the first front of its opening.
use Rattle.std.proofs.Common.{◌≡◌, None, refl, sym, ap, subst, ◌∙◌, arith}
use Rattle.ks_machine.specs.Fronts.{replay, replayed, first_front}
use Rattle.ks_machine.specs.Lawful.{AreLawful, IsOpeningInRange}
use Rattle.ks_machine.specs.Opened.{open_fault, opened_state}
use Rattle.ks_machine.specs.Openings.{PlainOpening}
use Rattle.ks_machine.specs.Ranges.{IsSettings}
use Rattle.ks_machine.specs.States.{State}
use Rattle.ks_opening.specs.declared.opened.OpenedTables.{OpenedTables}
use Rattle.ks_opening.specs.Opened.{state_of}
use Rattle.ks_state.specs.Standing.{Stands, with_live}

first_state : (opening : PlainOpening) → opened_state opening ≡ with_live (replay (first_front opening))
unfolding replay replayed opened_state
first_state opening = refl

pub stands_first : (state : State) (opening : PlainOpening) → IsOpeningInRange opening → state ≡ opened_state opening → open_fault opening ≡ None →
    Stands (record { state = state; newest = None }) (first_front opening)
unfolding AreLawful
stands_first state opening range is none = record {
  state = is ∙ first_state opening;
  newest = refl;
  lawful = record { range = range; accepted = none; changes = omega arith; high = omega arith; count = omega arith };
}

-- the settings keep their ranges
pub settings_are : (opened : OpenedTables) (opening : PlainOpening) → IsOpeningInRange opening → state_of opened ≡ opened_state opening → IsSettings opened.settings
unfolding opened_state
settings_are opened opening range is = subst IsSettings (sym (ap (λ (S : State). S.settings) is)) range.settings
