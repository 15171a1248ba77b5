-- What fits one state that tables tell fits each of them; and lists of which each member passes.
use Rattle.std.proofs.Common.{◌≡◌, ◌↔◌, ℕ, Bool, true, List, [], ◌∷◌, refl, subst, arith}
use Rattle.std.specs.List.{AllByRecursion, list_all}
use Rattle.ks_auth.specs.declared.tables.Tables.{Tables}
use Rattle.ks_auth.specs.Answers.{rows_told}
use Rattle.ks_base.specs.Rows.{Rows}
use Rattle.ks_machine.specs.declared.change.Change.{Change}
use Rattle.ks_machine.specs.declared.change.Change.TheVariants as change
use Rattle.ks_machine.specs.declared.settings.Settings.{Settings}
use Rattle.ks_machine.specs.Lawful.{Fits}
use Rattle.ks_machine.specs.States.{State}
use Rattle.ks_ring.specs.Rings.{RingState}
use Rattle.ks_fits.specs.Told.{IsToldBy, state_told}

-- a state of these parts, and of nothing else
abbrev of_parts : Settings → RingState → Rows → State
of_parts settings ring rows = record { settings = settings; rules = []; ring = ring; rows = rows; events = []; high = 0; made = 0 }

-- no change asks for other parts
fits_parts : (S : State) (moment : ℕ) (what : Change) → Fits (of_parts S.settings S.ring S.rows) moment what ↔ Fits S moment what
unfolding Fits
fits_parts S moment (change.PutDomain row) = (λ fits. fits, λ fits. fits)
fits_parts S moment what = (λ fits. fits, λ fits. fits)

pub fits_told : (tables : Tables) (S : State) (moment : ℕ) (what : Change) → IsToldBy tables S → Fits (state_told tables) moment what ↔ Fits S moment what
fits_told tables S moment what told =
    subst (λ (settings : Settings). Fits (of_parts settings tables.ring.now (rows_told tables)) moment what ↔ Fits S moment what) told.settings
    (subst (λ (ring : RingState). Fits (of_parts S.settings ring (rows_told tables)) moment what ↔ Fits S moment what) told.ring
    (subst (λ (rows : Rows). Fits (of_parts S.settings S.ring rows) moment what ↔ Fits S moment what) told.rows (fits_parts S moment what)))

pub all_stand : {X : Type 0} (test : X → Bool) (xs : List X) → (list_all test xs ≡ true) ↔ AllByRecursion (λ x. test x ≡ true) xs
all_stand test [] = (λ all. tt, λ all. refl)
all_stand test (x ∷ xs) = grind (arith, all_stand test xs)
