-- What happens in the rounds of a call.
use Rattle.std.specs.Prelude.{◌≡◌, ℕ}
use Rattle.ks_auth.specs.Facts.{FactsState}
use Rattle.ks_machine.specs.declared.call.Call.{Call}
use Rattle.ks_machine.specs.Fronts.{Front, ◌⊑◌}
use Rattle.ks_service.specs.Work.{AreDerivable}
use Rattle.ks_state.specs.declared.decision.Decision.{Decision}
use Rattle.ks_state.specs.declared.decision.Decision.TheVariants.{Done, Needs}
use Rattle.ks_state.specs.Decides.{IsAsked, Replied}
use Rattle.ks_turn.specs.Passes.{Passed}

-- | a call after a front was replied, or facts are asked for and the value stands for that front still
abbrev pub Judged : {S : Type 0} → (S → Front → Type 0) → (S → ℕ) → Front → Call → FactsState → Decision → S → Type 0
Judged means kept f call facts (Done said) value = Replied means kept f call said value
Judged means kept f call facts (Needs needs) value = means value f × IsAsked f call facts needs × AreDerivable needs

-- | a round ended without an answer: the pass is the same, but for what it has seen
pub record Waited (old new : Passed) : Type 0 where
  pub pass : new ≡ record old { seen = new.seen }
  pub later : old.seen ⊑ new.seen
  pub alone : old.weight ≡ 1000000 → new.seen ≡ old.seen
