-- What follows of a front for which an identity with its keeper stands: how many changes are kept is told, and of the fronts that go on from
-- one by a change at most there is one alone.
use Rattle.std.proofs.Common.{◌≡◌, ℕ, ◌+◌, ◌≤◌, length, sym, ◌∙◌}
use Rattle.ks_keeper.specs.Keeper.{Keeping}
use Rattle.ks_machine.specs.Fronts.{Front, ◌⊑◌}
use Rattle.ks_state.specs.StandingLaws.{stands_alike}
use Rattle.ks_keep.specs.Books.{BookedState, StandsSince, kept_of}

pub kept_is : {K : Type 0} (keeping : Keeping K) (holds : Type 0) (b : BookedState K) (f : Front) → StandsSince keeping holds b f → f.kept ≡ kept_of b
kept_is keeping holds b f stands = stands.stands.kept

pub booked_alone : {K : Type 0} (keeping : Keeping K) (holds : Type 0) (b : BookedState K) (base f g : Front) → base ⊑ f → base ⊑ g →
    length f.changes ≤ length base.changes + 1 → StandsSince keeping holds b f → StandsSince keeping holds b g → g ≡ f
booked_alone keeping holds b base f g on too most stands also =
    let alike = stands_alike b.shown base f g on too most stands.stands.stands also.stands.stands in
    let kept = also.stands.kept ∙ sym stands.stands.kept in
    λ i. record { opening = alike.0 i; changes = alike.1 i; high = alike.2 i; kept = kept i }
