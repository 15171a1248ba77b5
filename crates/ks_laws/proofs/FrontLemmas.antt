-- The state of a lawful front is orderly, and its walks are the whole climbs.
use Rattle.std.proofs.Common.{◌≡◌, ℕ, ◌<◌, ◌≤◌, List, [], ◌∷◌, Option, Some, None, refl, arith}
use Rattle.std.specs.List.{AllByRecursion}
use Rattle.ks_base.specs.declared.rows.ProjectRow.{ProjectRow}
use Rattle.ks_base.specs.declared.trusts.TrustRow.{TrustRow}
use Rattle.ks_base.specs.Trusts.{first_trustor}
use Rattle.ks_base.proofs.ChainLemmas.{first_leads, parent_among}
use Rattle.ks_laws.specs.Laws.{CountedAreLast, CountsChanges, LawfulIsOrderly, LawfulIsSound, OpeningIsLawful, ProjectsAreClimbed, TrustsLead}
use Rattle.ks_laws.specs.Orderly.{IsOrderly}
use Rattle.ks_laws.proofs.ListLemmas.{found_is_among}
use Rattle.ks_laws.proofs.OpeningLemmas.{opened_is_orderly}
use Rattle.ks_laws.proofs.StateLemmas.{orderly_kept, orderly_later}
use Rattle.ks_laws.proofs.TreeLemmas.{above_is_ancestry}
use Rattle.ks_machine.specs.declared.change.Change.{Change}
use Rattle.ks_machine.specs.declared.change.Entry.{Entry}
use Rattle.ks_machine.specs.Changes.{apply, effect}
use Rattle.ks_machine.specs.Fronts.{replay, replayed}
use Rattle.ks_machine.specs.Lawful.{AreLawful, Fits}
use Rattle.ks_machine.specs.Opened.{opened_state}
use Rattle.ks_machine.specs.Ranges.{IsLastOf}
use Rattle.ks_machine.specs.States.{State}
use Rattle.ks_machine.proofs.FrontLemmas.{made_after}

-- moments

pub last_within : (S : State) (last : ℕ) (entries : List Entry) (high : ℕ) → AreLawful S last entries high → last ≤ high
unfolding AreLawful
last_within S last [] high lawful = lawful
last_within S last (entry ∷ entries) high lawful =
    omega (arith, lawful.1, last_within (apply S entry.moment entry.change) entry.moment entries high lawful.4)

all_within : (S : State) (last : ℕ) (entries : List Entry) (high : ℕ) → AreLawful S last entries high → AllByRecursion (λ entry. entry.moment ≤ high) entries
unfolding AreLawful
all_within S last [] high lawful = tt
all_within S last (entry ∷ entries) high lawful =
    (last_within (apply S entry.moment entry.change) entry.moment entries high lawful.4, all_within (apply S entry.moment entry.change) entry.moment entries high lawful.4)

pub lawful_is_sound : LawfulIsSound
lawful_is_sound f lawful kept = record { moments = all_within (opened_state f.opening) 0 f.changes f.high lawful.changes; kept = kept }

pub opening_is_lawful : OpeningIsLawful
unfolding AreLawful
opening_is_lawful opening range accepted =
    record { range = range; accepted = accepted; changes = omega arith; high = omega arith; count = omega arith }

-- states

-- whether a change fits does not hang on the highest moment
pub fits_at : (S : State) (high moment : ℕ) (what : Change) → Fits S moment what → Fits (record S { high = high }) moment what
unfolding Fits
fits_at S high moment what fits = fits

orderly_after : (S : State) (last : ℕ) (entries : List Entry) (high : ℕ) → AreLawful S last entries high → IsOrderly (record S { high = high }) →
    IsOrderly (record (replayed S entries) { high = high })
unfolding AreLawful replayed apply effect
orderly_after S last [] high lawful old = old
orderly_after S last (entry ∷ entries) high lawful old =
    orderly_after (apply S entry.moment entry.change) entry.moment entries high lawful.4
    (orderly_kept (record S { high = high }) entry.moment entry.change old (last_within (apply S entry.moment entry.change) entry.moment entries high lawful.4)
    (fits_at S high entry.moment entry.change lawful.2))

pub lawful_is_orderly : LawfulIsOrderly
unfolding replay opened_state
lawful_is_orderly f lawful =
    orderly_after (opened_state f.opening) 0 f.changes f.high lawful.changes
    (orderly_later (opened_state f.opening) f.high (opened_is_orderly f.opening lawful.range lawful.accepted)
    (last_within (opened_state f.opening) 0 f.changes f.high lawful.changes))

pub changes_are_counted : CountsChanges
unfolding replay opened_state
changes_are_counted f lawful = omega (arith, made_after (opened_state f.opening) f.changes)

-- trusts

none_counted : (remaining : Option ℕ) (count lower : ℕ) → IsLastOf count remaining → lower < count → remaining ≡ None
none_counted None count lower last above = refl
none_counted (Some uses) count lower last above = absurd (omega (arith, last, above))

pub counted_are_last : CountedAreLast
counted_are_last f trust parent lawful among found =
    let trusts = (lawful_is_orderly f lawful).rows.trusts in
    none_counted parent.remaining parent.count trust.count
    (trusts.range parent (parent_among (replay f).rows.trusts trust.parent parent found)).last ((trusts.chains trust among).below parent found).1

-- walks

pub projects_are_climbed : ProjectsAreClimbed
projects_are_climbed f id row lawful found =
    above_is_ancestry (replay f).rows.domains (replay f).rows.projects row (lawful_is_orderly f lawful).rows.trees
    (found_is_among (λ (r : ProjectRow). r.id) id (replay f).rows.projects row found)

pub trusts_lead : TrustsLead
trusts_lead f id trust lawful found =
    let chains = (lawful_is_orderly f lawful).rows.trusts.chains in
    (first_leads (replay f).rows.trusts trust (first_trustor (replay f).rows.trusts trust) chains
    (chains trust (found_is_among (λ (r : TrustRow). r.id) id (replay f).rows.trusts trust found))).1 refl
