-- What trusts name, in the order by which they are found.
use Rattle.std.proofs.Common.{◌≡◌, ◌⊎◌, ℕ, Bool, false, ◌||◌, List, [], ◌∷◌, Option, Some, None, ap}
use Rattle.std.specs.declared.cmp.Ordering.{Ordering}
use Rattle.std.specs.declared.cmp.Ordering.TheVariants.{Equal}
use Rattle.std.specs.Cmp.{IsTotalOrder}
use Rattle.std.specs.Option.{option_map_or}
use Rattle.std.specs.Ordering.{nat_cmp, then_cmp, on}
use Rattle.std.proofs.lemmas.Cmp.{nat_cmp_total, nat_list_cmp_total, then_total, on_total}
use Rattle.ks_base.specs.declared.trusts.TrustRow.{TrustRow}
use Rattle.ks_base.specs.OrderLaws.{first_part, id_exact, keyed_run, then_equal}
use Rattle.ks_base.specs.Rows.{Id, same}
use Rattle.ks_base.specs.Runs.{IsRun}
use Rattle.ks_base.specs.Tables.{id_cmp, Among}
use Rattle.ks_trust.specs.declared.sides.Reference.{Reference}
use Rattle.ks_trust.specs.declared.sides.Reference.TheVariants as references
use Rattle.ks_trust.specs.declared.sides.TrustSide.{TrustSide}

-- users before projects, and these before trusts that are passed on
abbrev pub reference_rank : Reference → ℕ
reference_rank (references.User id) = 0
reference_rank (references.Project id) = 1
reference_rank (references.Parent id) = 2

abbrev pub reference_id : Reference → Id
reference_id (references.User id) = id
reference_id (references.Project id) = id
reference_id (references.Parent id) = id

abbrev pub reference_cmp : Reference → Reference → Ordering
reference_cmp = then_cmp (on reference_rank nat_cmp) (on reference_id id_cmp)

-- by what is named, and then by the trust that names it
abbrev pub side_cmp : TrustSide → TrustSide → Ordering
side_cmp = then_cmp (on (λ side. side.what) reference_cmp) (on (λ side. side.trust) id_cmp)

pub reference_total : IsTotalOrder reference_cmp
reference_total = then_total (on_total reference_rank nat_cmp_total) (on_total reference_id nat_list_cmp_total)

pub side_total : IsTotalOrder side_cmp
side_total = then_total (on_total (λ side. side.what) reference_total) (on_total (λ side. side.trust) nat_list_cmp_total)

pub reference_exact : (a b : Reference) → reference_cmp a b ≡ Equal → a ≡ b
reference_exact (references.User a) (references.User b) e = ap references.User (id_exact a b e)
reference_exact (references.User a) (references.Project b) e = cc
reference_exact (references.User a) (references.Parent b) e = cc
reference_exact (references.Project a) (references.User b) e = cc
reference_exact (references.Project a) (references.Project b) e = ap references.Project (id_exact a b e)
reference_exact (references.Project a) (references.Parent b) e = cc
reference_exact (references.Parent a) (references.User b) e = cc
reference_exact (references.Parent a) (references.Project b) e = cc
reference_exact (references.Parent a) (references.Parent b) e = ap references.Parent (id_exact a b e)

pub side_exact : (a b : TrustSide) → side_cmp a b ≡ Equal → a ≡ b
side_exact a b e =
    let both = then_equal (reference_cmp a.what b.what) (id_cmp a.trust b.trust) e in
    let what = reference_exact a.what b.what both.0 in
    let trust = id_exact a.trust b.trust both.1 in
    λ i. record { what = what i; trust = trust i }

-- the trusts that name one thing stand side by side
pub reference_run : (what : Reference) → IsRun side_cmp (λ side. reference_cmp side.what what)
reference_run =
    keyed_run reference_cmp (λ (side : TrustSide). side.what) side_cmp reference_total (λ a b less. first_part (reference_cmp a.what b.what) (id_cmp a.trust b.trust) less)

-- a trust names its trustor and its trustee, its project, and the trust that it passes on
abbrev pub names : Reference → TrustRow → Bool
names (references.User id) trust = same trust.trustor id || same trust.trustee id
names (references.Project id) trust = same trust.project id
names (references.Parent id) trust = option_map_or (λ parent. same parent id) trust.parent false

-- a trust that passes none on names its project a second time
abbrev pub last_reference : Id → Option Id → Reference
last_reference project None = references.Project project
last_reference project (Some parent) = references.Parent parent

abbrev pub sides_of : TrustRow → List TrustSide
sides_of row =
    record { what = references.User row.trustor; trust = row.id } ∷ record { what = references.User row.trustee; trust = row.id } ∷
    record { what = references.Project row.project; trust = row.id } ∷ record { what = last_reference row.project row.parent; trust = row.id } ∷ []

-- the sides are those of the trusts, and no others
pub record AreSides (trusts : List TrustRow) (sides : List TrustSide) : Type 0 where
  pub forth : (trust : TrustRow) → Among trusts trust → (side : TrustSide) → Among (sides_of trust) side → Among sides side
  pub back : (side : TrustSide) → Among sides side → (trust : TrustRow) × Among trusts trust × Among (sides_of trust) side

-- some of these sides came in, or all of them, and none went
pub record AreGrown (more old new : List TrustSide) : Type 0 where
  pub kept : (side : TrustSide) → Among old side → Among new side
  pub only : (side : TrustSide) → Among new side → Among old side ⊎ Among more side
