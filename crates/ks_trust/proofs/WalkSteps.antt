-- The steps of walks up the chain of a trust.
use Rattle.std.proofs.Common.{◌≡◌, ℕ, zero, suc, Bool, true, false, ◌||◌, List, [], ◌∷◌, Option, Some, None, refl, sym, ap, subst, ◌∙◌, arith}
use Rattle.std.specs.Prelude.{IsSomeAnd}
use Rattle.std.specs.List.{list_any}
use Rattle.ks_base.specs.declared.trusts.TrustRow.{TrustRow}
use Rattle.ks_base.specs.Rows.{Id, trust_of}
use Rattle.ks_base.specs.Tables.{id_cmp}
use Rattle.ks_base.specs.Trusts.{AreChained, LeadsTo, first_trustor, last_trustor, lineage_within, parent_trust}
use Rattle.ks_base.proofs.ChainLemmas.{first_leads, last_own, last_up, none_above, some_above}
use Rattle.ks_base.proofs.RowLemmas.{found_among}

no_steps : (steps : ℕ) (trusts : List TrustRow) (trust : TrustRow) → steps ≡ 0 → lineage_within steps trusts trust ≡ []
unfolding lineage_within
no_steps zero trusts trust none = refl
no_steps (suc steps) trusts trust none = absurd (omega arith)

step_up : (steps next : ℕ) (trusts : List TrustRow) (trust parent : TrustRow) → steps ≡ suc next → Some parent ≡ parent_trust trusts trust.parent →
    lineage_within steps trusts trust ≡ parent ∷ lineage_within next trusts parent
step_up steps next trusts trust parent more some = ap (λ n. lineage_within n trusts trust) more ∙ some_above next trusts trust parent (sym some)

-- to the first trustor
own_trustor : (trust : TrustRow) (above : List TrustRow) (first : Id) → above ≡ [] → last_trustor trust above ≡ first → trust.trustor ≡ first
own_trustor trust above first none is = sym (last_own trust) ∙ sym (ap (last_trustor trust) none) ∙ is

pub stops : (steps : ℕ) (trusts : List TrustRow) (trust : TrustRow) (first : Id) → None ≡ parent_trust trusts trust.parent →
    last_trustor trust (lineage_within steps trusts trust) ≡ first → trust.trustor ≡ first
stops steps trusts trust first none is = own_trustor trust (lineage_within steps trusts trust) first (none_above steps trusts trust (sym none)) is

pub ends : (steps : ℕ) (trusts : List TrustRow) (trust : TrustRow) (first : Id) → steps ≡ 0 →
    last_trustor trust (lineage_within steps trusts trust) ≡ first → trust.trustor ≡ first
ends steps trusts trust first none is = own_trustor trust (lineage_within steps trusts trust) first (no_steps steps trusts trust none) is

pub climbs : (steps next : ℕ) (trusts : List TrustRow) (trust parent : TrustRow) (first : Id) → steps ≡ suc next → Some parent ≡ parent_trust trusts trust.parent →
    last_trustor trust (lineage_within steps trusts trust) ≡ first → last_trustor parent (lineage_within next trusts parent) ≡ first
climbs steps next trusts trust parent first more some is =
    sym (ap (last_trustor trust) (step_up steps next trusts trust parent more some) ∙ last_up trust parent (lineage_within next trusts parent)) ∙ is

pub leads_of : (trusts : List TrustRow) (id : Id) (trust : TrustRow) (first : Id) → AreChained trusts → Some trust ≡ trust_of id trusts →
    first ≡ first_trustor trusts trust → IsSomeAnd (trust_of id trusts) (λ t. LeadsTo trusts t first)
leads_of trusts id trust first all found is =
    let leads = (first_leads trusts trust first all (all trust (found_among id_cmp (λ row. row.id) id trusts trust (sym found)).0)).1 (sym is) in
    subst (λ (o : Option TrustRow). IsSomeAnd o (λ t. LeadsTo trusts t first)) found leads

-- to one that is touched
pub touched_here : (touched : TrustRow → Bool) (trust : TrustRow) (above : List TrustRow) (b : Bool) → touched trust ≡ true →
    list_any touched (trust ∷ above) ≡ b → true ≡ b
touched_here touched trust above b is any = let still = rw is at any in still

pub untouched_here : (touched : TrustRow → Bool) (trust : TrustRow) (steps : ℕ) (trusts : List TrustRow) (b : Bool) → touched trust ≡ false →
    None ≡ parent_trust trusts trust.parent → list_any touched (trust ∷ lineage_within steps trusts trust) ≡ b → false ≡ b
untouched_here touched trust steps trusts b is none any = let still = rw (is, none_above steps trusts trust (sym none)) at any in still

pub touched_above : (touched : TrustRow → Bool) (trust parent : TrustRow) (steps next : ℕ) (trusts : List TrustRow) (b : Bool) → touched trust ≡ false →
    steps ≡ suc next → Some parent ≡ parent_trust trusts trust.parent → list_any touched (trust ∷ lineage_within steps trusts trust) ≡ b →
    list_any touched (parent ∷ lineage_within next trusts parent) ≡ b
touched_above touched trust parent steps next trusts b is more some any = let still = rw (is, step_up steps next trusts trust parent more some) at any in still

or_none : (a b : Bool) → (a || false) ≡ b → a ≡ b
or_none true b is = is
or_none false b is = is

pub touched_last : (touched : TrustRow → Bool) (trust : TrustRow) (steps : ℕ) (trusts : List TrustRow) (b : Bool) → steps ≡ 0 →
    list_any touched (trust ∷ lineage_within steps trusts trust) ≡ b → touched trust ≡ b
touched_last touched trust steps trusts b none any = or_none (touched trust) b (let still = rw (no_steps steps trusts trust none) at any in still)
