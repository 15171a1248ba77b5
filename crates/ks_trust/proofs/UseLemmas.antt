-- Why a trust is not used, by the row that is found.
use Rattle.std.proofs.Common.{◌≡◌, ℕ, Bool, true, false, not, List, [], ◌∷◌, Some, None, get_or, sym, ap, ◌∙◌}
use Rattle.ks_base.specs.declared.faults.TrustFault.TheVariants as fault
use Rattle.ks_base.specs.declared.trusts.TrustRow.{TrustRow}
use Rattle.ks_base.specs.Places.{IsFoundAt}
use Rattle.ks_base.specs.Refusals.{fault_if, first_of}
use Rattle.ks_base.specs.Rows.{Id, same, trust_of}
use Rattle.ks_base.specs.Tables.{id_cmp}
use Rattle.ks_base.specs.Trusts.{found_use_fault, is_expired, is_spent, use_fault}
use Rattle.ks_base.proofs.PlaceLemmas.{find_found}

pub use_absent : (trusts : List TrustRow) (id trustee : Id) (moment : ℕ) → trust_of id trusts ≡ None → use_fault trusts id trustee moment ≡ Some (fault.Absent id)
unfolding found_use_fault
use_absent trusts id trustee moment none = ap (found_use_fault id trustee moment) none

pub use_found : (trusts : List TrustRow) (id trustee : Id) (moment : ℕ) (i : ℕ) (trust : TrustRow) → IsFoundAt id_cmp (λ row. row.id) id trusts i → trust ≡ get_or trusts i trust →
    use_fault trusts id trustee moment ≡ found_use_fault trust.id trustee moment (Some trust)
unfolding found_use_fault
use_found trusts id trustee moment i trust there is =
    ap (found_use_fault id trustee moment) (find_found id_cmp (λ row. row.id) id trusts i trust there ∙ ap Some (sym is))

no_memory : (other ended spent : Bool) → first_of (fault_if other fault.NotTrustee ∷ fault_if ended fault.Expired ∷ fault_if spent fault.Spent ∷ []) ≡ Some fault.Memory → ⊥
no_memory true ended spent is = cc
no_memory false true spent is = cc
no_memory false false true is = cc
no_memory false false false is = cc

pub use_takes_none : (id trustee : Id) (moment : ℕ) (trust : TrustRow) → found_use_fault id trustee moment (Some trust) ≡ Some fault.Memory → ⊥
unfolding found_use_fault
use_takes_none id trustee moment trust is = no_memory (not (same trust.trustee trustee)) (is_expired trust.expires moment) (is_spent trust.remaining) is
