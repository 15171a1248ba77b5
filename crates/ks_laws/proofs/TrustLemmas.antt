-- Each change of trusts keeps them orderly.
use Rattle.std.proofs.Common.{◌≡◌, ℕ, ◌-◌, ◌≤◌, Bool, true, false, List, length, Option, Some, None, IfSome, option_map, refl, sym, subst, arith}
use Rattle.std.specs.Prelude.{not, if◌then◌else◌}
use Rattle.ks_base.specs.declared.limits.TheConstants.{REDELEGATIONS, TRUST_ROLES, USES}
use Rattle.ks_base.specs.declared.trusts.TrustRow.{TrustRow}
use Rattle.ks_base.specs.Rows.{Id, Rows, same}
use Rattle.ks_base.specs.Tables.{Among, id_cmp, put_row}
use Rattle.ks_base.specs.Trusts.{goes, trusts_left, use_trust, used}
use Rattle.ks_base.proofs.ChainLemmas.{goes_down}
use Rattle.ks_base.proofs.TruthLemmas.{not_both, not_if}
use Rattle.ks_base.proofs.AmongLemmas.{among_mapped}
use Rattle.ks_base.proofs.TrustLemmas.{chained_put, chained_left, chained_used, made_new, made_chained, after_use, use_leaves, IsSameBut}
use Rattle.ks_laws.specs.Orderly.{AreTrustsOrderly, IsTrustHeld}
use Rattle.ks_laws.proofs.ListLemmas.{each_filter, each_put}
use Rattle.ks_machine.specs.Lawful.{IsTrustMade}
use Rattle.ks_machine.specs.Ranges.{AreUses, IsExpiry, IsLastOf, IsTrustInRange}
use Rattle.ks_machine.specs.TrustCommands.{roles_to_give}

-- a new trust

held_uses : (remaining : Option ℕ) → IfSome remaining AreUses → IfSome remaining (λ uses. uses ≤ USES)
held_uses None is = tt
held_uses (Some uses) is = is.1

new_held : (trust : TrustRow) → IsTrustInRange trust → IsTrustHeld trust
new_held trust range = record {
  roles_least = range.roles_least;
  roles_most = range.roles_most;
  expires = range.expires;
  remaining = held_uses trust.remaining range.remaining;
  count = range.count;
  last = range.last;
}

pub trusts_put : (rows : Rows) (moment : ℕ) (new : TrustRow) → IsTrustMade rows moment new → AreTrustsOrderly rows.trusts → AreTrustsOrderly (put_row id_cmp (λ r. r.id) new rows.trusts)
trusts_put rows moment new made old = record {
  range = each_put (λ r. r.id) IsTrustHeld new rows.trusts (new_held new made.range) old.range;
  chains =
      chained_put rows.trusts new old.chains (made_new rows.trusts (roles_to_give rows new) moment new made.accepted)
      (made_chained rows.trusts (roles_to_give rows new) moment new made.parent made.accepted);
}

-- trusts that go take those below with them

pub trusts_gone_from : (trusts : List TrustRow) (touched : TrustRow → Bool) → AreTrustsOrderly trusts → AreTrustsOrderly (trusts_left trusts touched)
trusts_gone_from trusts touched old = record {
  range = each_filter IsTrustHeld (λ trust. not (goes trusts touched trust)) trusts old.range;
  chains =
      chained_left (λ trust. not (goes trusts touched trust)) trusts old.chains
      (λ trust parent among stays found. not_if (goes trusts touched parent)
      (λ gone. not_both (goes trusts touched trust) stays (goes_down trusts touched trust parent old.chains among found gone)));
}

-- a use leaves all but the uses

one_less : (remaining : Option ℕ) → IfSome remaining (λ uses. uses ≤ USES) → IfSome (option_map (λ left. left - 1) remaining) (λ uses. uses ≤ USES)
one_less None is = tt
one_less (Some uses) is = omega (arith, is)

fewer_uses : (trust : TrustRow) (b : Bool) → IfSome trust.remaining (λ uses. uses ≤ USES) → IfSome (if b then used trust else trust).remaining (λ uses. uses ≤ USES)
fewer_uses trust true is = one_less trust.remaining is
fewer_uses trust false is = is

still_last : (count : ℕ) (remaining : Option ℕ) → IsLastOf count remaining → IsLastOf count (option_map (λ left. left - 1) remaining)
still_last count None is = tt
still_last count (Some uses) is = is

used_last : (trust : TrustRow) (b : Bool) → IsLastOf trust.count trust.remaining → IsLastOf trust.count (if b then used trust else trust).remaining
used_last trust true is = still_last trust.count trust.remaining is
used_last trust false is = is

held_on : (next trust : TrustRow) → IsSameBut next trust → (IfSome trust.remaining (λ uses. uses ≤ USES) → IfSome next.remaining (λ uses. uses ≤ USES)) →
    IsLastOf trust.count next.remaining → IsTrustHeld trust → IsTrustHeld next
held_on next trust like fewer last held = record {
  roles_least = subst (λ (roles : List Id). 1 ≤ length roles) (sym like.roles) held.roles_least;
  roles_most = subst (λ (roles : List Id). length roles ≤ TRUST_ROLES) (sym like.roles) held.roles_most;
  expires = subst (λ (o : Option ℕ). IfSome o IsExpiry) (sym like.expires) held.expires;
  remaining = fewer held.remaining;
  count = subst (λ (n : ℕ). n ≤ REDELEGATIONS) (sym like.count) held.count;
  last = subst (λ (n : ℕ). IsLastOf n next.remaining) (sym like.count) last;
}

pub trusts_used : (of : Id) (trusts : List TrustRow) → AreTrustsOrderly trusts → AreTrustsOrderly (use_trust of trusts)
trusts_used of trusts old = record {
  range = λ next among. of_one next (among_mapped (after_use of) trusts next among);
  chains = chained_used of trusts old.chains;
}
  where
    of_one : (next : TrustRow) → (trust : TrustRow) × Among trusts trust × (after_use of trust ≡ next) → IsTrustHeld next
    of_one next (trust, among, is) =
        subst IsTrustHeld is (held_on (after_use of trust) trust (use_leaves of trust) (fewer_uses trust (same trust.id of))
        (used_last trust (same trust.id of) (old.range trust among).last) (old.range trust among))
