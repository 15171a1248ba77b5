-- Changes of trusts keep their order and their chains.
use Rattle.std.proofs.Common.{◌≡◌, ℕ, ◌+◌, ◌<◌, ◌⊎◌, ◌==◌, nat_le, Bool, true, false, if◌then◌else◌, inl, inr, List, [], ◌∷◌, length, filter, Option, Some, None, IsSome, is_some, refl, sym, ap, subst, ◌∙◌, arith}
use Rattle.std.specs.Prelude.{IfSome, IsSomeAnd}
use Rattle.std.specs.Option.{option_map}
use Rattle.std.specs.Ordering.{is_eq}
use Rattle.std.proofs.lemmas.Cmp.{nat_list_cmp_total}
use Rattle.std.proofs.lemmas.Slice.Eq.{bytes_eq-Decides}
use Rattle.ks_base.specs.Limits.{limit}
use Rattle.ks_base.specs.declared.trusts.TrustRow.{TrustRow}
use Rattle.ks_base.specs.declared.faults.TrustFault.{TrustFault}
use Rattle.ks_base.specs.declared.faults.TrustFault.TheVariants as fault
use Rattle.ks_base.specs.declared.kinds.Kind.TheVariants as kind
use Rattle.ks_base.specs.Refusals.{fault_if, first_of}
use Rattle.ks_base.specs.Rows.{Id, same, trust_of}
use Rattle.ks_base.specs.Tables.{id_cmp, AreAbove, IsAscending, Among, find_row, has_key, put_row}
use Rattle.ks_base.specs.Trusts.{AreChained, IsChained, Follows, FollowsParent, creation_fault, first_missing, is_expired, parent_fault, parent_trust, under_fault, used, use_trust}
use Rattle.ks_base.proofs.AmongLemmas.{among_mapped}
use Rattle.ks_base.proofs.ListLemmas.{above_zero, find_kept, find_mapped}
use Rattle.ks_base.proofs.RowLemmas.{among_filter, among_put, find_put_other, id_same}

-- a trust stays in its chain where its parent is found as before
some_named : (trusts : List TrustRow) (id : Option Id) (parent : TrustRow) → parent_trust trusts id ≡ Some parent → IsSome id
some_named trusts None parent found = cc
some_named trusts (Some id) parent found = refl

stays : (trusts others : List TrustRow) (trust : TrustRow) → IsChained trusts trust →
    (IsSome trust.parent → parent_trust others trust.parent ≡ parent_trust trusts trust.parent) → IsChained others trust
stays trusts others trust chained alike = record {
  stands = λ some. ap is_some (alike some) ∙ chained.stands some;
  below = λ parent found. chained.below parent (sym (alike (some_named others trust.parent parent found)) ∙ found);
}

-- making
find_new_by : (trusts : List TrustRow) (row : TrustRow) (id : Id) (b : Bool) → is_eq (id_cmp row.id id) ≡ b → trust_of row.id trusts ≡ None →
    IsSome (trust_of id trusts) → trust_of id (put_row id_cmp (λ r. r.id) row trusts) ≡ trust_of id trusts
find_new_by trusts row id true is none some =
    let alike : row.id ≡ id = (bytes_eq-Decides row.id id).0 (sym (id_same row.id id) ∙ is) in
    let also : trust_of id trusts ≡ None = subst (λ (k : Id). trust_of k trusts ≡ None) alike none in
    cc
find_new_by trusts row id false is none some = find_put_other id_cmp (λ r. r.id) nat_list_cmp_total id row trusts is

find_new : (trusts : List TrustRow) (row : TrustRow) (id : Option Id) → trust_of row.id trusts ≡ None → IsSome (parent_trust trusts id) →
    parent_trust (put_row id_cmp (λ r. r.id) row trusts) id ≡ parent_trust trusts id
find_new trusts row None none some = refl
find_new trusts row (Some id) none some = find_new_by trusts row id (is_eq (id_cmp row.id id)) refl none some

pub chained_put : (trusts : List TrustRow) (row : TrustRow) → AreChained trusts → trust_of row.id trusts ≡ None → IsChained trusts row →
    AreChained (put_row id_cmp (λ r. r.id) row trusts)
chained_put trusts row all none chained trust among = by_place (among_put id_cmp (λ r. r.id) row trusts trust among)
  where
    old : (t : TrustRow) → IsChained trusts t → IsChained (put_row id_cmp (λ r. r.id) row trusts) t
    old t before = stays trusts (put_row id_cmp (λ r. r.id) row trusts) t before (λ some. find_new trusts row t.parent none (before.stands some))

    by_place : (row ≡ trust) ⊎ Among trusts trust → IsChained (put_row id_cmp (λ r. r.id) row trusts) trust
    by_place (inl same) = subst (IsChained (put_row id_cmp (λ r. r.id) row trusts)) same (old row chained)
    by_place (inr before) = old trust (all trust before)

-- ending
kept_parent : (keeps : TrustRow → Bool) (trusts : List TrustRow) (id : Option Id) (above : Option TrustRow) → parent_trust trusts id ≡ above → IsSome above →
    ((parent : TrustRow) → parent_trust trusts id ≡ Some parent → keeps parent ≡ true) → parent_trust (filter keeps trusts) id ≡ parent_trust trusts id
unfolding find_row
kept_parent keeps trusts None above found some kept = refl
kept_parent keeps trusts (Some id) None found some kept = cc
kept_parent keeps trusts (Some id) (Some parent) found some kept = find_kept (has_key id_cmp (λ (r : TrustRow). r.id) id) keeps trusts parent found (kept parent found) ∙ sym found

-- where no trust is left whose parent goes
pub chained_left : (keeps : TrustRow → Bool) (trusts : List TrustRow) → AreChained trusts →
    ((trust parent : TrustRow) → Among trusts trust → keeps trust ≡ true → parent_trust trusts trust.parent ≡ Some parent → keeps parent ≡ true) →
    AreChained (filter keeps trusts)
chained_left keeps trusts all upwards trust among =
    let both = among_filter keeps trusts trust among in
    let chained = all trust both.0 in
    stays trusts (filter keeps trusts) trust chained
    (λ some. kept_parent keeps trusts trust.parent (parent_trust trusts trust.parent) refl (chained.stands some) (λ parent found. upwards trust parent both.0 both.1 found))

-- using
abbrev pub after_use : Id → TrustRow → TrustRow
after_use id trust = if same trust.id id then used trust else trust

-- a use leaves all but the uses
pub record IsSameBut (a b : TrustRow) : Type 0 where
  pub id : a.id ≡ b.id
  pub project : a.project ≡ b.project
  pub roles : a.roles ≡ b.roles
  pub expires : a.expires ≡ b.expires
  pub count : a.count ≡ b.count
  pub parent : a.parent ≡ b.parent

same_but : (trust : TrustRow) (b : Bool) → IsSameBut (if b then used trust else trust) trust
same_but trust true = record { id = refl; project = refl; roles = refl; expires = refl; count = refl; parent = refl }
same_but trust false = record { id = refl; project = refl; roles = refl; expires = refl; count = refl; parent = refl }

pub use_leaves : (id : Id) (trust : TrustRow) → IsSameBut (after_use id trust) trust
use_leaves id trust = same_but trust (same trust.id id)

above_used : (id low : Id) (trusts : List TrustRow) → AreAbove id_cmp (λ row. row.id) low trusts → AreAbove id_cmp (λ row. row.id) low (use_trust id trusts)
above_used id low [] above = tt
above_used id low (trust ∷ trusts) above = (ap (id_cmp low) ((use_leaves id trust).id) ∙ above.0, above_used id low trusts above.1)

pub ascending_used : (id : Id) (trusts : List TrustRow) → IsAscending id_cmp (λ row. row.id) trusts → IsAscending id_cmp (λ row. row.id) (use_trust id trusts)
ascending_used id [] up = tt
ascending_used id (trust ∷ trusts) up =
    (subst (λ (low : Id). AreAbove id_cmp (λ row. row.id) low (use_trust id trusts)) (sym ((use_leaves id trust).id)) (above_used id trust.id trusts up.0), ascending_used id trusts up.1)

pub find_used : (id k : Id) (trusts : List TrustRow) → trust_of k (use_trust id trusts) ≡ option_map (after_use id) (trust_of k trusts)
unfolding find_row
find_used id k trusts = find_mapped (has_key id_cmp (λ (r : TrustRow). r.id) k) (after_use id) (λ row. ap (λ (j : Id). is_eq (id_cmp j k)) (use_leaves id row).id) trusts

parent_used : (id : Id) (k : Option Id) (trusts : List TrustRow) → parent_trust (use_trust id trusts) k ≡ option_map (after_use id) (parent_trust trusts k)
parent_used id None trusts = refl
parent_used id (Some k) trusts = find_used id k trusts

still_some : (id : Id) (above : Option TrustRow) → IsSome above → IsSome (option_map (after_use id) above)
still_some id None some = cc
still_some id (Some parent) some = refl

still_below : (id : Id) (trusts : List TrustRow) (trust parent : TrustRow) (above : Option TrustRow) → parent_trust trusts trust.parent ≡ above → IsChained trusts trust →
    option_map (after_use id) above ≡ Some parent → (trust.project ≡ parent.project) × (trust.count < parent.count)
still_below id trusts trust parent None is chained found = cc
still_below id trusts trust parent (Some old) is chained found =
    let alike : after_use id old ≡ parent = cc in
    let below = chained.below old is in
    let kept = use_leaves id old in
    (below.0 ∙ sym kept.project ∙ ap (λ (t : TrustRow). t.project) alike, subst (λ (n : ℕ). trust.count < n) (sym kept.count ∙ ap (λ (t : TrustRow). t.count) alike) below.1)

used_chained : (id : Id) (trusts : List TrustRow) (trust new : TrustRow) → IsSameBut new trust → IsChained trusts trust → IsChained (use_trust id trusts) new
used_chained id trusts trust new kept chained = record {
  stands =
      λ some. rw (kept.parent, parent_used id trust.parent trusts)
      (still_some id (parent_trust trusts trust.parent) (chained.stands (subst (λ (k : Option Id). IsSome k) kept.parent some)));
  below =
      λ parent found.
      let there = rw (kept.parent, parent_used id trust.parent trusts) at found in
      let below = still_below id trusts trust parent (parent_trust trusts trust.parent) refl chained there in
      rw (kept.project, kept.count) below;
}

pub chained_used : (id : Id) (trusts : List TrustRow) → AreChained trusts → AreChained (use_trust id trusts)
chained_used id trusts all trust among =
    let old = among_mapped (after_use id) trusts trust among in
    subst (IsChained (use_trust id trusts)) old.2 (used_chained id trusts old.0 (after_use id old.0) (use_leaves id old.0) (all old.0 old.1))

-- what a trust that is not refused has
made_by : (under lost ended full : Option TrustFault) (found : Option TrustRow) →
    first_of (under ∷ lost ∷ ended ∷ full ∷ option_map (λ row. fault.IdTaken row.id) found ∷ []) ≡ None → (under ≡ None) × (found ≡ None)
made_by None None None None None none = (refl, refl)
made_by None None None None (Some row) none = cc
made_by None None None (Some full) found none = cc
made_by None None (Some ended) full found none = cc
made_by None (Some lost) ended full found none = cc
made_by (Some under) lost ended full found none = cc

made : (trusts : List TrustRow) (held : List Id) (moment : ℕ) (trust : TrustRow) → creation_fault trusts held moment trust ≡ None →
    (parent_fault trust (parent_trust trusts trust.parent) ≡ None) × (trust_of trust.id trusts ≡ None)
unfolding creation_fault
made trusts held moment trust none =
    made_by (parent_fault trust (parent_trust trusts trust.parent)) (option_map (λ role. fault.RoleLost role) (first_missing trust.roles held))
    (fault_if (is_expired trust.expires moment) fault.Expired) (fault_if (nat_le (limit kind.Trust) (length trusts)) (fault.Full kind.Trust)) (trust_of trust.id trusts) none

pub made_new : (trusts : List TrustRow) (held : List Id) (moment : ℕ) (trust : TrustRow) → creation_fault trusts held moment trust ≡ None → trust_of trust.id trusts ≡ None
made_new trusts held moment trust none = (made trusts held moment trust none).1

counted : (parent trust : TrustRow) (b : Bool) → (parent.count == 0) ≡ b → under_fault parent trust ≡ None → 0 < parent.count
unfolding under_fault
counted parent trust true is none = let still = rw is at none in cc
counted parent trust false is none = above_zero parent.count is

lower_count : (trust parent : TrustRow) → Follows trust parent → under_fault parent trust ≡ None → trust.count < parent.count
lower_count trust parent follows none = let some = counted parent trust (parent.count == 0) refl none in by_count some (follows.1 some)
  where
    by_count : 0 < parent.count → (trust.count + 1 ≡ parent.count) ⊎ (trust.count ≡ 0) → trust.count < parent.count
    by_count some (inl less) = omega (arith, less)
    by_count some (inr none) = omega (arith, some, none)

follows_found : (trusts : List TrustRow) (trust : TrustRow) (id : Option Id) (above : Option TrustRow) → parent_trust trusts id ≡ above →
    IfSome id (λ k. IsSomeAnd (trust_of k trusts) (Follows trust)) → IsSome id → IsSomeAnd above (Follows trust)
follows_found trusts trust None above is follows some = cc
follows_found trusts trust (Some k) above is follows some = subst (λ (o : Option TrustRow). IsSomeAnd o (Follows trust)) is follows

some_stands : (trust : TrustRow) (above : Option TrustRow) → IsSomeAnd above (Follows trust) → IsSome above
some_stands trust None stands = absurd stands
some_stands trust (Some parent) stands = refl

pub made_chained : (trusts : List TrustRow) (held : List Id) (moment : ℕ) (trust : TrustRow) → FollowsParent trusts trust →
    creation_fault trusts held moment trust ≡ None → IsChained trusts trust
made_chained trusts held moment trust follows none = record {
  stands = λ some. some_stands trust (parent_trust trusts trust.parent) (follows_found trusts trust trust.parent (parent_trust trusts trust.parent) refl follows some);
  below = below;
}
  where
    below : (parent : TrustRow) → parent_trust trusts trust.parent ≡ Some parent → (trust.project ≡ parent.project) × (trust.count < parent.count)
    below parent found =
        let it : Follows trust parent = follows_found trusts trust trust.parent (Some parent) found follows (some_named trusts trust.parent parent found) in
        let under : under_fault parent trust ≡ None = rw found at (made trusts held moment trust none).0 in
        (it.0, lower_count trust parent it under)
