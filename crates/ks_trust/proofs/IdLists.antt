-- Lists of the ids of trusts, and what they name.
use Rattle.std.proofs.Common.{◌≡◌, Bool, true, false, not, ◌||◌, inl, inr, List, [], ◌∷◌, filter, refl, sym, ap, subst, ◌∙◌}
use Rattle.std.proofs.lemmas.Cmp.{nat_list_cmp_total}
use Rattle.std.proofs.lemmas.Slice.Eq.{bytes_eq-Decides}
use Rattle.std.proofs.lemmas.Bool.{or_left, or_right}
use Rattle.ks_base.specs.declared.trusts.TrustRow.{TrustRow}
use Rattle.ks_base.specs.Rows.{Id, same, has_id}
use Rattle.ks_base.specs.Tables.{id_cmp, IsAscending, Among}
use Rattle.ks_base.specs.Trusts.{AreChained, goes, trusts_gone, trusts_left}
use Rattle.ks_base.proofs.ChainLemmas.{goes_alike, goes_down, parent_among}
use Rattle.ks_base.proofs.RowLemmas.{among_filter, filter_among, same_row}
use Rattle.ks_base.proofs.ListLemmas.{filter_alike}
use Rattle.ks_trust.specs.State.{ids_of, is_listed, without_trusts, IsClosed}

-- a named trust is one of those whose ids are listed
record WithId (trusts : List TrustRow) (id : Id) : Type 0 where
  trust : TrustRow
  stands : Among trusts trust
  id_is : trust.id ≡ id

named_by : (next : TrustRow) (trusts : List TrustRow) (id : Id) (b : Bool) → same next.id id ≡ b → (b || has_id (ids_of trusts) id) ≡ true →
    (has_id (ids_of trusts) id ≡ true → WithId trusts id) → WithId (next ∷ trusts) id
named_by next trusts id true is has later = record { trust = next; stands = inl refl; id_is = (bytes_eq-Decides next.id id).0 is }
named_by next trusts id false is has later = let found = later has in record { trust = found.trust; stands = inr found.stands; id_is = found.id_is }

named : (trusts : List TrustRow) (id : Id) → has_id (ids_of trusts) id ≡ true → WithId trusts id
named [] id has = cc
named (next ∷ trusts) id has = named_by next trusts id (same next.id id) refl has (named trusts id)

names : (trusts : List TrustRow) (trust : TrustRow) → Among trusts trust → has_id (ids_of trusts) trust.id ≡ true
names [] trust among = absurd among
names (next ∷ trusts) trust (inl alike) =
    or_left (same next.id trust.id) (has_id (ids_of trusts) trust.id) ((bytes_eq-Decides next.id trust.id).1 (ap (λ (t : TrustRow). t.id) alike))
names (next ∷ trusts) trust (inr among) = or_right (same next.id trust.id) (has_id (ids_of trusts) trust.id) (names trusts trust among)

-- the ids of those that pass name exactly these
only_by : (test : TrustRow → Bool) (trusts : List TrustRow) (trust : TrustRow) → IsAscending id_cmp (λ row. row.id) trusts → Among trusts trust →
    WithId (filter test trusts) trust.id → test trust ≡ true
only_by test trusts trust up among found =
    let both = among_filter test trusts found.trust found.stands in
    let alike = same_row id_cmp (λ row. row.id) nat_list_cmp_total trusts found.trust trust up both.0 among found.id_is in
    subst (λ (t : TrustRow). test t ≡ true) alike both.1

names_by : (test : TrustRow → Bool) (trusts : List TrustRow) (trust : TrustRow) (a b : Bool) → has_id (ids_of (filter test trusts)) trust.id ≡ a → test trust ≡ b →
    IsAscending id_cmp (λ row. row.id) trusts → Among trusts trust → a ≡ b
names_by test trusts trust true true has is up among = refl
names_by test trusts trust true false has is up among =
    let passes = only_by test trusts trust up among (named (filter test trusts) trust.id has) in
    cc
names_by test trusts trust false true has is up among =
    let listed = names (filter test trusts) trust (filter_among test trusts trust among is) in
    cc
names_by test trusts trust false false has is up among = refl

pub names_those : (trusts : List TrustRow) (test : TrustRow → Bool) (trust : TrustRow) → IsAscending id_cmp (λ row. row.id) trusts → Among trusts trust →
    is_listed (ids_of (filter test trusts)) trust ≡ test trust
names_those trusts test trust up among = names_by test trusts trust (has_id (ids_of (filter test trusts)) trust.id) (test trust) refl refl up among

-- with each trust that goes all its redelegations go
pub gone_are_closed : (trusts : List TrustRow) (touched : TrustRow → Bool) → IsAscending id_cmp (λ row. row.id) trusts → AreChained trusts →
    IsClosed trusts (ids_of (trusts_gone trusts touched))
gone_are_closed trusts touched up all trust parent among found is =
    let above : Among trusts parent = parent_among trusts trust.parent parent found in
    let parent_goes = sym (names_those trusts (goes trusts touched) parent up above) ∙ is in
    names_those trusts (goes trusts touched) trust up among ∙ goes_down trusts touched trust parent all among found parent_goes

pub gone_by_ids : (trusts : List TrustRow) (touched : TrustRow → Bool) (ids : List Id) → ((trust : TrustRow) → Among trusts trust → is_listed ids trust ≡ touched trust) →
    trusts_gone trusts (is_listed ids) ≡ trusts_gone trusts touched
gone_by_ids trusts touched ids alike =
    filter_alike (goes trusts (is_listed ids)) (goes trusts touched) trusts (λ t among. goes_alike trusts (is_listed ids) touched t alike among)

pub left_by_ids : (trusts : List TrustRow) (touched : TrustRow → Bool) → IsAscending id_cmp (λ row. row.id) trusts →
    without_trusts (ids_of (trusts_gone trusts touched)) trusts ≡ trusts_left trusts touched
left_by_ids trusts touched up =
    filter_alike (λ t. not (is_listed (ids_of (trusts_gone trusts touched)) t)) (λ t. not (goes trusts touched t)) trusts
    (λ t among. ap not (names_those trusts (goes trusts touched) t up among))
