-- Changes that keep trusts and what they name the same.
use Rattle.std.proofs.Common.{◌≡◌, ◌⊎◌, inl, inr, ℕ, ◌+◌, ◌<◌, Bool, true, false, not, if◌then◌else◌, List, [], ◌∷◌, ◌++◌, length, take, get_or, Some, None, refl, sym, ap, subst, ◌∙◌}
use Rattle.std.specs.List.{filter, AllByRecursion}
use Rattle.std.specs.Ordering.{is_eq}
use Rattle.std.proofs.lemmas.Cmp.{nat_list_cmp_total}
use Rattle.std.proofs.lemmas.List.{take_more}
use Rattle.std.proofs.lemmas.Slice.Eq.{bytes_eq-Decides}
use Rattle.ks_base.specs.declared.trusts.TrustRow.{TrustRow}
use Rattle.ks_base.specs.OrderLaws.{id_exact}
use Rattle.ks_base.specs.Rows.{Id, has_id, same, trust_of}
use Rattle.ks_base.specs.Tables.{id_cmp, Among, IsAscending, drop_row, find_row, has_key, put_row}
use Rattle.ks_base.specs.Trusts.{used, use_trust}
use Rattle.ks_base.proofs.AmongLemmas.{all_among, among_all, among_mapped, among_push, get_among, map_among}
use Rattle.ks_base.proofs.LinkLemmas.{kept_beside, stands_without, without_sides, without_stands}
use Rattle.ks_base.proofs.RowLemmas.{among_drop, among_filter, among_put, among_put_other, eq_is, filter_among, found_among, id_found, id_same, none_among, put_among, same_row}
use Rattle.ks_base.proofs.TruthLemmas.{not_both, not_if}
use Rattle.ks_base.proofs.TrustLemmas.{after_use}
use Rattle.ks_trust.specs.declared.sides.TrustSide.{TrustSide}
use Rattle.ks_trust.specs.Sides.{side_cmp, side_exact, side_total, sides_of, AreGrown, AreSides}
use Rattle.ks_trust.specs.State.{is_listed, without_trusts}

abbrev key : TrustRow → Id
key row = row.id

-- the index without these sides
abbrev pub without_each : List TrustSide → List TrustSide → List TrustSide
without_each gone sides = without_sides side_cmp (λ side. side) sides gone

-- the sides of a trust are its own

pub side_trust : (trust : TrustRow) (side : TrustSide) → Among (sides_of trust) side → side.trust ≡ trust.id
side_trust trust side (inl is) = sym (ap (λ (s : TrustSide). s.trust) is)
side_trust trust side (inr (inl is)) = sym (ap (λ (s : TrustSide). s.trust) is)
side_trust trust side (inr (inr (inl is))) = sym (ap (λ (s : TrustSide). s.trust) is)
side_trust trust side (inr (inr (inr (inl is)))) = sym (ap (λ (s : TrustSide). s.trust) is)
side_trust trust side (inr (inr (inr (inr none)))) = absurd none

-- what comes in

pub grown_more : (more old new after : List TrustSide) (side : TrustSide) → Among more side → after ≡ put_row side_cmp (λ s. s) side new → AreGrown more old new →
    AreGrown more old after
grown_more more old new after side wanted put grown = record {
  kept = λ s among. subst (λ l. Among l s) (sym put) (kept_beside side_cmp side_exact side new s (grown.kept s among));
  only = λ s among. by s (among_put side_cmp (λ r. r) side new s (subst (λ l. Among l s) put among));
}
  where
    by : (s : TrustSide) → (side ≡ s) ⊎ Among new s → Among old s ⊎ Among more s
    by s (inl is) = inr (subst (Among more) is wanted)
    by s (inr among) = grown.only s among

-- and they come in one by one
pub grown_at : (more old new after : List TrustSide) (i : ℕ) (side : TrustSide) → i < length more → side ≡ get_or more i side →
    after ≡ put_row side_cmp (λ s. s) side new → AreGrown more old new → AreGrown more old after
grown_at more old new after i side lt is put grown = grown_more more old new after side (subst (Among more) (sym is) (get_among more i side lt)) put grown

pub all_more : (more new after : List TrustSide) (i : ℕ) (side : TrustSide) → i < length more → side ≡ get_or more i side → after ≡ put_row side_cmp (λ s. s) side new →
    AllByRecursion (Among new) (take i more) → AllByRecursion (Among after) (take (i + 1) more)
all_more more new after i side lt is put all = among_all (Among after) (take (i + 1) more) (λ s among. by s (among_push (take i more) side s (subst (λ l. Among l s) there among)))
  where
    there : take (i + 1) more ≡ take i more ++ side ∷ []
    there = take_more more i side lt ∙ ap (λ x. take i more ++ x ∷ []) (sym is)

    by : (s : TrustSide) → Among (take i more) s ⊎ (side ≡ s) → Among after s
    by s (inl among) = subst (λ l. Among l s) (sym put) (kept_beside side_cmp side_exact side new s (all_among (Among new) (take i more) s all among))
    by s (inr same) = subst (λ l. Among l s) (sym put) (subst (Among (put_row side_cmp (λ r. r) side new)) same (put_among side_cmp (λ r. r) side new))

-- trusts that do not stand

new_among : (id : Id) (trusts : List TrustRow) (trust : TrustRow) → trust_of id trusts ≡ None → Among trusts trust → is_eq (id_cmp trust.id id) ≡ false
unfolding find_row
new_among id trusts trust none among = none_among (has_key id_cmp key id) trusts trust none among

pub new_id : (id : Id) (trusts : List TrustRow) (trust : TrustRow) → trust_of id trusts ≡ None → Among trusts trust → trust.id ≡ id → ⊥
new_id id trusts trust none among is =
    let tied = id_same trust.id id ∙ (bytes_eq-Decides trust.id id).1 is in
    let differs = new_among id trusts trust none among in
    cc

-- the changes

pub sides_along : (trusts more : List TrustRow) (sides others : List TrustSide) → more ≡ trusts → others ≡ sides → AreSides trusts sides → AreSides more others
sides_along trusts more sides others is also are = subst (λ l. AreSides l others) (sym is) (subst (AreSides trusts) (sym also) are)

pub sides_put : (trust : TrustRow) (trusts : List TrustRow) (old new : List TrustSide) → trust_of trust.id trusts ≡ None → AreSides trusts old →
    AreGrown (sides_of trust) old new → AllByRecursion (Among new) (sides_of trust) → AreSides (put_row id_cmp key trust trusts) new
sides_put trust trusts old new none are grown all = record { forth = forth; back = back }
  where
    by : (t : TrustRow) → (trust ≡ t) ⊎ Among trusts t → (side : TrustSide) → Among (sides_of t) side → Among new side
    by t (inl is) side among = all_among (Among new) (sides_of trust) side all (subst (λ x. Among (sides_of x) side) (sym is) among)
    by t (inr stands) side among = grown.kept side (are.forth t stands side among)

    forth : (t : TrustRow) → Among (put_row id_cmp key trust trusts) t → (side : TrustSide) → Among (sides_of t) side → Among new side
    forth t among = by t (among_put id_cmp key trust trusts t among)

    from : (side : TrustSide) → Among old side ⊎ Among (sides_of trust) side → (t : TrustRow) × Among (put_row id_cmp key trust trusts) t × Among (sides_of t) side
    from side (inl among) =
        let one = are.back side among in
        (one.0, among_put_other id_cmp key trust trusts one.0 (new_among trust.id trusts one.0 none one.1) one.1, one.2)
    from side (inr among) = (trust, put_among id_cmp key trust trusts, among)

    back : (side : TrustSide) → Among new side → (t : TrustRow) × Among (put_row id_cmp key trust trusts) t × Among (sides_of t) side
    back side among = from side (grown.only side among)

-- the sides of a trust that found no room go again
pub sides_undone : (trust : TrustRow) (trusts : List TrustRow) (old new : List TrustSide) → trust_of trust.id trusts ≡ None → AreSides trusts old →
    AreGrown (sides_of trust) old new → AreSides trusts (without_each (sides_of trust) new)
sides_undone trust trusts old new none are grown = record { forth = forth; back = back }
  where
    apart : (t : TrustRow) → Among trusts t → (side : TrustSide) → Among (sides_of t) side → (s : TrustSide) → Among (sides_of trust) s → s ≡ side → ⊥
    apart t stands side among s other is =
        new_id trust.id trusts t none stands (sym (side_trust t side among) ∙ sym (ap (λ (x : TrustSide). x.trust) is) ∙ side_trust trust s other)

    forth : (t : TrustRow) → Among trusts t → (side : TrustSide) → Among (sides_of t) side → Among (without_each (sides_of trust) new) side
    forth t stands side among =
        without_stands side_cmp (λ s. s) side_exact (sides_of trust) new side (grown.kept side (are.forth t stands side among)) (apart t stands side among)

    from : (side : TrustSide) → ((s : TrustSide) → Among (sides_of trust) s → s ≡ side → ⊥) → Among old side ⊎ Among (sides_of trust) side →
        (t : TrustRow) × Among trusts t × Among (sides_of t) side
    from side other (inl among) = are.back side among
    from side other (inr among) = absurd (other side among refl)

    back : (side : TrustSide) → Among (without_each (sides_of trust) new) side → (t : TrustRow) × Among trusts t × Among (sides_of t) side
    back side among =
        let both = stands_without side_cmp (λ s. s) side_total (sides_of trust) new side among in
        from side both.1 (grown.only side both.0)

-- those of trusts that are listed go
pub sides_left : (ids : List Id) (trusts : List TrustRow) (sides : List TrustSide) → AreSides trusts sides →
    AreSides (without_trusts ids trusts) (filter (λ side. not (has_id ids side.trust)) sides)
sides_left ids trusts sides are = record { forth = forth; back = back }
  where
    stays : TrustRow → Bool
    stays trust = not (is_listed ids trust)

    kept : TrustSide → Bool
    kept side = not (has_id ids side.trust)

    forth : (t : TrustRow) → Among (filter stays trusts) t → (side : TrustSide) → Among (sides_of t) side → Among (filter kept sides) side
    forth t stands side among =
        let both = among_filter stays trusts t stands in
        filter_among kept sides side (are.forth t both.0 side among) (ap (λ id. not (has_id ids id)) (side_trust t side among) ∙ both.1)

    back : (side : TrustSide) → Among (filter kept sides) side → (t : TrustRow) × Among (filter stays trusts) t × Among (sides_of t) side
    back side among =
        let both = among_filter kept sides side among in
        let one = are.back side both.0 in
        (one.0, filter_among stays trusts one.0 one.1 (sym (ap (λ id. not (has_id ids id)) (side_trust one.0 side one.2)) ∙ both.1), one.2)

-- those of one trust go
trust_left : (id : Id) (trusts : List TrustRow) (trust : TrustRow) → Among trusts trust → (trust.id ≡ id → ⊥) → Among (drop_row id_cmp key id trusts) trust
unfolding drop_row
trust_left id trusts trust among apart =
    filter_among (λ row. not (has_key id_cmp key id row)) trusts trust among
    (not_if (is_eq (id_cmp trust.id id)) (λ is. apart (id_exact trust.id id (eq_is (id_cmp trust.id id) is))))

pub sides_drop : (id : Id) (trust : TrustRow) (trusts : List TrustRow) (sides : List TrustSide) → IsAscending id_cmp key trusts → trust_of id trusts ≡ Some trust →
    AreSides trusts sides → AreSides (drop_row id_cmp key id trusts) (without_each (sides_of trust) sides)
sides_drop id trust trusts sides up found are = record { forth = forth; back = back }
  where
    is_id : trust.id ≡ id
    is_id = id_found key id trusts trust found

    apart : (t : TrustRow) → not (has_key id_cmp key id t) ≡ true → (side : TrustSide) → Among (sides_of t) side → (s : TrustSide) → Among (sides_of trust) s → s ≡ side → ⊥
    apart t other side among s also is =
        not_both (is_eq (id_cmp t.id id)) other
        (id_same t.id id ∙ (bytes_eq-Decides t.id id).1 (sym (side_trust t side among) ∙ sym (ap (λ (x : TrustSide). x.trust) is) ∙ side_trust trust s also ∙ is_id))

    forth : (t : TrustRow) → Among (drop_row id_cmp key id trusts) t → (side : TrustSide) → Among (sides_of t) side → Among (without_each (sides_of trust) sides) side
    forth t stands side among =
        let both = among_drop id_cmp key id trusts t stands in
        without_stands side_cmp (λ s. s) side_exact (sides_of trust) sides side (are.forth t both.0 side among) (apart t both.1 side among)

    back : (side : TrustSide) → Among (without_each (sides_of trust) sides) side → (t : TrustRow) × Among (drop_row id_cmp key id trusts) t × Among (sides_of t) side
    back side among =
        let both = stands_without side_cmp (λ s. s) side_total (sides_of trust) sides side among in
        let one = are.back side both.0 in
        let there = (found_among id_cmp key id trusts trust found).0 in (
          one.0,
          trust_left id trusts one.0 one.1
              (λ is.
              let same = same_row id_cmp key nat_list_cmp_total trusts one.0 trust up one.1 there (is ∙ sym is_id) in
              both.1 side (subst (λ t. Among (sides_of t) side) same one.2) refl),
          one.2,
        )

-- a use changes none
same_sides : (trust : TrustRow) (b : Bool) → sides_of (if b then used trust else trust) ≡ sides_of trust
same_sides trust true = refl
same_sides trust false = refl

pub sides_used : (id : Id) (trusts : List TrustRow) (sides : List TrustSide) → AreSides trusts sides → AreSides (use_trust id trusts) sides
sides_used id trusts sides are = record { forth = forth; back = back }
  where
    alike : (t : TrustRow) → sides_of (after_use id t) ≡ sides_of t
    alike t = same_sides t (same t.id id)

    forth : (t : TrustRow) → Among (use_trust id trusts) t → (side : TrustSide) → Among (sides_of t) side → Among sides side
    forth t stands side among =
        let old = among_mapped (after_use id) trusts t stands in
        are.forth old.0 old.1 side (subst (λ l. Among l side) (alike old.0) (subst (λ x. Among (sides_of x) side) (sym old.2) among))

    back : (side : TrustSide) → Among sides side → (t : TrustRow) × Among (use_trust id trusts) t × Among (sides_of t) side
    back side among =
        let one = are.back side among in
        (after_use id one.0, map_among (after_use id) trusts one.0 one.1, subst (λ l. Among l side) (sym (alike one.0)) one.2)
