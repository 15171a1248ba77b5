-- Trusts that are found down their chains.
use Rattle.std.proofs.Common.{◌≡◌, ◌⊎◌, inl, inr, ℕ, ◌+◌, ◌<◌, ◌≤◌, Bool, true, false, List, [], ◌∷◌, ◌++◌, length, take, get_or, filter, Option, Some, None, is_some, sym, ap, subst, ◌∙◌, arith}
use Rattle.std.specs.Prelude.{◌↔◌}
use Rattle.std.specs.List.{list_any}
use Rattle.std.specs.Option.{option_map_or}
use Rattle.std.proofs.lemmas.Bool.{or_left}
use Rattle.std.proofs.lemmas.Cmp.{nat_list_cmp_total}
use Rattle.std.proofs.lemmas.Grind.{common_steps}
use Rattle.std.proofs.lemmas.List.{take-append-le, take_more}
use Rattle.std.proofs.lemmas.Slice.Eq.{bytes_eq-Decides}
use Rattle.ks_base.specs.declared.trusts.TrustRow.{TrustRow}
use Rattle.ks_base.specs.Rows.{Id, same, trust_of}
use Rattle.ks_base.specs.Tables.{id_cmp, Among, IsAscending}
use Rattle.ks_base.specs.Trusts.{goes, lineage, parent_trust, trusts_gone, AreChained, IsClimb}
use Rattle.ks_base.proofs.AmongLemmas.{among_left, among_mapped, among_parts, among_push, among_right, get_among, has_id-Decides, map_among}
use Rattle.ks_base.proofs.ChainLemmas.{goes_down, goes_from, parent_among}
use Rattle.ks_base.proofs.OptionLemmas.{some_is}
use Rattle.ks_base.proofs.RowLemmas.{among_filter, among_found, filter_among, found_among, id_found}
use Rattle.ks_trust.specs.declared.sides.Reference.TheVariants as references
use Rattle.ks_trust.specs.Sides.{names}
use Rattle.ks_trust.specs.State.{ids_of, is_listed}
use Rattle.ks_trust.proofs.FoundTrusts.{ids_by, WithId}

abbrev key : TrustRow → Id
key row = row.id

-- how far the chains are followed: what is found goes, what is listed is found, and so is what names one of the first as its parent
pub record AreFollowed (trusts : List TrustRow) (ids found : List Id) (at : ℕ) : Type 0 where
  pub only : (id : Id) → Among found id → WithId trusts (goes trusts (is_listed ids)) id
  pub listed : (trust : TrustRow) → Among trusts trust → is_listed ids trust ≡ true → Among found trust.id
  pub below : (trust parent : TrustRow) → Among trusts trust → parent_trust trusts trust.parent ≡ Some parent → Among (take at found) parent.id → Among found trust.id

goes_itself : (trusts : List TrustRow) (ids : List Id) (trust : TrustRow) → is_listed ids trust ≡ true → goes trusts (is_listed ids) trust ≡ true
goes_itself trusts ids trust is = or_left (is_listed ids trust) (list_any (is_listed ids) (lineage trusts trust)) is

-- fronts of what is found

first_more : (found more : List Id) (at : ℕ) (id : Id) → at < length found → id ≡ get_or found at id → take (at + 1) (found ++ more) ≡ take at found ++ id ∷ []
first_more found more at id lt is = take-append-le (at + 1) found more (omega arith) ∙ take_more found at id lt ∙ ap (λ x. take at found ++ x ∷ []) (sym is)

whole_front : (found : List Id) (at : ℕ) → length found ≤ at → take at found ≡ found
whole_front found at past = grind (arith, common_steps)

abbrev names_parent : Id → Option Id → Bool
names_parent id parent = option_map_or (λ p. same p id) parent false

-- at first those that are listed

pub begins : (trusts : List TrustRow) (ids found : List Id) → IsAscending id_cmp key trusts → found ≡ filter (λ id. is_some (trust_of id trusts)) ids →
    AreFollowed trusts ids found 0
begins trusts ids found up is = record {
  only = λ id among. only id (subst (λ l. Among l id) is among);
  listed = λ trust stands named. subst (λ l. Among l trust.id) (sym is) (listed trust stands named);
  below = λ trust parent stands found none. absurd none;
}
  where
    stands_with : Id → Bool
    stands_with id = is_some (trust_of id trusts)

    only : (id : Id) → Among (filter stands_with ids) id → WithId trusts (goes trusts (is_listed ids)) id
    only id among =
        let both = among_filter stands_with ids id among in
        let one = some_is (trust_of id trusts) both.1 in
        let there = found_among id_cmp key id trusts one.0 one.1 in
        let id_is : (one.0).id ≡ id = id_found key id trusts one.0 one.1 in
        record {
          trust = one.0;
          stands = there.0;
          passes = goes_itself trusts ids one.0 ((has_id-Decides (one.0).id ids).1 (subst (Among ids) (sym id_is) both.0));
          id_is = id_is;
        }

    listed : (trust : TrustRow) → Among trusts trust → is_listed ids trust ≡ true → Among (filter stands_with ids) trust.id
    listed trust stands named =
        filter_among stands_with ids trust.id ((has_id-Decides trust.id ids).0 named) (ap is_some (among_found id_cmp key nat_list_cmp_total trusts trust up stands))

-- then those that name the next as their parent

found_parent : (trusts : List TrustRow) (id : Id) (parent : Option Id) (above : TrustRow) → parent_trust trusts parent ≡ Some above → above.id ≡ id →
    names_parent id parent ≡ true
found_parent trusts id None above found is = cc
found_parent trusts id (Some parent) above found is = (bytes_eq-Decides parent id).1 (sym (id_found key parent trusts above found) ∙ is)

parent_found : (trusts : List TrustRow) (parent : Option Id) (above : TrustRow) → IsAscending id_cmp key trusts → Among trusts above → names_parent above.id parent ≡ true →
    parent_trust trusts parent ≡ Some above
parent_found trusts None above up stands named = cc
parent_found trusts (Some parent) above up stands named =
    ap (λ id. trust_of id trusts) ((bytes_eq-Decides parent above.id).0 named) ∙ among_found id_cmp key nat_list_cmp_total trusts above up stands

pub goes_on : (trusts : List TrustRow) (ids found children after : List Id) (at : ℕ) (id : Id) → IsAscending id_cmp key trusts → AreChained trusts → at < length found →
    id ≡ get_or found at id → children ≡ ids_of (filter (names (references.Parent id)) trusts) → after ≡ found ++ children → AreFollowed trusts ids found at →
    AreFollowed trusts ids after (at + 1)
goes_on trusts ids found children after at id up all lt is are more so_far = subst (λ l. AreFollowed trusts ids l (at + 1)) (sym more) (record {
  only = λ other among. only other (among_parts found children other among);
  listed = λ trust stands named. among_left found children trust.id (so_far.listed trust stands named);
  below = λ trust parent stands above among. below trust parent stands above (among_push (take at found) id parent.id (subst (λ l. Among l parent.id) front among));
})
  where
    front : take (at + 1) (found ++ children) ≡ take at found ++ id ∷ []
    front = first_more found children at id lt is

    here : Among found id
    here = subst (Among found) (sym is) (get_among found at id lt)

    child : (other : Id) → Among (ids_of (filter (names (references.Parent id)) trusts)) other → WithId trusts (goes trusts (is_listed ids)) other
    child other among =
        let one = among_mapped key (filter (names (references.Parent id)) trusts) other among in
        let both = among_filter (names (references.Parent id)) trusts one.0 one.1 in
        let above = so_far.only id here in
        let named : names_parent above.trust.id (one.0).parent ≡ true = subst (λ k. names_parent k (one.0).parent ≡ true) (sym above.id_is) both.1 in
        let found_above = parent_found trusts (one.0).parent above.trust up above.stands named in
        record {
          trust = one.0;
          stands = both.0;
          passes = goes_down trusts (is_listed ids) one.0 above.trust all both.0 found_above above.passes;
          id_is = one.2;
        }

    only : (other : Id) → Among found other ⊎ Among children other → WithId trusts (goes trusts (is_listed ids)) other
    only other (inl among) = so_far.only other among
    only other (inr among) = child other (subst (λ l. Among l other) are among)

    below : (trust parent : TrustRow) → Among trusts trust → parent_trust trusts trust.parent ≡ Some parent → Among (take at found) parent.id ⊎ (id ≡ parent.id) →
        Among (found ++ children) trust.id
    below trust parent stands above (inl among) = among_left found children trust.id (so_far.below trust parent stands above among)
    below trust parent stands above (inr same) =
        among_right found children trust.id
        (subst (λ l. Among l trust.id) (sym are)
        (map_among key (filter (names (references.Parent id)) trusts) trust
        (filter_among (names (references.Parent id)) trusts trust stands (found_parent trusts id trust.parent parent above (sym same)))))

-- and at the end all that go

reached : (trusts : List TrustRow) (ids found : List Id) (top : TrustRow) (climb : List TrustRow) (trust : TrustRow) →
    ((t : TrustRow) → Among trusts t → is_listed ids t ≡ true → Among found t.id) →
    ((t parent : TrustRow) → Among trusts t → parent_trust trusts t.parent ≡ Some parent → Among found parent.id → Among found t.id) →
    Among trusts trust → IsClimb trusts trust climb top → is_listed ids top ≡ true → Among found trust.id
reached trusts ids found top [] trust listed below stands climb is = listed trust stands (ap (is_listed ids) climb ∙ is)
reached trusts ids found top (parent ∷ climb) trust listed below stands (above, rest) is =
    below trust parent stands above (reached trusts ids found top climb parent listed below (parent_among trusts trust.parent parent above) rest is)

pub ends : (trusts : List TrustRow) (ids found sorted : List Id) (at : ℕ) → IsAscending id_cmp key trusts → AreChained trusts → length found ≤ at → AreFollowed trusts ids found at →
    IsAscending id_cmp (λ id. id) sorted → ((id : Id) → Among sorted id ↔ Among found id) → sorted ≡ ids_of (trusts_gone trusts (is_listed ids))
ends trusts ids found sorted at up all past followed ascend same =
    ids_by (goes trusts (is_listed ids)) trusts sorted up ascend (λ trust stands passes. (same trust.id).1 (each trust stands passes)) (λ id among. followed.only id ((same id).0 among))
  where
    whole : take at found ≡ found
    whole = whole_front found at past

    each : (trust : TrustRow) → Among trusts trust → goes trusts (is_listed ids) trust ≡ true → Among found trust.id
    each trust stands passes =
        let touched = (goes_from trusts (is_listed ids) trust all (all trust stands)).0 passes in
        reached trusts ids found touched.0 touched.1.0 trust followed.listed
        (λ t parent there above among. followed.below t parent there above (subst (λ l. Among l parent.id) (sym whole) among)) stands touched.1.1 touched.2
