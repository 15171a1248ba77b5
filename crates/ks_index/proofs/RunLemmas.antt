-- The rows of a name stand side by side in the index.
use Rattle.std.proofs.Common.{◌≡◌, ◌⊎◌, inl, inr, ℕ, ◌<◌, Bool, true, List, [], ◌∷◌, length, get_or, map, refl, ap, subst, ◌∙◌}
use Rattle.std.specs.Prelude.{◌↔◌}
use Rattle.std.specs.List.{filter}
use Rattle.std.specs.declared.cmp.Ordering.{Ordering}
use Rattle.std.specs.declared.cmp.Ordering.TheVariants.{Less, Equal, Greater}
use Rattle.std.specs.Ordering.{is_eq, ordering_then}
use Rattle.std.proofs.lemmas.Cmp.{nat_list_cmp_total}
use Rattle.ks_base.specs.OrderLaws.{first_of_three, keyed_run}
use Rattle.ks_base.specs.Rows.{Id, same}
use Rattle.ks_base.specs.Runs.{IsRun}
use Rattle.ks_base.specs.Tables.{AreAbove, Among, IsAscending, id_cmp}
use Rattle.ks_base.proofs.AmongLemmas.{all_among, among_mapped, get_among, map_among}
use Rattle.ks_base.proofs.LinkLemmas.{ascending_same}
use Rattle.ks_base.proofs.ListLemmas.{filter_alike}
use Rattle.ks_base.proofs.RowLemmas.{among_filter, filter_among, id_same}
use Rattle.ks_base.proofs.TableLemmas.{some_ids_ascend}
use Rattle.ks_index.specs.Indexes.{AreListed, IsIndex, full_cmp, full_name}
use Rattle.ks_index.proofs.NameLemmas.{among_get}

-- items by the order of their keys, as their own keys
above_themselves : {X K : Type 0} (cmp : K → K → Ordering) (key : X → K) (low : X) (xs : List X) → AreAbove cmp key (key low) xs →
    AreAbove (λ a b. cmp (key a) (key b)) (λ x. x) low xs
above_themselves cmp key low [] above = tt
above_themselves cmp key low (x ∷ xs) above = (above.0, above_themselves cmp key low xs above.1)

pub ascending_themselves : {X K : Type 0} (cmp : K → K → Ordering) (key : X → K) (xs : List X) → IsAscending cmp key xs →
    IsAscending (λ a b. cmp (key a) (key b)) (λ x. x) xs
ascending_themselves cmp key [] up = tt
ascending_themselves cmp key (x ∷ xs) up = (above_themselves cmp key x xs up.0, ascending_themselves cmp key xs up.1)

-- places by the rows there; the other stands for those that are no place
abbrev pub places_cmp : {R : Type 0} → (R → List ℕ) → (R → List ℕ) → (R → List ℕ) → List R → R → ℕ → ℕ → Ordering
places_cmp home naming key rows other p q = full_cmp (full_name home naming key (get_or rows p other)) (full_name home naming key (get_or rows q other))

pub places_ascend : {R : Type 0} (home naming key : R → List ℕ) (rows : List R) (other : R) (places : List ℕ) →
    IsAscending full_cmp (λ p. full_name home naming key (get_or rows p other)) places → IsAscending (places_cmp home naming key rows other) (λ p. p) places
places_ascend home naming key rows other places up = ascending_themselves full_cmp (λ (p : ℕ). full_name home naming key (get_or rows p other)) places up

pub name_run : {R : Type 0} (home naming key : R → List ℕ) (rows : List R) (other : R) (name : List ℕ) →
    IsRun (places_cmp home naming key rows other) (λ p. id_cmp (naming (get_or rows p other)) name)
name_run home naming key rows other =
    keyed_run id_cmp (λ (p : ℕ). naming (get_or rows p other)) (places_cmp home naming key rows other) nat_list_cmp_total
    (λ p q less. first_of_three (id_cmp (naming (get_or rows p other)) (naming (get_or rows q other))) (id_cmp (home (get_or rows p other)) (home (get_or rows q other)))
    (id_cmp (key (get_or rows p other)) (key (get_or rows q other))) less)

-- those of the run are the places of the name
pub run_places : {R : Type 0} (naming : R → List ℕ) (rows : List R) (other : R) (name : List ℕ) (places : List ℕ) →
    filter (λ p. is_eq (id_cmp (naming (get_or rows p other)) name)) places ≡ filter (λ p. same (naming (get_or rows p other)) name) places
run_places naming rows other name places =
    filter_alike (λ p. is_eq (id_cmp (naming (get_or rows p other)) name)) (λ p. same (naming (get_or rows p other)) name) places
    (λ p among. id_same (naming (get_or rows p other)) name)

-- ids that ascend, and are those at the places whose rows pass, are those of the rows that pass, in their order
pub ids_of_places : {K R : Type 0} (cmp : K → K → Ordering) (full : R → K) (key : R → Id) (test : R → Bool) (rows listed : List R) (places : List ℕ) (other : R) (ids : List Id) →
    IsIndex cmp full rows places → AreListed key rows listed → IsAscending id_cmp (λ id. id) ids →
    ((id : Id) → Among ids id ↔ Among (map (λ p. key (get_or rows p other)) (filter (λ p. test (get_or rows p other)) places)) id) →
    ids ≡ map key (filter test listed)
ids_of_places {K} {R} cmp full key test rows listed places other ids index list above alike =
    ascending_same id_cmp nat_list_cmp_total ids (map key (filter test listed)) above (some_ids_ascend key test listed list.up)
    (λ id among. onto id ((alike id).0 among)) (λ id among. (alike id).1 (from id among))
  where
    passes : ℕ → Bool
    passes p = test (get_or rows p other)

    id_at : ℕ → Id
    id_at p = key (get_or rows p other)

    onto : (id : Id) → Among (map id_at (filter passes places)) id → Among (map key (filter test listed)) id
    onto id among =
        let one = among_mapped id_at (filter passes places) id among in
        let both = among_filter passes places one.0 one.1 in
        let here = list.forth (get_or rows one.0 other) (get_among rows one.0 other (all_among (λ p. p < length rows) places one.0 index.within both.0)) in
        subst (Among (map key (filter test listed))) one.2 (map_among key (filter test listed) (get_or rows one.0 other) (filter_among test listed (get_or rows one.0 other) here both.1))

    from : (id : Id) → Among (map key (filter test listed)) id → Among (map id_at (filter passes places)) id
    from id among =
        let one = among_mapped key (filter test listed) id among in
        let both = among_filter test listed one.0 one.1 in
        let place = among_get rows one.0 other (list.back one.0 both.0) in
        let pass : passes place.0 ≡ true = ap test place.2 ∙ both.1 in
        subst (Among (map id_at (filter passes places))) (ap key place.2 ∙ one.2)
        (map_among id_at (filter passes places) place.0 (filter_among passes places place.0 (index.all place.0 place.1) pass))
