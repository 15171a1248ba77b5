-- Rows that ascend by two ids: those with one of the two ascend by the other.
use Rattle.std.proofs.Common.{◌≡◌, ℕ, true, ◌&&◌, List, map, filter, refl, sym, ap, ◌∙◌}
use Rattle.std.specs.declared.cmp.Ordering.{Ordering}
use Rattle.std.specs.declared.cmp.Ordering.TheVariants.{Less, Equal, Greater}
use Rattle.std.specs.Ordering.{is_eq, ordering_then, then_cmp, on}
use Rattle.std.specs.Str.{bytes_eq}
use Rattle.std.proofs.lemmas.Cmp.{tied_itself, nat_list_cmp_total}
use Rattle.std.proofs.lemmas.Slice.Eq.{bytes_eq-Decides}
use Rattle.ks_base.specs.Tables.{id_cmp, IsAscending}
use Rattle.ks_base.proofs.TableLemmas.{ascending_part}

pub then_both : (first second : Ordering) → is_eq (ordering_then first second) ≡ (is_eq first && is_eq second)
then_both Less second = refl
then_both Equal second = refl
then_both Greater second = refl

tied : (id a b : List ℕ) → bytes_eq a id ≡ true → bytes_eq b id ≡ true → id_cmp a b ≡ Equal
tied id a b is also = rw ((bytes_eq-Decides a id).0 is, (bytes_eq-Decides b id).0 also) (tied_itself nat_list_cmp_total id)

first_less : (first second : Ordering) → second ≡ Equal → ordering_then first second ≡ Less → first ≡ Less
first_less Less second same less = refl
first_less Equal second same less = sym same ∙ less
first_less Greater second same less = less

second_less : (first second : Ordering) → first ≡ Equal → ordering_then first second ≡ Less → second ≡ Less
second_less first second same less = ap (λ o. ordering_then o second) (sym same) ∙ less

pub first_ascends : {X : Type 0} (first second : X → List ℕ) (id : List ℕ) (rows : List X) →
    IsAscending (then_cmp (on first id_cmp) (on second id_cmp)) (λ row. row) rows →
    IsAscending id_cmp (λ id. id) (map first (filter (λ row. bytes_eq (second row) id) rows))
first_ascends first second id rows up =
    ascending_part (then_cmp (on first id_cmp) (on second id_cmp)) (λ row. row) id_cmp first (λ row. bytes_eq (second row) id) rows
    (λ a b is also less. first_less (id_cmp (first a) (first b)) (id_cmp (second a) (second b)) (tied id (second a) (second b) is also) less) up

pub second_ascends : {X : Type 0} (first second : X → List ℕ) (id : List ℕ) (rows : List X) →
    IsAscending (then_cmp (on first id_cmp) (on second id_cmp)) (λ row. row) rows →
    IsAscending id_cmp (λ id. id) (map second (filter (λ row. bytes_eq (first row) id) rows))
second_ascends first second id rows up =
    ascending_part (then_cmp (on first id_cmp) (on second id_cmp)) (λ row. row) id_cmp second (λ row. bytes_eq (first row) id) rows
    (λ a b is also less. second_less (id_cmp (first a) (first b)) (id_cmp (second a) (second b)) (tied id (first a) (first b) is also) less) up
