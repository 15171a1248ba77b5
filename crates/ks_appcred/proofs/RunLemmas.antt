-- The rows of a home stand side by side among the names.
use Rattle.std.proofs.Common.{◌≡◌, ℕ, List, map, ap, ◌∙◌}
use Rattle.std.specs.List.{filter}
use Rattle.std.specs.declared.cmp.Ordering.{Ordering}
use Rattle.std.specs.Ordering.{is_eq}
use Rattle.std.proofs.lemmas.Cmp.{nat_list_cmp_total}
use Rattle.ks_index.proofs.RunLemmas.{ascending_themselves}
use Rattle.ks_appcred.proofs.MappedLemmas.{ascending_unmapped, filter_mapped}
use Rattle.ks_appcred.specs.Orders.{name_of}
use Rattle.ks_index.specs.Indexes.{name_cmp}
use Rattle.ks_base.specs.OrderLaws.{first_part, keyed_run}
use Rattle.ks_base.specs.Rows.{same}
use Rattle.ks_base.specs.Runs.{IsRun}
use Rattle.ks_base.specs.Tables.{IsAscending, id_cmp}
use Rattle.ks_base.proofs.ListLemmas.{filter_alike}
use Rattle.ks_base.proofs.RowLemmas.{id_same}

-- shared rows by home and name
abbrev pub shared_cmp : {A R : Type 0} → (A → R) → (R → List ℕ) → (R → List ℕ) → A → A → Ordering
shared_cmp value home naming a b = name_cmp (name_of home naming (value a)) (name_of home naming (value b))

pub shared_ascend : {A R : Type 0} (value : A → R) (home naming : R → List ℕ) (names : List A) → IsAscending name_cmp (name_of home naming) (map value names) →
    IsAscending (shared_cmp value home naming) (λ a. a) names
shared_ascend value home naming names up =
    ascending_themselves name_cmp (λ a. name_of home naming (value a)) names (ascending_unmapped name_cmp (name_of home naming) value names up)

pub home_run : {A R : Type 0} (value : A → R) (home naming : R → List ℕ) (wanted : List ℕ) → IsRun (shared_cmp value home naming) (λ a. id_cmp (home (value a)) wanted)
home_run {A} value home naming =
    keyed_run id_cmp (λ (a : A). home (value a)) (shared_cmp value home naming) nat_list_cmp_total
    (λ a b less. first_part (id_cmp (home (value a)) (home (value b))) (id_cmp (naming (value a)) (naming (value b))) less)

-- those of the run are the rows of the home
pub run_mapped : {A R : Type 0} (value : A → R) (home : R → List ℕ) (wanted : List ℕ) (names : List A) →
    map value (filter (λ a. is_eq (id_cmp (home (value a)) wanted)) names) ≡ filter (λ row. same (home row) wanted) (map value names)
run_mapped value home wanted names =
    ap (map value) (filter_alike (λ a. is_eq (id_cmp (home (value a)) wanted)) (λ a. same (home (value a)) wanted) names (λ a among. id_same (home (value a)) wanted))
    ∙ filter_mapped value (λ row. same (home row) wanted) names
