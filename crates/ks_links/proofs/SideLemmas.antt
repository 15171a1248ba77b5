-- Rows that go by a run of their second order.
use Rattle.std.proofs.Common.{◌≡◌, Bool, not, List, [], ◌∷◌, ap, sym, subst}
use Rattle.std.specs.declared.cmp.Ordering.{Ordering}
use Rattle.std.specs.Cmp.{IsTotalOrder}
use Rattle.std.specs.List.{filter}
use Rattle.ks_base.specs.Links.{AreLinked}
use Rattle.ks_base.specs.Tables.{Among, IsAscending, drop_row}
use Rattle.ks_base.proofs.LinkLemmas.{IsExact, ascending_same, linked_filter, linked_without, without_sides}
use Rattle.ks_base.proofs.ListLemmas.{filter_alike}
use Rattle.ks_base.proofs.RowLemmas.{among_filter, filter_among}
use Rattle.ks_base.proofs.TableLemmas.{ascending_drop, ascending_filter}

-- what is linked is linked from the other side
linked_back : {A B : Type 0} (seen : A → B) (row_of : B → A) → ((b : B) → seen (row_of b) ≡ b) → (rows : List A) (sides : List B) → AreLinked seen rows sides →
    AreLinked row_of sides rows
linked_back seen row_of again rows sides linked = record {
  forth = λ side among. linked.back (row_of side) (subst (Among sides) (sym (again side)) among);
  back = λ side among. subst (Among sides) (again side) (linked.forth (row_of side) among);
}

-- rows and sides by a test of sides
pub linked_passing : {A B : Type 0} (seen : A → B) (row_of : B → A) → ((a : A) → row_of (seen a) ≡ a) → ((b : B) → seen (row_of b) ≡ b) → (test : B → Bool) (rows : List A)
    (sides : List B) → AreLinked seen rows sides → AreLinked seen (filter (λ row. test (seen row)) rows) (filter test sides)
linked_passing seen row_of returns again test rows sides linked =
    subst (AreLinked seen (filter (λ row. test (seen row)) rows)) (filter_alike (λ side. test (seen (row_of side))) test sides (λ side among. ap test (again side)))
    (linked_filter seen row_of returns (λ row. test (seen row)) rows sides linked)

pub linked_across : {A B : Type 0} (less : A → A → Ordering) (seen : A → B) (row_of : B → A) → IsExact less → IsTotalOrder less → ((a : A) → row_of (seen a) ≡ a) →
    ((b : B) → seen (row_of b) ≡ b) → (test : B → Bool) (rows : List A) (sides : List B) → AreLinked seen rows sides →
    AreLinked seen (without_sides less row_of rows (filter test sides)) (filter (λ side. not (test side)) sides)
linked_across less seen row_of exact o returns again test rows sides linked =
    linked_back row_of seen returns (filter (λ side. not (test side)) sides) (without_sides less row_of rows (filter test sides))
    (linked_without less row_of seen exact o again test sides rows (linked_back seen row_of again rows sides linked))

ascending_without : {A B : Type 0} (less : A → A → Ordering) (row_of : B → A) (gone : List B) (rows : List A) → IsAscending less (λ row. row) rows →
    IsAscending less (λ row. row) (without_sides less row_of rows gone)
ascending_without less row_of [] rows up = up
ascending_without less row_of (side ∷ gone) rows up =
    ascending_without less row_of gone (drop_row less (λ row. row) (row_of side) rows) (ascending_drop less (λ row. row) (row_of side) rows up)

-- the rows go whose sides go
pub rows_across : {A B : Type 0} (less : A → A → Ordering) (seen : A → B) (row_of : B → A) → IsExact less → IsTotalOrder less → ((a : A) → row_of (seen a) ≡ a) →
    ((b : B) → seen (row_of b) ≡ b) → (test : B → Bool) (rows : List A) (sides : List B) → IsAscending less (λ row. row) rows → AreLinked seen rows sides →
    without_sides less row_of rows (filter test sides) ≡ filter (λ row. not (test (seen row))) rows
rows_across {A} {B} less seen row_of exact o returns again test rows sides up linked =
    ascending_same less o (without_sides less row_of rows (filter test sides)) (filter (λ row. not (test (seen row))) rows)
    (ascending_without less row_of (filter test sides) rows up) (ascending_filter less (λ row. row) (λ row. not (test (seen row))) rows up) forth back
  where
    left : AreLinked seen (without_sides less row_of rows (filter test sides)) (filter (λ side. not (test side)) sides)
    left = linked_across less seen row_of exact o returns again test rows sides linked

    forth : (row : A) → Among (without_sides less row_of rows (filter test sides)) row → Among (filter (λ row. not (test (seen row))) rows) row
    forth row among =
        let both = among_filter (λ side. not (test side)) sides (seen row) (left.forth row among) in
        filter_among (λ row. not (test (seen row))) rows row (linked.back row both.0) both.1

    back : (row : A) → Among (filter (λ row. not (test (seen row))) rows) row → Among (without_sides less row_of rows (filter test sides)) row
    back row among =
        let both = among_filter (λ row. not (test (seen row))) rows row among in
        left.back row (filter_among (λ side. not (test side)) sides (seen row) (linked.forth row both.0) both.1)
