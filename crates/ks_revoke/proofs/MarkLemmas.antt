-- What becomes of the greatest moments with an event more, and with events that are past.
use Rattle.std.proofs.Common.{◌≡◌, ℕ, ◌≤◌, Bool, true, false, ◌⊎◌, inl, inr, List, [], ◌∷◌, ◌++◌, filter, refl, sym, ap, ◌∙◌, subst, arith}
use Rattle.std.specs.List.{AllByRecursion}
use Rattle.std.specs.Ordering.{is_eq}
use Rattle.std.proofs.lemmas.Cmp.{tied_itself}
use Rattle.ks_base.specs.declared.events.Revoke.{Revoke}
use Rattle.ks_base.specs.declared.events.EventRow.{EventRow}
use Rattle.ks_base.specs.Revocation.{is_live, live}
use Rattle.ks_base.specs.Tables.{Among, put_row}
use Rattle.ks_base.proofs.TableLemmas.{ascending_put, ascending_filter}
use Rattle.ks_base.proofs.RowLemmas.{among_put, put_among, among_put_other, same_row, among_filter, filter_among}
use Rattle.ks_base.proofs.AmongLemmas.{all_among, among_all, among_push}
use Rattle.ks_revoke.specs.Things.{thing_cmp, thing_of}
use Rattle.ks_revoke.specs.Marks.{IsGreatest, AreMarks}
use Rattle.ks_revoke.specs.Holding.{AreInOrder}
use Rattle.ks_revoke.proofs.RowsLemmas.{push_among, push_last}
use Rattle.ks_revoke.proofs.ThingLemmas.{thing_total, alike}
use Rattle.ks_revoke.proofs.LiveLemmas.{in_order_at, live_is, past_is}

-- no event of the row's thing has a greater moment
abbrev pub IsUpper : EventRow → EventRow → Type 0
IsUpper row event = event.what ≡ row.what → event.moment ≤ row.moment

same_event : (a b : EventRow) → a.what ≡ b.what → a.moment ≡ b.moment → a ≡ b
same_event a b what moment = λ i. record { what = what i; moment = moment i }

itself : (thing : Revoke) → is_eq (thing_cmp thing thing) ≡ true
itself thing = ap is_eq (tied_itself thing_total thing)

-- a thing that compares otherwise is another
pub unlike : (a b : Revoke) → is_eq (thing_cmp a b) ≡ false → b ≡ a → ⊥
unlike a b other same =
    let equal : is_eq (thing_cmp a b) ≡ true = subst (λ (thing : Revoke). is_eq (thing_cmp a thing) ≡ true) (sym same) (itself a) in
    cc

row_upper : (high : ℕ) (events : List EventRow) (row event : EventRow) → AreInOrder high events → row.moment ≡ high →
    Among events event ⊎ (row ≡ event) → event.moment ≤ row.moment
row_upper high events row event order now (inl old) = omega (arith, in_order_at high events event order old)
row_upper high events row event order now (inr same) = let moment : row.moment ≡ event.moment = ap (λ (x : EventRow). x.moment) same in omega arith

-- the newest event is the greatest of its thing
row_greatest : (high : ℕ) (events : List EventRow) (row : EventRow) → AreInOrder high events → row.moment ≡ high → IsGreatest (events ++ row ∷ []) row
row_greatest high events row order now =
    (push_last events row, among_all (IsUpper row) (events ++ row ∷ []) (λ event among same. row_upper high events row event order now (among_push events row event among)))

-- for other things it changes nothing
older_upper : (events : List EventRow) (row x event : EventRow) → is_eq (thing_cmp x.what row.what) ≡ false → AllByRecursion (IsUpper x) events →
    Among events event ⊎ (row ≡ event) → IsUpper x event
older_upper events row x event other all (inl old) = all_among (IsUpper x) events event all old
older_upper events row x event other all (inr same) =
    λ what. absurd (unlike x.what row.what other (ap (λ (e : EventRow). e.what) same ∙ what))

older_greatest : (events : List EventRow) (row x : EventRow) → is_eq (thing_cmp x.what row.what) ≡ false → IsGreatest events x → IsGreatest (events ++ row ∷ []) x
older_greatest events row x other greatest = (
  push_among events row x greatest.0,
  among_all (IsUpper x) (events ++ row ∷ [])
      (λ event among. older_upper events row x event other greatest.1 (among_push events row event among)),
)

older_among : (events : List EventRow) (row x : EventRow) → is_eq (thing_cmp x.what row.what) ≡ false → Among events x ⊎ (row ≡ x) → Among events x
older_among events row x other (inl old) = old
older_among events row x other (inr same) = absurd (unlike x.what row.what other (ap (λ (e : EventRow). e.what) same))

greatest_before : (events : List EventRow) (row x : EventRow) → is_eq (thing_cmp x.what row.what) ≡ false → IsGreatest (events ++ row ∷ []) x → IsGreatest events x
greatest_before events row x other greatest = (
  older_among events row x other (among_push events row x greatest.0),
  among_all (IsUpper x) events
      (λ event among. all_among (IsUpper x) (events ++ row ∷ []) event greatest.1 (push_among events row event among)),
)

-- so a row is put in the place of its thing
marked_by : (high : ℕ) (events marks : List EventRow) (row x : EventRow) (b : Bool) → is_eq (thing_cmp x.what row.what) ≡ b →
    AreInOrder high events → row.moment ≡ high → AreMarks events marks → Among (put_row thing_cmp thing_of row marks) x → IsGreatest (events ++ row ∷ []) x
marked_by high events marks row x true is order now are among =
    let up = ascending_put thing_cmp thing_of thing_total row marks are.ascending in
    let same = same_row thing_cmp thing_of thing_total (put_row thing_cmp thing_of row marks) row x up (put_among thing_cmp thing_of row marks) among (sym (alike x.what row.what is)) in
    subst (IsGreatest (events ++ row ∷ [])) same (row_greatest high events row order now)
marked_by high events marks row x false is order now are among = into (among_put thing_cmp thing_of row marks x among)
  where
    into : (row ≡ x) ⊎ Among marks x → IsGreatest (events ++ row ∷ []) x
    into (inl same) = absurd (unlike x.what row.what is (ap (λ (e : EventRow). e.what) same))
    into (inr old) = older_greatest events row x is ((are.greatest x).0 old)

greatest_by : (high : ℕ) (events marks : List EventRow) (row x : EventRow) (b : Bool) → is_eq (thing_cmp x.what row.what) ≡ b →
    AreInOrder high events → row.moment ≡ high → AreMarks events marks → IsGreatest (events ++ row ∷ []) x → Among (put_row thing_cmp thing_of row marks) x
greatest_by high events marks row x true is order now are greatest =
    let what : row.what ≡ x.what = sym (alike x.what row.what is) in
    let least : row.moment ≤ x.moment = all_among (IsUpper x) (events ++ row ∷ []) row greatest.1 (push_last events row) what in
    let most : x.moment ≤ row.moment = row_upper high events row x order now (among_push events row x greatest.0) in
    subst (Among (put_row thing_cmp thing_of row marks)) (same_event row x what (omega arith)) (put_among thing_cmp thing_of row marks)
greatest_by high events marks row x false is order now are greatest =
    among_put_other thing_cmp thing_of row marks x is ((are.greatest x).1 (greatest_before events row x is greatest))

pub marks_added : (high : ℕ) (events marks : List EventRow) (row : EventRow) → AreInOrder high events → row.moment ≡ high → AreMarks events marks →
    AreMarks (events ++ row ∷ []) (put_row thing_cmp thing_of row marks)
marks_added high events marks row order now are = record {
  ascending = ascending_put thing_cmp thing_of thing_total row marks are.ascending;
  greatest = λ x. (
    marked_by high events marks row x (is_eq (thing_cmp x.what row.what)) refl order now are,
    greatest_by high events marks row x (is_eq (thing_cmp x.what row.what)) refl order now are,
  );
}

-- what is past has no greater moment than what is live
upper_by : (life high : ℕ) (events : List EventRow) (x event : EventRow) (b : Bool) → is_live life high event ≡ b → is_live life high x ≡ true →
    AllByRecursion (IsUpper x) (live life high events) → Among events event → IsUpper x event
upper_by life high events x event true is lives all among =
    all_among (IsUpper x) (live life high events) event all (filter_among (is_live life high) events event among is)
upper_by life high events x event false is lives all among =
    λ same. omega (arith, past_is life high event is, live_is life high x lives)

live_marked : (life high : ℕ) (events marks : List EventRow) (x : EventRow) → AreMarks events marks →
    Among (filter (is_live life high) marks) x → IsGreatest (live life high events) x
live_marked life high events marks x are among =
    let mark = among_filter (is_live life high) marks x among in
    let greatest = (are.greatest x).0 mark.0 in (
      filter_among (is_live life high) events x greatest.0 mark.1,
      among_all (IsUpper x) (live life high events)
          (λ event still. all_among (IsUpper x) events event greatest.1 (among_filter (is_live life high) events event still).0),
    )

live_greatest : (life high : ℕ) (events marks : List EventRow) (x : EventRow) → AreMarks events marks →
    IsGreatest (live life high events) x → Among (filter (is_live life high) marks) x
live_greatest life high events marks x are greatest =
    let event = among_filter (is_live life high) events x greatest.0 in
    let all = among_all (IsUpper x) events
    (λ other among. upper_by life high events x other (is_live life high other) refl event.1 greatest.1 among) in
    filter_among (is_live life high) marks x ((are.greatest x).1 (event.0, all)) event.1

-- and the rows of what is past are left out
pub marks_live : (life high : ℕ) (events marks : List EventRow) → AreMarks events marks → AreMarks (live life high events) (filter (is_live life high) marks)
marks_live life high events marks are = record {
  ascending = ascending_filter thing_cmp thing_of (is_live life high) marks are.ascending;
  greatest = λ x. (live_marked life high events marks x are, live_greatest life high events marks x are);
}
