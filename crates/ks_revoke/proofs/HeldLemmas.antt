-- What each call leaves of the fields, and of the history for which they stand.
use Rattle.std.proofs.Common.{◌≡◌, ℕ, ◌+◌, ◌<◌, ◌≤◌, Bool, true, false, cond, ◌⊎◌, inl, inr, max, List, [], ◌∷◌, ◌++◌, length, filter, refl, sym, ap, ◌∙◌, subst, arith, length-append}
use Rattle.std.specs.Ordering.{is_eq}
use Rattle.ks_base.specs.declared.limits.TheConstants.{EVENTS}
use Rattle.ks_base.specs.declared.events.EventRow.{EventRow}
use Rattle.ks_base.specs.declared.events.Holder.{Holder}
use Rattle.ks_base.specs.Revocation.{is_live, live, is_revoked, window}
use Rattle.ks_base.specs.Tables.{Among, IsAscending, put_row}
use Rattle.ks_base.proofs.TableLemmas.{ascending_put, ascending_filter}
use Rattle.ks_base.proofs.RowLemmas.{among_put, put_among, among_put_other, same_row, among_filter, filter_among}
use Rattle.ks_base.proofs.AmongLemmas.{all_among, among_all}
use Rattle.ks_base.proofs.ListLemmas.{length_filter}
use Rattle.ks_revoke.specs.Things.{thing_cmp, thing_of}
use Rattle.ks_revoke.specs.Marks.{AreMarks}
use Rattle.ks_revoke.specs.Histories.{AreFew, Kept, History, Stands, advanced}
use Rattle.ks_revoke.specs.Holding.{AreInOrder, IsHeld}
use Rattle.ks_revoke.proofs.ThingLemmas.{thing_total, alike}
use Rattle.ks_revoke.proofs.LiveLemmas.{is_live_from, in_order_later, in_order_push, live_push, live_again}
use Rattle.ks_revoke.proofs.MarkLemmas.{marks_added, marks_live}
use Rattle.ks_revoke.proofs.TestLemmas.{live_suffice}
use Rattle.ks_revoke.proofs.LawLemmas.{rows_same}
use Rattle.ks_revoke.proofs.RowsLemmas.{ascending_few, put_few}

-- leaving events out keeps their order, and makes no more of them
in_order_filter_by : (test : EventRow → Bool) (high : ℕ) (event : EventRow) (events : List EventRow) (b : Bool) → AreInOrder high (event ∷ events) →
    AreInOrder high (filter test events) → AreInOrder high (cond b (event ∷ filter test events) (filter test events))
in_order_filter_by test high event events true order rest = (
  order.0,
  among_all (λ later. event.moment ≤ later.moment) (filter test events)
      (λ later among. all_among (λ x. event.moment ≤ x.moment) events later order.1 (among_filter test events later among).0),
  rest,
)
in_order_filter_by test high event events false order rest = rest

in_order_filter : (test : EventRow → Bool) (high : ℕ) (events : List EventRow) → AreInOrder high events → AreInOrder high (filter test events)
in_order_filter test high [] order = tt
in_order_filter test high (event ∷ events) order = in_order_filter_by test high event events (test event) order (in_order_filter test high events order.2)

-- a row of a table into which another was put is that other, or stood there for another thing
put_is : (row x : EventRow) (marks : List EventRow) (b : Bool) → is_eq (thing_cmp x.what row.what) ≡ b → IsAscending thing_cmp thing_of marks →
    Among (put_row thing_cmp thing_of row marks) x → (row ≡ x) ⊎ (Among marks x × (is_eq (thing_cmp x.what row.what) ≡ false))
put_is row x marks true is up among =
    let ascending = ascending_put thing_cmp thing_of thing_total row marks up in
    inl (same_row thing_cmp thing_of thing_total (put_row thing_cmp thing_of row marks) row x ascending (put_among thing_cmp thing_of row marks) among (sym (alike x.what row.what is)))
put_is row x marks false is up among = by (among_put thing_cmp thing_of row marks x among)
  where
    by : (row ≡ x) ⊎ Among marks x → (row ≡ x) ⊎ (Among marks x × (is_eq (thing_cmp x.what row.what) ≡ false))
    by (inl same) = inl same
    by (inr old) = inr (old, is)

put_left : (test : EventRow → Bool) (row x : EventRow) (marks : List EventRow) → test x ≡ true →
    (row ≡ x) ⊎ (Among marks x × (is_eq (thing_cmp x.what row.what) ≡ false)) → Among (put_row thing_cmp thing_of row (filter test marks)) x
put_left test row x marks passes (inl same) =
    subst (Among (put_row thing_cmp thing_of row (filter test marks))) same (put_among thing_cmp thing_of row (filter test marks))
put_left test row x marks passes (inr (old, other)) =
    among_put_other thing_cmp thing_of row (filter test marks) x other (filter_among test marks x old passes)

left_put : (test : EventRow → Bool) (row x : EventRow) (marks : List EventRow) → test row ≡ true →
    (row ≡ x) ⊎ (Among (filter test marks) x × (is_eq (thing_cmp x.what row.what) ≡ false)) → Among (filter test (put_row thing_cmp thing_of row marks)) x
left_put test row x marks passes (inl same) =
    subst (Among (filter test (put_row thing_cmp thing_of row marks))) same
    (filter_among test (put_row thing_cmp thing_of row marks) row (put_among thing_cmp thing_of row marks) passes)
left_put test row x marks passes (inr (old, other)) =
    let mark = among_filter test marks x old in
    filter_among test (put_row thing_cmp thing_of row marks) x (among_put_other thing_cmp thing_of row marks x other mark.0) mark.1

-- a row that passes may be put before the others are left out or after
filter_put : (test : EventRow → Bool) (row : EventRow) (marks : List EventRow) → test row ≡ true → IsAscending thing_cmp thing_of marks →
    filter test (put_row thing_cmp thing_of row marks) ≡ put_row thing_cmp thing_of row (filter test marks)
filter_put test row marks passes up =
    let left = ascending_filter thing_cmp thing_of test marks up in
    rows_same thing_cmp thing_of thing_total (filter test (put_row thing_cmp thing_of row marks)) (put_row thing_cmp thing_of row (filter test marks))
    (ascending_filter thing_cmp thing_of test (put_row thing_cmp thing_of row marks) (ascending_put thing_cmp thing_of thing_total row marks up))
    (ascending_put thing_cmp thing_of thing_total row (filter test marks) left)
    (λ x among. let found = among_filter test (put_row thing_cmp thing_of row marks) x among in
    put_left test row x marks found.1 (put_is row x marks (is_eq (thing_cmp x.what row.what)) refl up found.0))
    (λ x among. left_put test row x marks passes (put_is row x (filter test marks) (is_eq (thing_cmp x.what row.what)) refl left among))

pub held_added : (life high : ℕ) (events marks : List EventRow) (row : EventRow) → IsHeld life high events marks → row.moment ≡ high → length events < EVENTS →
    IsHeld life high (events ++ row ∷ []) (put_row thing_cmp thing_of row marks)
held_added life high events marks row held now within =
    let own : is_live life high row ≡ true = is_live_from life high row (omega arith) in record {
      within = omega (arith, length-append events (row ∷ []));
      in_order = in_order_push high events row held.in_order now;
      all_live = live_push life high events row now ∙ ap (λ (xs : List EventRow). xs ++ row ∷ []) held.all_live;
      ascending = ascending_put thing_cmp thing_of thing_total row marks held.ascending;
      marks_are = subst (AreMarks (events ++ row ∷ [])) (sym (filter_put (is_live life high) row marks own held.ascending))
          (marks_added high events (live life high marks) row held.in_order now held.marks_are);
      few = omega (arith, length-append events (row ∷ []), put_few thing_cmp thing_of row marks, held.few);
    }

-- at a later moment the rows of what is past may stay, if they are few
marks_later : (life low high : ℕ) (events marks : List EventRow) → IsHeld life low events marks → low ≤ high → AreMarks (live life high events) (live life high marks)
marks_later life low high events marks held le =
    subst (AreMarks (live life high events)) (live_again life low high marks le) (marks_live life high events (live life low marks) held.marks_are)

pub held_advanced : (life low high : ℕ) (events left marks : List EventRow) → IsHeld life low events marks → low ≤ high →
    left ≡ live life high events → length marks ≤ length left + length left → IsHeld life high left marks
held_advanced life low high events left marks held le is few = record {
  within = omega (arith, length_filter (is_live life high) events, held.within, ap (λ (xs : List EventRow). length xs) is);
  in_order = subst (AreInOrder high) (sym is) (in_order_filter (is_live life high) high events (in_order_later low high events le held.in_order));
  all_live = rw is (live_again life high high events (omega arith));
  ascending = held.ascending;
  marks_are = subst (λ (xs : List EventRow). AreMarks xs (live life high marks)) (sym is) (marks_later life low high events marks held le);
  few = few;
}

-- where they go, no more are left than there are events
few_live : (life high : ℕ) (events marks : List EventRow) → AreMarks events (live life high marks) → length (live life high marks) ≤ length events
few_live life high events marks are =
    ascending_few thing_cmp thing_of thing_total (live life high marks) events are.ascending (λ row among. ((are.greatest row).0 among).0)

pub held_swept : (life low high : ℕ) (events left marks kept : List EventRow) → IsHeld life low events marks → low ≤ high →
    left ≡ live life high events → kept ≡ filter (is_live life high) marks → IsHeld life high left kept
held_swept life low high events left marks kept held le is was =
    let later = marks_later life low high events marks held le in
    rw (is, was) (record {
      within = omega (arith, length_filter (is_live life high) events, held.within);
      in_order = in_order_filter (is_live life high) high events (in_order_later low high events le held.in_order);
      all_live = live_again life high high events (omega arith);
      ascending = ascending_filter thing_cmp thing_of (is_live life high) marks held.ascending;
      marks_are = subst (AreMarks (live life high events)) (sym (live_again life high high marks (omega arith))) later;
      few = omega (arith, few_live life high (live life high events) marks later);
    })

pub held_few : (life high : ℕ) (events marks : List EventRow) (room : ℕ) → IsHeld life high events marks →
    AreFew (record { life = life; high = high; events = events; marks = marks; room = room })
held_few life high events marks room held = record { ascending = held.ascending; marks_are = held.marks_are; few = held.few }

pub advanced_stands : (kept : Kept) (history : History) (high : ℕ) (left marks : List EventRow) (room : ℕ) → Stands kept history → kept.high ≤ high →
    left ≡ live kept.life high kept.events → Stands (record { life = kept.life; high = high; events = left; marks = marks; room = room }) (advanced high history)
advanced_stands kept history high left marks room stands le is =
    let low : history.high ≤ high = omega (arith, stands.high_is) in
    let top : high ≡ max history.high high = omega arith in
    record {
      life_is = stands.life_is;
      high_is = top;
      events_are = is ∙ ap (λ (n : ℕ). live n high kept.events) stands.life_is ∙ ap (live history.life high) stands.events_are
          ∙ live_again history.life history.high high history.events low ∙ ap (λ (n : ℕ). live history.life n history.events) top;
    }

pub whole_revoked : (kept : Kept) (history : History) (holder : Holder) (issued : ℕ) → Stands kept history → history.high < issued + history.life + window →
    is_revoked kept.events holder issued ≡ is_revoked history.events holder issued
whole_revoked kept history holder issued stands within =
    ap (λ (events : List EventRow). is_revoked events holder issued) stands.events_are ∙ live_suffice history.life history.high history.events holder issued within
