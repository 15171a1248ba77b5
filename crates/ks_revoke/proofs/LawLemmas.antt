-- What the definitions mean.
use Rattle.std.proofs.Common.{◌≡◌, ℕ, ◌+◌, ◌<◌, Bool, true, false, ◌⊎◌, inl, inr, List, [], ◌∷◌, refl, sym, ap, ◌∙◌, subst}
use Rattle.std.specs.declared.cmp.Ordering.{Ordering}
use Rattle.std.specs.declared.cmp.Ordering.TheVariants.{Less, Equal, Greater}
use Rattle.std.specs.Ordering.{ordering_reverse}
use Rattle.std.specs.Cmp.{IsTotalOrder}
use Rattle.std.proofs.lemmas.Cmp.{tied_itself}
use Rattle.ks_base.specs.declared.events.EventRow.{EventRow}
use Rattle.ks_base.specs.Revocation.{is_live, live, kept_for}
use Rattle.ks_base.specs.Tables.{AreAbove, Among, IsAscending}
use Rattle.ks_base.proofs.RowLemmas.{same_row, among_filter, filter_among, above_among}
use Rattle.ks_base.proofs.AmongLemmas.{all_among}
use Rattle.ks_revoke.specs.Things.{thing_cmp, thing_of}
use Rattle.ks_revoke.specs.Marks.{AreMarks, IsMarkOf}
use Rattle.ks_revoke.specs.Histories.{Kept, History, Stands}
use Rattle.ks_revoke.proofs.ThingLemmas.{thing_total}
use Rattle.ks_revoke.proofs.LiveLemmas.{past_is}
use Rattle.ks_revoke.proofs.MarkLemmas.{IsUpper}
use Rattle.ks_revoke.proofs.TestLemmas.{GreatestOf, Unnamed, greatest_or_none}

live_or_past : (life high : ℕ) (events : List EventRow) (event : EventRow) (b : Bool) → is_live life high event ≡ b → Among events event →
    Among (live life high events) event ⊎ (event.moment + life + kept_for < high)
live_or_past life high events event true is among = inl (filter_among (is_live life high) events event among is)
live_or_past life high events event false is among = inr (past_is life high event is)

pub kept_or_past : (kept : Kept) (history : History) (event : EventRow) → Stands kept history → Among history.events event →
    Among kept.events event ⊎ (event.moment + history.life + kept_for < history.high)
kept_or_past kept history event stands among =
    subst (λ (events : List EventRow). Among events event ⊎ (event.moment + history.life + kept_for < history.high)) (sym stands.events_are)
    (live_or_past history.life history.high history.events event (is_live history.life history.high event) refl among)

pub kept_was_added : (kept : Kept) (history : History) (event : EventRow) → Stands kept history → Among kept.events event → Among history.events event
kept_was_added kept history event stands among =
    (among_filter (is_live history.life history.high) history.events event (subst (λ (events : List EventRow). Among events event) stands.events_are among)).0

-- the mark of an event
mark_by : (events rows : List EventRow) (event : EventRow) → AreMarks events rows → Among events event → GreatestOf event.what events ⊎ Unnamed event.what events →
    (row : EventRow) × IsMarkOf event rows row
mark_by events rows event are among (inl (row, what, greatest)) =
    let stands : Among rows row = (are.greatest row).1 greatest in (
      row,
      record {
        stands = stands;
        names = what;
        no_less = all_among (IsUpper row) events event greatest.1 among (sym what);
        alone = λ other also named. same_row thing_cmp thing_of thing_total rows other row are.ascending also stands (named ∙ sym what);
      },
    )
mark_by events rows event are among (inr none) = absurd (none event among refl)

pub one_mark : (events rows : List EventRow) (event : EventRow) → AreMarks events rows → Among events event → (row : EventRow) × IsMarkOf event rows row
one_mark events rows event are among = mark_by events rows event are among (greatest_or_none event.what events)

-- ascending rows are known by which they are
never_below : {K : Type 0} (cmp : K → K → Ordering) → IsTotalOrder cmp → (a b : K) → cmp a b ≡ Less → cmp b a ≡ Less → ⊥
never_below cmp o a b less more = let other : cmp a b ≡ Greater = o.antisymm a b ∙ ap ordering_reverse more in cc

never_itself : {K X : Type 0} (cmp : K → K → Ordering) (key : X → K) → IsTotalOrder cmp → (a b : X) → a ≡ b → cmp (key a) (key b) ≡ Less → ⊥
never_itself cmp key o a b same less =
    let equal : cmp (key a) (key b) ≡ Equal = subst (λ (x : _). cmp (key a) (key x) ≡ Equal) same (tied_itself o (key a)) in cc

first_same : {K X : Type 0} (cmp : K → K → Ordering) (key : X → K) → IsTotalOrder cmp → (a b : X) (rows others : List X) →
    AreAbove cmp key (key a) rows → AreAbove cmp key (key b) others → Among (b ∷ others) a → Among (a ∷ rows) b → a ≡ b
first_same cmp key o a b rows others low also (inl same) among = sym same
first_same cmp key o a b rows others low also (inr later) (inl same) = same
first_same cmp key o a b rows others low also (inr later) (inr after) =
    absurd (never_below cmp o (key a) (key b) (above_among cmp key (key a) rows b low after) (above_among cmp key (key b) others a also later))

rest_among : {K X : Type 0} (cmp : K → K → Ordering) (key : X → K) → IsTotalOrder cmp → (a b x : X) (rows others : List X) → a ≡ b →
    AreAbove cmp key (key a) rows → Among rows x → Among (b ∷ others) x → Among others x
rest_among cmp key o a b x rows others same low among (inl is) = absurd (never_itself cmp key o a x (same ∙ is) (above_among cmp key (key a) rows x low among))
rest_among cmp key o a b x rows others same low among (inr later) = later

pub rows_same : {K X : Type 0} (cmp : K → K → Ordering) (key : X → K) → IsTotalOrder cmp → (rows others : List X) → IsAscending cmp key rows → IsAscending cmp key others →
    ((x : X) → Among rows x → Among others x) → ((x : X) → Among others x → Among rows x) → rows ≡ others
rows_same cmp key o [] [] up also into from = refl
rows_same cmp key o [] (b ∷ others) up also into from = absurd (from b (inl refl))
rows_same cmp key o (a ∷ rows) [] up also into from = absurd (into a (inl refl))
rows_same cmp key o (a ∷ rows) (b ∷ others) up also into from =
    let same : a ≡ b = first_same cmp key o a b rows others up.0 also.0 (into a (inl refl)) (from b (inl refl)) in
    let rest = rows_same cmp key o rows others up.1 also.1
    (λ x among. rest_among cmp key o a b x rows others same up.0 among (into x (inr among)))
    (λ x among. rest_among cmp key o b a x others rows (sym same) also.0 among (from x (inr among))) in
    cc

pub marks_same : (events rows others : List EventRow) → AreMarks events rows → AreMarks events others → rows ≡ others
marks_same events rows others are also =
    rows_same thing_cmp thing_of thing_total rows others are.ascending also.ascending
    (λ x among. (also.greatest x).1 ((are.greatest x).0 among)) (λ x among. (are.greatest x).1 ((also.greatest x).0 among))
