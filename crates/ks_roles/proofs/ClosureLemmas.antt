use Rattle.std.proofs.Common.{◌≡◌, ℕ, ◌+◌, ◌-◌, ◌<◌, Bool, true, false, not, cond, ◌⊎◌, inl, inr, List, [], ◌∷◌, ◌++◌, map, length, take, Option, Some, None, IsSome, is_some, refl, sym, ap, subst, ◌∙◌, arith, length-append, append-nil}
use Rattle.std.specs.Prelude.{◌↔◌}
use Rattle.std.specs.List.{filter}
use Rattle.std.specs.Ordering.{is_eq}
use Rattle.std.specs.Str.{bytes_eq}
use Rattle.std.proofs.lemmas.Cmp.{nat_list_cmp_total}
use Rattle.std.proofs.lemmas.Slice.Eq.{bytes_eq-Decides}
use Rattle.ks_base.specs.declared.grants.ImplyRow.{ImplyRow}
use Rattle.ks_base.specs.Rows.{Id, same}
use Rattle.ks_base.specs.Roles.{IsImplied}
use Rattle.ks_base.specs.Tables.{id_cmp, IsAscending, Among, find_row, put_row}
use Rattle.ks_base.specs.OrderLaws.{id_exact}
use Rattle.ks_base.proofs.TableLemmas.{ascending_put}
use Rattle.ks_base.proofs.RowLemmas.{id_same, find_put, find_put_other, among_put, put_among, among_put_other, has-Decides}
use Rattle.ks_base.specs.RoleLists.{is_of_prior, implied_ids}
use Rattle.ks_base.proofs.WalkLemmas.{implied_on, walk_stays, extensive}
use Rattle.ks_base.proofs.AmongLemmas.{among_push, among_parts, among_left, among_right}

-- ids as rows that are their own key
abbrev put_id : Id → List Id → List Id
put_id id ids = put_row id_cmp (λ next. next) id ids

abbrev pub is_reached : List Id → Id → Bool
is_reached reached id = is_some (find_row id_cmp (λ next. next) id reached)

-- the rows whose prior role is not reached yet
abbrev pub unused : List Id → List ImplyRow → ℕ
unused reached rows = length (filter (λ row. not (is_reached reached row.prior)) rows)

-- the directly implied
record OfRow (rows : List ImplyRow) (prior x : Id) : Type 0 where
  row : ImplyRow
  stands : Among rows row
  prior_is : row.prior ≡ prior
  implied_is : row.implied ≡ x

later_row : (next : ImplyRow) (rows : List ImplyRow) (prior x : Id) → OfRow rows prior x → OfRow (next ∷ rows) prior x
later_row next rows prior x of = record { row = of.row; stands = inr of.stands; prior_is = of.prior_is; implied_is = of.implied_is }

implied_row_by : (next : ImplyRow) (rows kept : List ImplyRow) (prior x : Id) (b : Bool) → same next.prior prior ≡ b →
    Among (map (λ row. row.implied) (cond b (next ∷ kept) kept)) x → (Among (map (λ row. row.implied) kept) x → OfRow rows prior x) → OfRow (next ∷ rows) prior x
implied_row_by next rows kept prior x true is (inl same) later =
    record { row = next; stands = inl refl; prior_is = (bytes_eq-Decides next.prior prior).0 is; implied_is = same }
implied_row_by next rows kept prior x true is (inr among) later = later_row next rows prior x (later among)
implied_row_by next rows kept prior x false is among later = later_row next rows prior x (later among)

implied_row : (rows : List ImplyRow) (prior x : Id) → Among (implied_ids prior rows) x → OfRow rows prior x
implied_row [] prior x among = absurd among
implied_row (next ∷ rows) prior x among =
    implied_row_by next rows (filter (is_of_prior prior) rows) prior x (same next.prior prior) refl among (implied_row rows prior x)

row_implied_by : (next row : ImplyRow) (rows kept : List ImplyRow) (prior : Id) (b : Bool) → same next.prior prior ≡ b → row.prior ≡ prior → Among (next ∷ rows) row →
    (Among rows row → Among (map (λ row. row.implied) kept) row.implied) → Among (map (λ row. row.implied) (cond b (next ∷ kept) kept)) row.implied
row_implied_by next row rows kept prior true is prior_is (inl same) later = inl (ap (λ (r : ImplyRow). r.implied) same)
row_implied_by next row rows kept prior true is prior_is (inr among) later = inr (later among)
row_implied_by next row rows kept prior false is prior_is (inl alike) later =
    let also : same next.prior prior ≡ true = (bytes_eq-Decides next.prior prior).1 (ap (λ (r : ImplyRow). r.prior) alike ∙ prior_is) in
    cc
row_implied_by next row rows kept prior false is prior_is (inr among) later = later among

row_implied : (rows : List ImplyRow) (row : ImplyRow) (prior : Id) → Among rows row → row.prior ≡ prior → Among (implied_ids prior rows) row.implied
row_implied [] row prior among is = absurd among
row_implied (next ∷ rows) row prior among is =
    row_implied_by next row rows (filter (is_of_prior prior) rows) prior (same next.prior prior) refl is among (λ later. row_implied rows row prior later is)

-- a put keeps what was reached
keeps_by : (id x : Id) (reached : List Id) (b : Bool) → is_eq (id_cmp x id) ≡ b → Among reached x → Among (put_id id reached) x
keeps_by id x reached true is among =
    let alike : x ≡ id = (bytes_eq-Decides x id).0 (sym (id_same x id) ∙ is) in
    subst (Among (put_id id reached)) (sym alike) (put_among id_cmp (λ next. next) id reached)
keeps_by id x reached false is among = among_put_other id_cmp (λ next. next) id reached x is among

keeps : (id x : Id) (reached : List Id) → Among reached x → Among (put_id id reached) x
keeps id x reached among = keeps_by id x reached (is_eq (id_cmp x id)) refl among

-- where the walks have come: what is reached or comes next is implied, all given roles and all that
-- reached ones imply are reached or come next
pub record IsUnderway (rows : List ImplyRow) (roots reached next : List Id) : Type 0 where
  pub reached_implied : (x : Id) → Among reached x → IsImplied rows roots x
  pub next_implied : (x : Id) → Among next x → IsImplied rows roots x
  pub ascending : IsAscending id_cmp (λ id. id) reached
  pub begun : (x : Id) → Among roots x → Among reached x ⊎ Among next x
  pub followed : (row : ImplyRow) → Among rows row → Among reached row.prior → Among reached row.implied ⊎ Among next row.implied

pub starts : (rows : List ImplyRow) (roots : List Id) → IsUnderway rows roots [] roots
starts rows roots = record {
  reached_implied = λ x among. absurd among;
  next_implied = extensive rows roots;
  ascending = tt;
  begun = λ x among. inr among;
  followed = λ row stands among. absurd among;
}

-- the last of the next ones was reached before
reached_or_next : (reached next : List Id) (id x : Id) → Among reached id → Among reached x ⊎ Among (next ++ id ∷ []) x → Among reached x ⊎ Among next x
reached_or_next reached next id x old (inl among) = inl among
reached_or_next reached next id x old (inr among) = into (among_push next id x among)
  where
    into : Among next x ⊎ (id ≡ x) → Among reached x ⊎ Among next x
    into (inl left) = inr left
    into (inr same) = inl (subst (Among reached) same old)

pub passes : (rows : List ImplyRow) (roots reached next : List Id) (id : Id) → Among reached id → IsUnderway rows roots reached (next ++ id ∷ []) →
    IsUnderway rows roots reached next
passes rows roots reached next id old way = record {
  reached_implied = way.reached_implied;
  next_implied = λ x among. way.next_implied x (among_left next (id ∷ []) x among);
  ascending = way.ascending;
  begun = λ x among. reached_or_next reached next id x old (way.begun x among);
  followed = λ row stands among. reached_or_next reached next id row.implied old (way.followed row stands among);
}

-- or it is new, and what it implies comes next
put_or_next : (rows : List ImplyRow) (reached next : List Id) (id x : Id) → Among reached x ⊎ Among (next ++ id ∷ []) x →
    Among (put_id id reached) x ⊎ Among (next ++ implied_ids id rows) x
put_or_next rows reached next id x (inl among) = inl (keeps id x reached among)
put_or_next rows reached next id x (inr among) = into (among_push next id x among)
  where
    into : Among next x ⊎ (id ≡ x) → Among (put_id id reached) x ⊎ Among (next ++ implied_ids id rows) x
    into (inl left) = inr (among_left next (implied_ids id rows) x left)
    into (inr same) = inl (subst (Among (put_id id reached)) same (put_among id_cmp (λ next. next) id reached))

last_implied : (rows : List ImplyRow) (roots reached next : List Id) (id : Id) → IsUnderway rows roots reached (next ++ id ∷ []) → IsImplied rows roots id
last_implied rows roots reached next id way = way.next_implied id (among_right next (id ∷ []) id (inl refl))

pub goes_on : (rows : List ImplyRow) (roots reached next : List Id) (id : Id) → IsUnderway rows roots reached (next ++ id ∷ []) →
    IsUnderway rows roots (put_id id reached) (next ++ implied_ids id rows)
goes_on rows roots reached next id way = record {
  reached_implied = λ x among. of_put x (among_put id_cmp (λ next. next) id reached x among);
  next_implied = λ x among. of_next x (among_parts next (implied_ids id rows) x among);
  ascending = ascending_put id_cmp (λ next. next) nat_list_cmp_total id reached way.ascending;
  begun = λ x among. put_or_next rows reached next id x (way.begun x among);
  followed = λ row stands among. of_row row stands (among_put id_cmp (λ next. next) id reached row.prior among);
}
  where
    here : IsImplied rows roots id
    here = last_implied rows roots reached next id way

    of_put : (x : Id) → (id ≡ x) ⊎ Among reached x → IsImplied rows roots x
    of_put x (inl same) = subst (IsImplied rows roots) same here
    of_put x (inr among) = way.reached_implied x among

    of_next : (x : Id) → Among next x ⊎ Among (implied_ids id rows) x → IsImplied rows roots x
    of_next x (inl among) = way.next_implied x (among_left next (id ∷ []) x among)
    of_next x (inr among) =
        let of : OfRow rows id x = implied_row rows id x among in
        subst (IsImplied rows roots) of.implied_is (implied_on rows roots id of.row here of.stands (sym of.prior_is))

    of_row : (row : ImplyRow) → Among rows row → (id ≡ row.prior) ⊎ Among reached row.prior →
        Among (put_id id reached) row.implied ⊎ Among (next ++ implied_ids id rows) row.implied
    of_row row stands (inl same) = inr (among_right next (implied_ids id rows) row.implied (row_implied rows row id stands (sym same)))
    of_row row stands (inr among) = put_or_next rows reached next id row.implied (way.followed row stands among)

-- at the end what is reached is what is implied
only_reached : (reached : List Id) (x : Id) → Among reached x ⊎ Among [] x → Among reached x
only_reached reached x (inl among) = among
only_reached reached x (inr none) = absurd none

pub ends : (rows : List ImplyRow) (roots reached : List Id) → IsUnderway rows roots reached [] → (role : Id) → Among reached role ↔ IsImplied rows roots role
ends rows roots reached way role = (way.reached_implied role, back)
  where
    back : IsImplied rows roots role → Among reached role
    back (prior, among, (steps, walk)) =
        walk_stays rows reached (λ row stands old. only_reached reached row.implied (way.followed row stands old)) prior role steps
        (only_reached reached prior (way.begun prior among)) walk

-- a new role uses the rows of which it is the prior one
fewer_by : (next : ImplyRow) (kept before after : List ImplyRow) (b c d : Bool) →
    (b ≡ true → (c ≡ false) × (d ≡ true)) → (b ≡ false → d ≡ c) → length after + length (map (λ row. row.implied) kept) ≡ length before →
    length (cond (not d) (next ∷ after) after) + length (map (λ row. row.implied) (cond b (next ∷ kept) kept)) ≡ length (cond (not c) (next ∷ before) before)
fewer_by next kept before after true c d hit miss sum = let both = hit refl in rw (both.0, both.1) (omega (arith, sum))
fewer_by next kept before after false true d hit miss sum = rw (miss refl) sum
fewer_by next kept before after false false d hit miss sum = rw (miss refl) (omega (arith, sum))

other_back : (a b : Id) (t : Bool) → bytes_eq a b ≡ t → bytes_eq b a ≡ false → t ≡ false
other_back a b true is differ = let also : bytes_eq b a ≡ true = (bytes_eq-Decides b a).1 (sym ((bytes_eq-Decides a b).0 is)) in cc
other_back a b false is differ = refl

fewer : (id : Id) (reached : List Id) (rows : List ImplyRow) → find_row id_cmp (λ next. next) id reached ≡ None →
    unused (put_id id reached) rows + length (implied_ids id rows) ≡ unused reached rows
fewer id reached [] none = refl
fewer id reached (next ∷ rows) none =
    fewer_by next (filter (is_of_prior id) rows) (filter (λ row. not (is_reached reached row.prior)) rows) (filter (λ row. not (is_reached (put_id id reached) row.prior)) rows)
    (same next.prior id) (is_reached reached next.prior) (is_reached (put_id id reached) next.prior) of_id of_other (fewer id reached rows none)
  where
    of_id : same next.prior id ≡ true → (is_reached reached next.prior ≡ false) × (is_reached (put_id id reached) next.prior ≡ true)
    of_id hit =
        let alike : next.prior ≡ id = (bytes_eq-Decides next.prior id).0 hit in
        (rw (alike, none) refl, rw (alike, find_put id_cmp (λ next. next) nat_list_cmp_total id reached) refl)

    of_other : same next.prior id ≡ false → is_reached (put_id id reached) next.prior ≡ is_reached reached next.prior
    of_other miss =
        let other : is_eq (id_cmp id next.prior) ≡ false = id_same id next.prior ∙ other_back id next.prior (bytes_eq id next.prior) refl miss in
        ap is_some (find_put_other id_cmp (λ next. next) nat_list_cmp_total next.prior id reached other)

-- what one role leaves: nothing new where it was reached, else it is reached and what it implies comes next
abbrev pub IsPassed : List Id → List Id → List Id → List Id → Id → Type 0
IsPassed reached next reached_after next_after id = IsSome (find_row id_cmp (λ other. other) id reached) → (reached_after ≡ reached) × (next_after ≡ next)

abbrev pub IsFollowed : List ImplyRow → List Id → List Id → List Id → List Id → Id → Type 0
IsFollowed rows reached next reached_after next_after id =
    find_row id_cmp (λ other. other) id reached ≡ None → (reached_after ≡ put_row id_cmp (λ other. other) id reached) × (next_after ≡ next ++ implied_ids id rows)

comes_by : (rows : List ImplyRow) (roots reached next before reached_after next_after : List Id) (id : Id) (found : Option Id) →
    find_row id_cmp (λ other. other) id reached ≡ found → before ≡ next ++ id ∷ [] → IsUnderway rows roots reached before →
    IsPassed reached next reached_after next_after id → IsFollowed rows reached next reached_after next_after id → IsUnderway rows roots reached_after next_after
comes_by rows roots reached next before reached_after next_after id None is last way passed followed =
    let both = followed is in
    rw (both.0, both.1) (goes_on rows roots reached next id (subst (IsUnderway rows roots reached) last way))
comes_by rows roots reached next before reached_after next_after id (Some other) is last way passed followed =
    let some : is_some (find_row id_cmp (λ other. other) id reached) ≡ true = ap is_some is in
    let both = passed some in
    let old : Among reached id = (has-Decides id_cmp nat_list_cmp_total id_exact id reached way.ascending).0 some in
    rw (both.0, both.1) (passes rows roots reached next id old (subst (IsUnderway rows roots reached) last way))

pub comes : (rows : List ImplyRow) (roots reached next before reached_after next_after : List Id) (id : Id) →
    before ≡ next ++ id ∷ [] → IsUnderway rows roots reached before →
    IsPassed reached next reached_after next_after id → IsFollowed rows reached next reached_after next_after id → IsUnderway rows roots reached_after next_after
comes rows roots reached next before reached_after next_after id last way passed followed =
    comes_by rows roots reached next before reached_after next_after id (find_row id_cmp (λ other. other) id reached) refl last way passed followed

less_by : (rows : List ImplyRow) (reached next before reached_after next_after : List Id) (id : Id) (found : Option Id) →
    find_row id_cmp (λ other. other) id reached ≡ found → before ≡ next ++ id ∷ [] →
    IsPassed reached next reached_after next_after id → IsFollowed rows reached next reached_after next_after id →
    length next_after + unused reached_after rows < length before + unused reached rows
less_by rows reached next before reached_after next_after id None is last passed followed =
    let both = followed is in
    rw (both.0, both.1, last, length-append next (implied_ids id rows), length-append next (id ∷ [])) (omega (arith, fewer id reached rows is))
less_by rows reached next before reached_after next_after id (Some other) is last passed followed =
    let both = passed (ap is_some is) in
    rw (both.0, both.1, last, length-append next (id ∷ [])) (omega arith)

pub less : (rows : List ImplyRow) (reached next before reached_after next_after : List Id) (id : Id) → before ≡ next ++ id ∷ [] →
    IsPassed reached next reached_after next_after id → IsFollowed rows reached next reached_after next_after id →
    length next_after + unused reached_after rows < length before + unused reached rows
less rows reached next before reached_after next_after id last passed followed =
    less_by rows reached next before reached_after next_after id (find_row id_cmp (λ other. other) id reached) refl last passed followed

-- nothing is left to come to
empty : (items rest : List Id) (n : ℕ) → items ≡ rest ++ [] → rest ≡ take (n - 1) items → n ≡ 0 → items ≡ []
empty items rest n whole part none =
    let short : take (n - 1) items ≡ [] = rw none refl in
    whole ∙ append-nil rest ∙ part ∙ short

pub ends_with : (rows : List ImplyRow) (roots reached shown ids next rest : List Id) (n : ℕ) →
    next ≡ rest ++ [] → rest ≡ take (n - 1) next → n ≡ 0 → shown ≡ reached → ids ≡ shown → IsUnderway rows roots reached next →
    (role : Id) → Among ids role ↔ IsImplied rows roots role
ends_with rows roots reached shown ids next rest n whole part none alike is way =
    let done : IsUnderway rows roots reached [] = subst (IsUnderway rows roots reached) (empty next rest n whole part none) way in
    subst (λ (list : List Id). (role : Id) → Among list role ↔ IsImplied rows roots role) (sym (is ∙ alike)) (ends rows roots reached done)
