-- Changes of trusts, by the places of their rows and by lists of their ids.
use Rattle.std.proofs.Common.{◌≡◌, ℕ, zero, suc, ◌+◌, ◌-◌, ◌<◌, ◌≤◌, Bool, true, false, not, ◌||◌, cond, List, [], ◌∷◌, length, drop, filter, get_or, Option, None, refl, sym, ap, subst, ◌∙◌}
use Rattle.std.proofs.Math.ListN.{set}
use Rattle.std.specs.List.{insert}
use Rattle.std.specs.declared.cmp.Ordering.TheVariants.{Less, Equal}
use Rattle.std.specs.Option.{option_map}
use Rattle.std.specs.Ordering.{is_eq}
use Rattle.std.proofs.lemmas.Bool.{both_ways, not-true}
use Rattle.std.proofs.lemmas.Cmp.{nat_list_cmp_total, tied_itself}
use Rattle.std.proofs.lemmas.List.{drop_all}
use Rattle.std.proofs.lemmas.Slice.Eq.{bytes_eq-Decides}
use Rattle.ks_base.specs.declared.trusts.TrustRow.{TrustRow}
use Rattle.ks_base.specs.Places.{IsFoundAt, IsGapAt}
use Rattle.ks_base.specs.Rows.{Id, same, trust_of}
use Rattle.ks_base.specs.Tables.{id_cmp, AreAbove, IsAscending, drop_row}
use Rattle.ks_base.specs.OrderLaws.{id_exact}
use Rattle.ks_base.specs.Trusts.{AreChained, IsChained, used, use_trust}
use Rattle.ks_base.proofs.ListLemmas.{drop_at}
use Rattle.ks_base.proofs.PlaceLemmas.{put_gap}
use Rattle.ks_base.proofs.RowLemmas.{id_same}
use Rattle.ks_base.proofs.TrustLemmas.{chained_left, chained_put}
use Rattle.ks_base.proofs.TruthLemmas.{equal_truths}
use Rattle.ks_trust.specs.State.{is_listed, without_trusts, IsClosed}

-- where with each named trust its redelegations are named
left_too : (named below : Bool) → (named ≡ true → below ≡ true) → not below ≡ true → not named ≡ true
left_too true below downwards left = absurd (both_ways below (not-true below left) (downwards refl))
left_too false below downwards left = refl

pub chained_without : (trusts : List TrustRow) (ids : List Id) → AreChained trusts → IsClosed trusts ids → AreChained (without_trusts ids trusts)
chained_without trusts ids all closed =
    chained_left (λ trust. not (is_listed ids trust)) trusts all
    (λ trust parent among left found. left_too (is_listed ids parent) (is_listed ids trust) (closed trust parent among found) left)

-- a use at the place of an id is a use of the trust with this id
other_id : (id : Id) (trust : TrustRow) (b : Bool) → same trust.id id ≡ b → id_cmp id trust.id ≡ Less → b ≡ false
other_id id trust true is less =
    let alike : trust.id ≡ id = (bytes_eq-Decides trust.id id).0 is in
    let tied : id_cmp id trust.id ≡ Equal = rw alike (tied_itself nat_list_cmp_total id) in
    cc
other_id id trust false is less = refl

none_used : (id : Id) (trusts : List TrustRow) → AreAbove id_cmp (λ row. row.id) id trusts → use_trust id trusts ≡ trusts
none_used id [] above = refl
none_used id (trust ∷ trusts) above = rw (other_id id trust (same trust.id id) refl above.0) (ap (λ (rows : List TrustRow). trust ∷ rows) (none_used id trusts above.1))

pub used_at : (id : Id) (trusts : List TrustRow) (i : ℕ) (d : TrustRow) → IsAscending id_cmp (λ row. row.id) trusts → IsFoundAt id_cmp (λ row. row.id) id trusts i →
    set trusts i (used (get_or trusts i d)) ≡ use_trust id trusts
used_at id [] i d up is = absurd is
used_at id (trust ∷ trusts) zero d up is =
    let here : same trust.id id ≡ true = sym (id_same trust.id id) ∙ ap is_eq is in
    let alike : trust.id ≡ id = id_exact trust.id id is in
    rw here (ap (λ (rows : List TrustRow). used trust ∷ rows)
    (sym (none_used id trusts (subst (λ (low : Id). AreAbove id_cmp (λ row. row.id) low trusts) alike up.0))))
used_at id (trust ∷ trusts) (suc i) d up is =
    let other : same trust.id id ≡ false = sym (id_same trust.id id) ∙ ap is_eq is.0 in
    rw other (ap (λ (rows : List TrustRow). trust ∷ rows) (used_at id trusts i d up.1 is.1))

pub set_used : (id : Id) (trusts : List TrustRow) (i : ℕ) (row : TrustRow) (left : Option ℕ) → IsAscending id_cmp (λ r. r.id) trusts → IsFoundAt id_cmp (λ r. r.id) id trusts i →
    row ≡ get_or trusts i row → left ≡ option_map (λ n. n - 1) row.remaining → set trusts i (record row { remaining = left }) ≡ use_trust id trusts
set_used id trusts i row left up there is lower =
    ap (λ (l : Option ℕ). set trusts i (record row { remaining = l })) lower ∙ ap (λ (t : TrustRow). set trusts i (used t)) is ∙ used_at id trusts i row up there

-- what a new trust in its place leaves
pub chained_insert : (trusts : List TrustRow) (row : TrustRow) (i : ℕ) → IsGapAt id_cmp (λ r. r.id) row.id trusts i → AreChained trusts →
    trust_of row.id trusts ≡ None → IsChained trusts row → AreChained (insert trusts i row)
chained_insert trusts row i gap all none chained = subst AreChained (put_gap id_cmp (λ r. r.id) row trusts i gap) (chained_put trusts row all none chained)

-- listed trusts go one by one

without_by : (trust : TrustRow) (kept left : List TrustRow) (test : TrustRow → Bool) (b c : Bool) → test trust ≡ not c → kept ≡ filter test left →
    cond (not (b || c)) (trust ∷ kept) kept ≡ filter test (cond (not b) (trust ∷ left) left)
without_by trust kept left test true c is rest = rest
without_by trust kept left test false c is rest = rw (is, rest) refl

pub without_next : (id : Id) (ids : List Id) (trusts : List TrustRow) → without_trusts (id ∷ ids) trusts ≡ without_trusts ids (drop_row id_cmp (λ row. row.id) id trusts)
unfolding drop_row
without_next id ids [] = refl
without_next id ids (trust ∷ trusts) =
    without_by trust (without_trusts (id ∷ ids) trusts) (filter (λ row. not (is_eq (id_cmp row.id id))) trusts) (λ t. not (is_listed ids t)) (same id trust.id) (is_listed ids trust) refl
    (without_next id ids trusts)
    ∙ ap (λ b. without_trusts ids (cond (not b) (trust ∷ filter (λ row. not (is_eq (id_cmp row.id id))) trusts) (filter (λ row. not (is_eq (id_cmp row.id id))) trusts)))
    (sym (id_same trust.id id ∙ equal_truths (same trust.id id) (same id trust.id) (λ is. (bytes_eq-Decides id trust.id).1 (sym ((bytes_eq-Decides trust.id id).0 is)))
    (λ is. (bytes_eq-Decides trust.id id).1 (sym ((bytes_eq-Decides id trust.id).0 is)))))

pub without_at : (ids : List Id) (i : ℕ) (id : Id) (trusts after whole : List TrustRow) → i < length ids → id ≡ get_or ids i id →
    after ≡ drop_row id_cmp (λ row. row.id) id trusts → without_trusts (drop i ids) trusts ≡ whole → without_trusts (drop (i + 1) ids) after ≡ whole
without_at ids i id trusts after whole lt is gone so_far =
    ap (without_trusts (drop (i + 1) ids)) gone ∙ sym (without_next id (drop (i + 1) ids) trusts) ∙ sym (ap (λ l. without_trusts l trusts) (drop_at ids i id lt is)) ∙ so_far

all_stay : (trusts : List TrustRow) → without_trusts [] trusts ≡ trusts
all_stay [] = refl
all_stay (trust ∷ trusts) = ap (λ (rest : List TrustRow). trust ∷ rest) (all_stay trusts)

pub without_all : (ids : List Id) (i : ℕ) (trusts whole : List TrustRow) → length ids ≤ i → without_trusts (drop i ids) trusts ≡ whole → trusts ≡ whole
without_all ids i trusts whole past so_far = sym (all_stay trusts) ∙ ap (λ l. without_trusts l trusts) (sym (drop_all i ids past)) ∙ so_far
