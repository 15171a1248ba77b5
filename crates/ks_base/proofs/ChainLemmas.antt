-- Chains of trusts end, so what is computed of them is what is said of them.
use Rattle.std.proofs.Common.{◌≡◌, ℕ, zero, suc, ◌<◌, ◌≤◌, Bool, true, false, ◌||◌, cond, nat_lt, inl, inr, List, [], ◌∷◌, length, Option, Some, None, IsSome, refl, sym, ap, subst, ◌∙◌, arith}
use Rattle.std.specs.Prelude.{◌↔◌}
use Rattle.std.specs.List.{filter, list_any}
use Rattle.std.specs.Option.{option_map_or}
use Rattle.std.proofs.lemmas.Bool.Decides.{nat_tests}
use Rattle.std.proofs.lemmas.Bool.{or_left, or_right}
use Rattle.ks_base.specs.declared.trusts.TrustRow.{TrustRow}
use Rattle.ks_base.specs.Rows.{Id}
use Rattle.ks_base.specs.Tables.{id_cmp, Among, with_higher}
use Rattle.ks_base.specs.Trusts.{parent_trust, IsClimb, DescendsFrom, LeadsTo, IsChained, AreChained, lineage_within, last_trustor, first_trustor, first_of_new, goes}
use Rattle.ks_base.proofs.RowLemmas.{found_among}
use Rattle.ks_base.proofs.ListLemmas.{no_more_by, fewer_here, fewer_behind}

-- how many trusts have a higher count
higher : ℕ → List TrustRow → ℕ
higher n trusts = length (filter (λ trust. nat_lt n trust.count) trusts)

fewer : (n m : ℕ) (trusts : List TrustRow) → n ≤ m → higher m trusts ≤ higher n trusts
unfolding higher
fewer n m [] le = omega arith
fewer n m (trust ∷ trusts) le =
    no_more_by (nat_lt m trust.count) (nat_lt n trust.count) trust (filter (λ t. nat_lt m t.count) trusts) (filter (λ t. nat_lt n t.count) trusts)
    (λ is. grind (arith, nat_tests)) (fewer n m trusts le)

-- above a higher count there are fewer
higher_less : (n : ℕ) (trusts : List TrustRow) (parent : TrustRow) → Among trusts parent → n < parent.count → higher parent.count trusts < higher n trusts
unfolding higher
higher_less n [] parent among lt = absurd among
higher_less n (trust ∷ trusts) parent (inl same) lt =
    let a : nat_lt parent.count trust.count ≡ false = rw same (grind (arith, nat_tests)) in
    let b : nat_lt n trust.count ≡ true = rw same (grind (arith, nat_tests)) in
    fewer_here (nat_lt parent.count trust.count) (nat_lt n trust.count) trust (filter (λ t. nat_lt parent.count t.count) trusts) (filter (λ t. nat_lt n t.count) trusts)
    a b (fewer n parent.count trusts (omega (arith, lt)))
higher_less n (trust ∷ trusts) parent (inr among) lt =
    fewer_behind (nat_lt parent.count trust.count) (nat_lt n trust.count) trust (filter (λ t. nat_lt parent.count t.count) trusts) (filter (λ t. nat_lt n t.count) trusts)
    (λ is. grind (arith, nat_tests)) (higher_less n trusts parent among lt)

most_by : (a : Bool) (x : TrustRow) (xs : List TrustRow) (n : ℕ) → length xs ≤ n → length (cond a (x ∷ xs) xs) ≤ suc n
most_by true x xs n le = omega (arith, le)
most_by false x xs n le = omega (arith, le)

higher_most : (n : ℕ) (trusts : List TrustRow) → higher n trusts ≤ length trusts
unfolding higher
higher_most n [] = omega arith
higher_most n (trust ∷ trusts) = most_by (nat_lt n trust.count) trust (filter (λ t. nat_lt n t.count) trusts) (length trusts) (higher_most n trusts)

-- a parent stands among the trusts
pub parent_among : (trusts : List TrustRow) (id : Option Id) (parent : TrustRow) → parent_trust trusts id ≡ Some parent → Among trusts parent
parent_among trusts None parent found = cc
parent_among trusts (Some id) parent found = (found_among id_cmp (λ row. row.id) id trusts parent found).0

no_parent : (trusts : List TrustRow) (id : Option Id) → (IsSome id → IsSome (parent_trust trusts id)) → parent_trust trusts id ≡ None → id ≡ None
no_parent trusts None stands none = refl
no_parent trusts (Some id) stands none = let some = stands refl in cc

-- a step up leaves fewer trusts above
step_less : (trusts : List TrustRow) (trust parent : TrustRow) → IsChained trusts trust → parent_trust trusts trust.parent ≡ Some parent →
    higher parent.count trusts < higher trust.count trusts
step_less trusts trust parent chained found =
    higher_less trust.count trusts parent (parent_among trusts trust.parent parent found) (chained.below parent found).1

-- lineages
pub none_above : (steps : ℕ) (trusts : List TrustRow) (trust : TrustRow) → parent_trust trusts trust.parent ≡ None → lineage_within steps trusts trust ≡ []
unfolding lineage_within
none_above zero trusts trust none = refl
none_above (suc steps) trusts trust none = ap (with_higher (lineage_within steps trusts)) none

pub some_above : (steps : ℕ) (trusts : List TrustRow) (trust parent : TrustRow) → parent_trust trusts trust.parent ≡ Some parent →
    lineage_within (suc steps) trusts trust ≡ parent ∷ lineage_within steps trusts parent
unfolding lineage_within
some_above steps trusts trust parent some = ap (with_higher (lineage_within steps trusts)) some

pub last_up : (trust parent : TrustRow) (above : List TrustRow) → last_trustor trust (parent ∷ above) ≡ last_trustor parent above
unfolding last_trustor
last_up trust parent above = refl

pub last_own : (trust : TrustRow) → last_trustor trust [] ≡ trust.trustor
unfolding last_trustor
last_own trust = refl

-- a climb to a trust without a parent ends at the last of the lineage
climbs : (steps : ℕ) (trusts : List TrustRow) (trust top : TrustRow) (climb : List TrustRow) → AreChained trusts → IsChained trusts trust →
    higher trust.count trusts ≤ steps → IsClimb trusts trust climb top → top.parent ≡ None → last_trustor trust (lineage_within steps trusts trust) ≡ top.trustor
climbs steps trusts trust top [] all chained enough climb end =
    let none : parent_trust trusts trust.parent ≡ None = ap (parent_trust trusts) (ap (λ (t : TrustRow). t.parent) climb ∙ end) in
    ap (last_trustor trust) (none_above steps trusts trust none) ∙ last_own trust ∙ ap (λ (t : TrustRow). t.trustor) climb
climbs zero trusts trust top (parent ∷ climb) all chained enough (found, rest) end =
    absurd (omega (arith, step_less trusts trust parent chained found, enough))
climbs (suc steps) trusts trust top (parent ∷ climb) all chained enough (found, rest) end =
    let fewer : higher parent.count trusts ≤ steps = omega (arith, step_less trusts trust parent chained found, enough) in
    ap (last_trustor trust) (some_above steps trusts trust parent found) ∙ last_up trust parent (lineage_within steps trusts parent)
    ∙ climbs steps trusts parent top climb all (all parent (parent_among trusts trust.parent parent found)) fewer rest end

-- and there is such a climb
up_one : (trusts : List TrustRow) (trust parent : TrustRow) (first : Id) → parent_trust trusts trust.parent ≡ Some parent → LeadsTo trusts parent first → LeadsTo trusts trust first
up_one trusts trust parent first found leads = record {
  top = leads.top;
  descends = (parent ∷ leads.descends.0, (found, leads.descends.1));
  is_first = leads.is_first;
  trustor_is = leads.trustor_is;
}

own : (trusts : List TrustRow) (trust : TrustRow) → trust.parent ≡ None → LeadsTo trusts trust trust.trustor
own trusts trust none = record { top = trust; descends = ([], refl); is_first = none; trustor_is = refl }

leads_by : (steps : ℕ) (trusts : List TrustRow) (trust : TrustRow) (above : Option TrustRow) → parent_trust trusts trust.parent ≡ above →
    AreChained trusts → IsChained trusts trust → higher trust.count trusts ≤ steps → LeadsTo trusts trust (last_trustor trust (lineage_within steps trusts trust))
leads_by steps trusts trust None found all chained enough =
    subst (LeadsTo trusts trust) (sym (ap (last_trustor trust) (none_above steps trusts trust found) ∙ last_own trust))
    (own trusts trust (no_parent trusts trust.parent chained.stands found))
leads_by zero trusts trust (Some parent) found all chained enough = absurd (omega (arith, step_less trusts trust parent chained found, enough))
leads_by (suc steps) trusts trust (Some parent) found all chained enough =
    let fewer : higher parent.count trusts ≤ steps = omega (arith, step_less trusts trust parent chained found, enough) in
    let there = leads_by steps trusts parent (parent_trust trusts parent.parent) refl all (all parent (parent_among trusts trust.parent parent found)) fewer in
    subst (LeadsTo trusts trust) (sym (ap (last_trustor trust) (some_above steps trusts trust parent found) ∙ last_up trust parent (lineage_within steps trusts parent)))
    (up_one trusts trust parent _ found there)

pub first_leads : (trusts : List TrustRow) (trust : TrustRow) (first : Id) → AreChained trusts → IsChained trusts trust →
    LeadsTo trusts trust first ↔ (first_trustor trusts trust ≡ first)
first_leads trusts trust first all chained = (there, back)
  where
    enough : higher trust.count trusts ≤ length trusts
    enough = higher_most trust.count trusts

    there : LeadsTo trusts trust first → first_trustor trusts trust ≡ first
    there leads = climbs (length trusts) trusts trust leads.top leads.descends.0 all chained enough leads.descends.1 leads.is_first ∙ leads.trustor_is

    back : first_trustor trusts trust ≡ first → LeadsTo trusts trust first
    back is = subst (LeadsTo trusts trust) is (leads_by (length trusts) trusts trust (parent_trust trusts trust.parent) refl all chained enough)

-- a redelegation leads where its parent leads
up_by : (trusts : List TrustRow) (trust parent top : TrustRow) (climb : List TrustRow) (first : Id) → parent_trust trusts trust.parent ≡ Some parent →
    IsClimb trusts trust climb top → top.parent ≡ None → top.trustor ≡ first → LeadsTo trusts parent first
up_by trusts trust parent top [] first found climb end is =
    let none : parent_trust trusts trust.parent ≡ None = ap (parent_trust trusts) (ap (λ (t : TrustRow). t.parent) climb ∙ end) in
    cc
up_by trusts trust parent top (next ∷ climb) first found (step, rest) end is =
    let same : next ≡ parent = cc in
    record { top = top; descends = (climb, subst (λ (t : TrustRow). IsClimb trusts t climb top) same rest); is_first = end; trustor_is = is }

up_from : (trusts : List TrustRow) (trust parent : TrustRow) (first : Id) → parent_trust trusts trust.parent ≡ Some parent → LeadsTo trusts trust first → LeadsTo trusts parent first
up_from trusts trust parent first found leads =
    up_by trusts trust parent leads.top leads.descends.0 first found leads.descends.1 leads.is_first leads.trustor_is

new_by : (trusts : List TrustRow) (trust : TrustRow) (first : Id) (above : Option TrustRow) → parent_trust trusts trust.parent ≡ above →
    AreChained trusts → IsChained trusts trust → LeadsTo trusts trust first ↔ (option_map_or (first_trustor trusts) above trust.trustor ≡ first)
new_by trusts trust first None found all chained =
    let none : last_trustor trust (lineage_within (length trusts) trusts trust) ≡ trust.trustor =
    ap (last_trustor trust) (none_above (length trusts) trusts trust found) ∙ last_own trust in
    let both = first_leads trusts trust first all chained in
    (λ leads. sym none ∙ both.0 leads, λ is. both.1 (none ∙ is))
new_by trusts trust first (Some parent) found all chained =
    let both = first_leads trusts parent first all (all parent (parent_among trusts trust.parent parent found)) in
    (λ leads. both.0 (up_from trusts trust parent first found leads), λ is. up_one trusts trust parent first found (both.1 is))

pub new_leads : (trusts : List TrustRow) (trust : TrustRow) (first : Id) → AreChained trusts → IsChained trusts trust →
    LeadsTo trusts trust first ↔ (first_of_new trusts trust ≡ first)
new_leads trusts trust first all chained = new_by trusts trust first (parent_trust trusts trust.parent) refl all chained

-- what goes is touched, or descends from what is
abbrev Touched : List TrustRow → (TrustRow → Bool) → TrustRow → Type 0
Touched trusts touched trust = (top : TrustRow) × DescendsFrom trusts trust top × (touched top ≡ true)

touched_up : (trusts : List TrustRow) (touched : TrustRow → Bool) (trust parent : TrustRow) → parent_trust trusts trust.parent ≡ Some parent →
    Touched trusts touched parent → Touched trusts touched trust
touched_up trusts touched trust parent found (top, (climb, steps), is) = (top, (parent ∷ climb, (found, steps)), is)

touched_by : (steps : ℕ) (trusts : List TrustRow) (touched : TrustRow → Bool) (trust : TrustRow) (here : Bool) (above : Option TrustRow) → touched trust ≡ here →
    parent_trust trusts trust.parent ≡ above → list_any touched (trust ∷ lineage_within steps trusts trust) ≡ true → Touched trusts touched trust
unfolding lineage_within
touched_by steps trusts touched trust true above is found any = (trust, ([], refl), is)
touched_by zero trusts touched trust false above is found any = let still = rw is at any in cc
touched_by (suc steps) trusts touched trust false None is found any = let still = rw (is, found) at any in cc
touched_by (suc steps) trusts touched trust false (Some parent) is found any =
    let still = rw (is, found) at any in
    touched_up trusts touched trust parent found (touched_by steps trusts touched parent (touched parent) (parent_trust trusts parent.parent) refl refl still)

any_by : (steps : ℕ) (trusts : List TrustRow) (touched : TrustRow → Bool) (trust top : TrustRow) (climb : List TrustRow) → AreChained trusts → IsChained trusts trust →
    higher trust.count trusts ≤ steps → IsClimb trusts trust climb top → touched top ≡ true → list_any touched (trust ∷ lineage_within steps trusts trust) ≡ true
any_by steps trusts touched trust top [] all chained enough climb is =
    or_left (touched trust) (list_any touched (lineage_within steps trusts trust)) (ap touched climb ∙ is)
any_by zero trusts touched trust top (parent ∷ climb) all chained enough (found, rest) is =
    absurd (omega (arith, step_less trusts trust parent chained found, enough))
any_by (suc steps) trusts touched trust top (parent ∷ climb) all chained enough (found, rest) is =
    let fewer : higher parent.count trusts ≤ steps = omega (arith, step_less trusts trust parent chained found, enough) in
    let there = any_by steps trusts touched parent top climb all (all parent (parent_among trusts trust.parent parent found)) fewer rest is in
    or_right (touched trust) (list_any touched (lineage_within (suc steps) trusts trust)) (ap (list_any touched) (some_above steps trusts trust parent found) ∙ there)

pub goes_from : (trusts : List TrustRow) (touched : TrustRow → Bool) (trust : TrustRow) → AreChained trusts → IsChained trusts trust →
    (goes trusts touched trust ≡ true) ↔ Touched trusts touched trust
goes_from trusts touched trust all chained = (there, back)
  where
    there : goes trusts touched trust ≡ true → Touched trusts touched trust
    there any = touched_by (length trusts) trusts touched trust (touched trust) (parent_trust trusts trust.parent) refl refl any

    back : Touched trusts touched trust → goes trusts touched trust ≡ true
    back (top, (climb, steps), is) = any_by (length trusts) trusts touched trust top climb all chained (higher_most trust.count trusts) steps is

-- a redelegation goes with its parent
pub goes_down : (trusts : List TrustRow) (touched : TrustRow → Bool) (trust parent : TrustRow) → AreChained trusts → Among trusts trust →
    parent_trust trusts trust.parent ≡ Some parent → goes trusts touched parent ≡ true → goes trusts touched trust ≡ true
goes_down trusts touched trust parent all among found is =
    let above = (goes_from trusts touched parent all (all parent (parent_among trusts trust.parent parent found))).0 is in
    (goes_from trusts touched trust all (all trust among)).1 (touched_up trusts touched trust parent found above)

-- whether a trust goes hangs on the trusts that stand alone
alike_by : (steps : ℕ) (trusts : List TrustRow) (p q : TrustRow → Bool) (trust : TrustRow) (above : Option TrustRow) → parent_trust trusts trust.parent ≡ above →
    ((t : TrustRow) → Among trusts t → p t ≡ q t) → Among trusts trust → list_any p (trust ∷ lineage_within steps trusts trust) ≡ list_any q (trust ∷ lineage_within steps trusts trust)
unfolding lineage_within
alike_by zero trusts p q trust above found same among = ap (λ b. b || false) (same trust among)
alike_by (suc steps) trusts p q trust None found same among = rw found (ap (λ b. b || false) (same trust among))
alike_by (suc steps) trusts p q trust (Some parent) found same among =
    rw (found, same trust among) (ap (λ b. q trust || b)
    (alike_by steps trusts p q parent (parent_trust trusts parent.parent) refl same (parent_among trusts trust.parent parent found)))

pub goes_alike : (trusts : List TrustRow) (p q : TrustRow → Bool) (trust : TrustRow) → ((t : TrustRow) → Among trusts t → p t ≡ q t) → Among trusts trust →
    goes trusts p trust ≡ goes trusts q trust
goes_alike trusts p q trust same among = alike_by (length trusts) trusts p q trust (parent_trust trusts trust.parent) refl same among
