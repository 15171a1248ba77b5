-- A value, level by level, and members that go in one after another.
use Rattle.std.proofs.Common.{◌≡◌, ℕ, List, [], ◌∷◌, ◌++◌, map, Bool, true, false, cond, Option, Some, None, bytes_eq, Bor, Vec, Global, refl, sym, ap, ◌∙◌, rules, true≢false}
use Rattle.std.proofs.lemmas.Slice.Eq.{bytes_eq-Decides}
use Rattle.json.specs.Token.{Token}
use Rattle.json.specs.Json.{parse_map}
use Rattle.serde_json.specs.Data.{Data, array, object, Items, no_items, item, Members, no_members, put}
use Rattle.serde_json.specs.Find.{get_member}
use Rattle.serde_json.proofs.Views.{get_member-put, get_member-put_other}
use Rattle.ks_json.specs.View.{put_all, view, items_view, members_view}
use Rattle.ks_json.specs.declared.value.Value.{Value, Array, Object, the_lemmas}

pub view-Array : (v : Vec Value Global) → view (Array v) ≡ array (items_view v.items)
view-Array v = search (rules, the_lemmas)

pub view-Object : (v : Vec (Bor (List ℕ) × Value) Global) → view (Object v) ≡ object (members_view v.items)
view-Object v = search (rules, the_lemmas)

-- a member behind others goes in last
put_behind : (ms : List (Bor (List ℕ) × Data)) (m : Bor (List ℕ) × Data) (found : Members) → put_all (ms ++ m ∷ []) found ≡ put m.0.now m.1 (put_all ms found)
put_behind [] m found = refl
put_behind (n ∷ ms) m found = put_behind ms m (put n.0.now n.1 found)

seen_push : (ms : List (Bor (List ℕ) × Value)) (m : Bor (List ℕ) × Value) → map {B = Bor (List ℕ) × Data} (λ n. (n.0, view n.1)) (ms ++ m ∷ []) ≡ map {B = Bor (List ℕ) × Data} (λ n. (n.0, view n.1)) ms ++ (m.0, view m.1) ∷ []
seen_push [] m = refl
seen_push (n ∷ ms) m = ap (λ rest. (n.0, view n.1) ∷ rest) (seen_push ms m)

pub members_push : (ms : List (Bor (List ℕ) × Value)) (m : Bor (List ℕ) × Value) → members_view (ms ++ m ∷ []) ≡ put m.0.now (view m.1) (members_view ms)
members_push ms m = ap (λ all. put_all all no_members) (seen_push ms m) ∙ put_behind (map {B = Bor (List ℕ) × Data} (λ n. (n.0, view n.1)) ms) (m.0, view m.1) no_members

pub last_found : (name : List ℕ) (ms : List (Bor (List ℕ) × Value)) (m : Bor (List ℕ) × Value) (same : Bool) → bytes_eq m.0.now name ≡ same →
    get_member name (members_view (ms ++ m ∷ [])) ≡ cond same (Some (view m.1)) (get_member name (members_view ms))
last_found name ms m true is =
    let same : name ≡ m.0.now = sym ((bytes_eq-Decides m.0.now name).0 is) in
    ap (get_member name) (members_push ms m) ∙ ap (λ n. get_member n (put m.0.now (view m.1) (members_view ms))) same ∙ get_member-put m.0.now (view m.1) (members_view ms)
last_found name ms m false isnt =
    let other = λ (same : name ≡ m.0.now). true≢false (sym ((bytes_eq-Decides m.0.now name).1 (sym same)) ∙ isnt) in
    ap (get_member name) (members_push ms m) ∙ get_member-put_other name m.0.now (view m.1) (members_view ms) other

-- ---- a list that grows at its end

abbrev pub items_before : List Value → Items → Items
items_before [] rest = rest
items_before (v ∷ vs) rest = item (view v) (items_before vs rest)

pub items_before-no_items : (vs : List Value) → items_before vs no_items ≡ items_view vs
items_before-no_items [] = refl
items_before-no_items (v ∷ vs) = ap (item (view v)) (items_before-no_items vs)

items_push : (vs : List Value) (v : Value) (rest : Items) → items_before vs (item (view v) rest) ≡ items_before (vs ++ v ∷ []) rest
items_push [] v rest = refl
items_push (w ∷ vs) v rest = ap (item (view w)) (items_push vs v rest)

pub one_more_item : (vs : List Value) (v : Value) (r : Option (Items × List Token)) → parse_map (items_before vs) (parse_map (item (view v)) r) ≡ parse_map (items_before (vs ++ v ∷ [])) r
one_more_item vs v None = refl
one_more_item vs v (Some p) = ap (λ ds. Some (ds, p.1)) (items_push vs v p.0)
