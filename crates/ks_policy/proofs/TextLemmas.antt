-- Texts and their rules.
use Rattle.std.proofs.Common.{◌≡◌, ℕ, suc, List, [], ◌∷◌, ◌++◌, length, refl, ap, subst, sym, ◌∙◌}
use Rattle.std.specs.Prelude.{nat_le, Bool, true, false, if◌then◌else◌, Option, Some, None, Result, Ok, Err}
use Rattle.std.specs.Option.{option_map_or}
use Rattle.std.specs.Prelude.{String, string_bytes}
use Rattle.std.specs.declared.alloc.Global.{Global}
use Rattle.serde_json.specs.declared.value.Value.{Value}
use Rattle.serde_json.specs.View.{view, members_view}
use Rattle.serde_json.specs.Data.{Data, Members, no_members, member}
use Rattle.serde_json.specs.Find.{as_str, as_object}
use Rattle.ks_base.specs.Tables.{id_cmp, AreAbove, IsAscending, put_row}
use Rattle.ks_rule.specs.Trees.{Tree}
use Rattle.ks_rule.specs.Grammar.{IsRule}
use Rattle.ks_policy.specs.declared.fault.PolicyFault.{PolicyFault}
use Rattle.ks_policy.specs.declared.fault.PolicyFault.TheVariants.{NotObject, NotText, Cycle, TooMany, Memory}
use Rattle.ks_policy.specs.declared.texts.RuleText.{RuleText}
use Rattle.ks_machine.specs.Openings.{NamedRule}
use Rattle.ks_policy.specs.Loading.{AreRules, over, put_text, within_limit, texts_of, Merges, Loads}
use Rattle.ks_policy.specs.Defaults.{defaults}

-- one more rule
pub rules_more : (texts : List RuleText) (rules : List NamedRule) (row : RuleText) (rule : NamedRule) → AreRules texts rules →
    rule.name ≡ row.name → IsRule row.text rule.tree → AreRules (texts ++ row ∷ []) (rules ++ rule ∷ [])
rules_more [] [] row rule are name tree = (name, tree, tt)
rules_more [] (next ∷ rules) row rule are name tree = absurd are
rules_more (next ∷ texts) [] row rule are name tree = absurd are
rules_more (next ∷ texts) (other ∷ rules) row rule are name tree = (are.0, are.1, rules_more texts rules row rule are.2 name tree)

-- the rules of one more text
pub rules_next : (texts taken : List RuleText) (rules pushed : List NamedRule) (row : RuleText) (rule : NamedRule) (name text : List ℕ) (tree : Tree) →
    AreRules texts rules → taken ≡ texts ++ row ∷ [] → pushed ≡ rules ++ rule ∷ [] → rule ≡ record { name = name; tree = tree } →
    name ≡ row.name → text ≡ row.text → IsRule text tree → AreRules taken pushed
rules_next texts taken rules pushed row rule name text tree are t p made n x is =
    let same_name : rule.name ≡ row.name = ap (λ (r : NamedRule). r.name) made ∙ n in
    let same_tree : tree ≡ rule.tree = sym (ap (λ (r : NamedRule). r.tree) made) in
    let reads : IsRule row.text rule.tree = subst (λ (s : List ℕ). IsRule s rule.tree) x (subst (IsRule text) same_tree is) in
    rw (t, p) (rules_more texts rules row rule are same_name reads)

pub rules_long : (texts : List RuleText) (rules : List NamedRule) → AreRules texts rules → length rules ≡ length texts
rules_long [] [] are = refl
rules_long [] (rule ∷ rules) are = absurd are
rules_long (row ∷ texts) [] are = absurd are
rules_long (row ∷ texts) (rule ∷ rules) are = ap suc (rules_long texts rules are.2)

-- the rules stand in the order of the texts
rules_above : (low name : List ℕ) (texts : List RuleText) (rules : List NamedRule) → name ≡ low → AreRules texts rules →
    AreAbove id_cmp (λ row. row.name) low texts → AreAbove id_cmp (λ rule. rule.name) name rules
rules_above low name [] [] same are above = tt
rules_above low name [] (rule ∷ rules) same are above = absurd are
rules_above low name (row ∷ texts) [] same are above = absurd are
rules_above low name (row ∷ texts) (rule ∷ rules) same are above =
    (rw (same, are.0) above.0, rules_above low name texts rules same are.2 above.1)

pub rules_ascend : (texts : List RuleText) (rules : List NamedRule) → AreRules texts rules →
    IsAscending id_cmp (λ row. row.name) texts → IsAscending id_cmp (λ rule. rule.name) rules
rules_ascend [] [] are up = tt
rules_ascend [] (rule ∷ rules) are up = absurd are
rules_ascend (row ∷ texts) [] are up = absurd are
rules_ascend (row ∷ texts) (rule ∷ rules) are up = (rules_above row.name rule.name texts rules are.0 are.2 up.0, rules_ascend texts rules are.2 up.1)

-- one more member
pub over_more : (name text : List ℕ) (value : Data) (texts : List RuleText) (members : Members) → Some text ≡ as_str value →
    over texts (member name value members) ≡ over (put_text name text texts) members
over_more name text value texts members is =
    ap (λ (o : Option (List ℕ)). option_map_or (λ t. over (put_text name t texts) members) o (Err (NotText name))) (sym is)

pub merged_more : (texts merged : List RuleText) (entries rest : List (String Global × Value)) (name : String Global) (value : Value)
    (row : RuleText) (key text : List ℕ) (said : Result (List RuleText) PolicyFault) →
    over texts (members_view entries) ≡ said → entries ≡ (name, value) ∷ rest → Some text ≡ as_str (view value) →
    row ≡ record { name = key; text = text } → key ≡ string_bytes name → merged ≡ put_row id_cmp (λ row. row.name) row texts →
    over merged (members_view rest) ≡ said
merged_more texts merged entries rest name value row key text said so_far first is made same put =
    let step = over_more (string_bytes name) text (view value) texts (members_view rest) is in
    let begun : over texts (members_view entries) ≡ over texts (member (string_bytes name) (view value) (members_view rest)) =
    ap (λ (l : List (String Global × Value)). over texts (members_view l)) first in
    let row_is : row ≡ record { name = string_bytes name; text = text } = made ∙ ap (λ (n : List ℕ). record { name = n; text = text }) same in
    let merged_is : merged ≡ put_text (string_bytes name) text texts = put ∙ ap (λ (r : RuleText). put_row id_cmp (λ row. row.name) r texts) row_is in
    ap (λ (l : List RuleText). over l (members_view rest)) merged_is ∙ sym step ∙ sym begun ∙ so_far

-- texts alone have no cycle
over_no_cycle : (texts : List RuleText) (members : Members) (name : List ℕ) → over texts members ≡ Err (Cycle name) → ⊥
over_no_cycle texts no_members name e = cc
over_no_cycle texts (member key value members) name e = by_text (as_str value) (λ text. over_no_cycle (put_text key text texts) members name) e
  where
    by_text : (o : Option (List ℕ)) → ((text : List ℕ) → over (put_text key text texts) members ≡ Err (Cycle name) → ⊥) → option_map_or (λ text. over (put_text key text texts) members) o (Err (NotText key)) ≡ Err (Cycle name) → ⊥
    by_text None later e = cc
    by_text (Some text) later e = later text e

limit_no_cycle : (said : Result (List RuleText) PolicyFault) (name : List ℕ) → (said ≡ Err (Cycle name) → ⊥) → within_limit said ≡ Err (Cycle name) → ⊥
limit_no_cycle (Ok texts) name no_cycle e = by_length (nat_le (length texts) 1024) e
  where
    by_length : (b : Bool) → (if b then Ok texts else Err TooMany) ≡ Err (Cycle name) → ⊥
    by_length true e = cc
    by_length false e = cc
limit_no_cycle (Err fault) name no_cycle e = no_cycle e

texts_no_cycle : (file : Data) (name : List ℕ) → texts_of file ≡ Err (Cycle name) → ⊥
unfolding texts_of
texts_no_cycle file name e = by_object (as_object file) e
  where
    by_object : (o : Option Members) → option_map_or (λ members. within_limit (over defaults members)) o (Err NotObject) ≡ Err (Cycle name) → ⊥
    by_object None e = cc
    by_object (Some members) e = limit_no_cycle (over defaults members) name (over_no_cycle defaults members name) e

-- a fault of the texts is the file's
pub fault_loads : (file : Data) (fault : PolicyFault) → Merges (texts_of file) (Err fault) → Loads file (Err fault)
fault_loads file NotObject said = said
fault_loads file (NotText name) said = said
fault_loads file (Cycle name) said = absurd (texts_no_cycle file name said)
fault_loads file TooMany said = said
fault_loads file Memory said = tt
