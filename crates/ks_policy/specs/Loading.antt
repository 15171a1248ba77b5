-- What a policy file, an object of rules' names and texts, loads as.
-- Source: oslo.policy; own limits.
use Rattle.std.specs.Prelude.{◌≡◌, ℕ, nat_le, if◌then◌else◌, List, [], ◌∷◌, length, Result, Ok, Err, Vec}
use Rattle.std.specs.Option.{option_map_or}
use Rattle.std.specs.declared.alloc.Global.{Global}
use Rattle.serde_json.specs.Data.{Data, Members, no_members, member}
use Rattle.serde_json.specs.Find.{as_object, as_str}
use Rattle.ks_base.specs.Tables.{id_cmp, put_row}
use Rattle.ks_base.specs.declared.limits.TheConstants.{POLICY_RULES}
use Rattle.ks_rule.specs.Grammar.{IsRule}
use Rattle.ks_policy.specs.declared.fault.PolicyFault.{PolicyFault}
use Rattle.ks_policy.specs.declared.fault.PolicyFault.TheVariants.{NotObject, NotText, Cycle, TooMany, Memory}
use Rattle.ks_policy.specs.declared.texts.RuleText.{RuleText}
use Rattle.ks_policy.specs.Defaults.{defaults}
use Rattle.ks_machine.specs.Openings.{NamedRule}
use Rattle.ks_policy.specs.Cycles.{HasNoCycle, IsFirstCycleNamed}

-- the text in the place of its name, over the one that has it
abbrev pub put_text : List ℕ → List ℕ → List RuleText → List RuleText
put_text name text texts = put_row id_cmp (λ row. row.name) (record { name = name; text = text }) texts

-- the members of an object put over these texts, or the fault of the first whose value is no text
abbrev pub over : List RuleText → Members → Result (List RuleText) PolicyFault
over texts no_members = Ok texts
over texts (member name value members) =
    option_map_or (λ text. over (put_text name text texts) members) (as_str value) (Err (NotText name))

-- at most POLICY_RULES rules, the defaults among them
abbrev pub within_limit : Result (List RuleText) PolicyFault → Result (List RuleText) PolicyFault
within_limit (Ok texts) = if nat_le (length texts) POLICY_RULES then Ok texts else Err TooMany
within_limit (Err fault) = Err fault

-- | the texts of the rules, put over the default ones, or the first fault
unfoldable pub texts_of : Data → Result (List RuleText) PolicyFault
texts_of file = option_map_or (λ members. within_limit (over defaults members)) (as_object file) (Err NotObject)

-- | the same names in the same order, with the texts' trees
abbrev pub AreRules : List RuleText → List NamedRule → Type 0
AreRules [] [] = Unit {0}
AreRules [] (rule ∷ rules) = ⊥
AreRules (row ∷ texts) [] = ⊥
AreRules (row ∷ texts) (rule ∷ rules) = (rule.name ≡ row.name) × IsRule row.text rule.tree × AreRules texts rules

abbrev pub Reads : Data → List NamedRule → Type 0
Reads file rules = (texts : List RuleText) × (texts_of file ≡ Ok texts) × AreRules texts rules

-- the expected texts, or another fault than the expected one only for want of memory
abbrev pub Merges : Result (List RuleText) PolicyFault → Result (Vec RuleText Global) PolicyFault → Type 0
Merges expected (Ok texts) = expected ≡ Ok texts.items
Merges expected (Err Memory) = Unit {0}
Merges expected (Err fault) = expected ≡ Err fault

-- what a policy loads as, or the first cause that refuses it: no object, the first value that is no text, more than 1,024 rules, the first
-- rule that reaches itself; of want of memory nothing is said
abbrev pub Loads : Data → Result (List NamedRule) PolicyFault → Type 0
Loads file (Ok rules) = Reads file rules × HasNoCycle rules
Loads file (Err (Cycle name)) = (rules : List NamedRule) × Reads file rules × IsFirstCycleNamed rules name
Loads file (Err Memory) = Unit {0}
Loads file (Err fault) = texts_of file ≡ Err fault
