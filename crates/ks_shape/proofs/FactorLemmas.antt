-- The rules that are read of a user's options are rules, and as many as there may be.
use Rattle.std.proofs.Common.{◌≡◌, ◌⊎◌, inl, inr, ℕ, ◌≤◌, Bool, true, false, ◌+◌, ◌<◌, List, [], ◌∷◌, ◌++◌, length, get_or, drop, Option, Some, None, Result, Ok, Err, refl, sym, ap, ◌∙◌, arith, bit_or}
use Rattle.std.specs.Prelude.{IfOk, IsErrAnd, codes, if◌then◌else◌, unwrap_or}
use Rattle.std.specs.Str.{bytes_eq}
use Rattle.serde_json.specs.Data.{Data, Items, no_items, item}
use Rattle.serde_json.specs.Find.{as_array}
use Rattle.ks_json.specs.View.{items_view, view}
use Rattle.ks_json.specs.declared.value.Value.{Value}
use Rattle.ks_base.specs.declared.limits.TheConstants.{MFA_RULES}
use Rattle.ks_base.specs.Results.{found}
use Rattle.ks_machine.specs.declared.bodies.MfaIn.{MfaIn}
use Rattle.ks_machine.specs.Ranges.{AreMfaRules, IsMfaRule}
use Rattle.ks_shape.specs.declared.misfit.Misfit.{Misfit}
use Rattle.ks_shape.specs.declared.misfit.Misfit.TheVariants as misfit
use Rattle.ks_shape.specs.declared.misfit.Unread.{Unread}
use Rattle.ks_shape.specs.declared.misfit.Unread.TheVariants as unread
use Rattle.ks_shape.specs.Factors.{factor_text, factors_at, mfa_rule, mfa_rules, options_from, options_of, rule_in}
use Rattle.ks_shape.specs.Fields.{optional, unless_null}
use Rattle.ks_shape.specs.Places.{Place, names, place_at}
use Rattle.ks_shape.specs.Readings.{Fits}
use Rattle.ks_shape.specs.Types.{any_text, count_of, each_read, list_of, truth}
use Rattle.ks_shape.proofs.ListLemmas.{AreEach, each_in, list_in}
use Rattle.ks_shape.proofs.NameLemmas.{behind, each_end, each_fault, each_step}
use Rattle.ks_shape.proofs.RefusalLemmas.{unfit}
use Rattle.ks_shape.proofs.PropertyLemmas.{If, optional_in, skip, step, weaken}

-- lists of other lengths are no rules
pub no_rule : (values : List Value) → (length values ≡ 1 → ⊥) → (length values ≡ 2 → ⊥) → rule_in (items_view values) ≡ Err misfit.Range
unfolding rule_in
no_rule [] one two = refl
no_rule (value ∷ []) one two = absurd (one refl)
no_rule (value ∷ (second ∷ [])) one two = absurd (two refl)
no_rule (value ∷ (second ∷ (third ∷ values))) one two = refl

-- one method
abbrev IsFactor : ℕ → Type 0
IsFactor factor = (factor ≡ 1) ⊎ (factor ≡ 4)

named_in : (password totp : Bool) → IfOk (found (if password then Some 1 else (if totp then Some 4 else None)) misfit.Range) IsFactor
named_in true totp = inl refl
named_in false true = inr refl
named_in false false = tt

factor_in : (value : Data) → IfOk (factor_text value) IsFactor
unfolding factor_text
factor_in value = skip IsFactor (any_text value) _ (λ text. named_in (bytes_eq text (codes "password")) (bytes_eq text (codes "totp")))

alone : (factor : ℕ) → IsFactor factor → IsMfaRule factor
alone factor is = elim is [ inl one ↦ inl one | inr four ↦ inr (inl four) ]

together : (one other : ℕ) → IsFactor one → IsFactor other → IsMfaRule (bit_or one other)
together one other first second = elim first [
  | inl a ↦ elim second [ inl b ↦ rw (a, b) (inl refl) | inr b ↦ rw (a, b) (inr (inr refl)) ]
  | inr a ↦ elim second [ inl b ↦ rw (a, b) (inr (inr refl)) | inr b ↦ rw (a, b) (inr (inl refl)) ]
]

rule_is : (items : Items) → IfOk (rule_in items) IsMfaRule
unfolding rule_in
rule_is no_items = tt
rule_is (item only no_items) = weaken IsMfaRule IsFactor (factor_text only) (factor_in only) alone
rule_is (item first (item second no_items)) =
    step IsMfaRule IsFactor (factor_text first) _ (factor_in first) (λ one is_one.
    step IsMfaRule IsFactor (factor_text second) _ (factor_in second) (λ other is_other. together one other is_one is_other))
rule_is (item first (item second (item third items))) = tt

mfa_rule_is : (value : Data) → IfOk (mfa_rule value) IsMfaRule
unfolding mfa_rule
mfa_rule_is value = skip IsMfaRule (found (as_array value) misfit.Kind) _ (λ items. rule_is items)

rules_in : (value : Data) → IfOk (mfa_rules value) AreMfaRules
unfolding mfa_rules
rules_in value =
    step AreMfaRules (λ items. count_of items ≤ MFA_RULES) (list_of MFA_RULES value) _ (list_in MFA_RULES value) (λ items few.
    weaken AreMfaRules (AreEach IsMfaRule (count_of items)) (each_read mfa_rule items) (each_in IsMfaRule mfa_rule mfa_rule_is items) (λ rules are.
    (are.0, omega (arith, are.1, few))))

given_or_none : (rules : Option (List ℕ)) → If AreMfaRules rules → AreMfaRules (unwrap_or rules [])
given_or_none (Some rules) are = are
given_or_none None are = (tt, omega arith)

abbrev IsSaid : MfaIn → Type 0
IsSaid said = AreMfaRules said.rules

options_in : (place : Place) → IfOk (options_of place) IsSaid
unfolding options_of
options_in place =
    skip IsSaid (optional truth (names (codes "multi_factor_auth_enabled")) place) _ (λ enabled.
    step IsSaid (If AreMfaRules) (optional mfa_rules (names (codes "multi_factor_auth_rules")) place) _ (optional_in AreMfaRules mfa_rules rules_in _ place) (λ rules are.
    given_or_none rules are))

from_in : (value : Option Data) (place : Place) → IfOk (options_from value place) (If IsSaid)
from_in None place = tt
from_in (Some value) place = step (If IsSaid) IsSaid (options_of place) _ (options_in place) (λ said is. is)

pub factors_in : (body : Place) → IfOk (factors_at body) (If (λ (said : MfaIn). AreMfaRules said.rules))
unfolding factors_at
factors_in body = skip (If IsSaid) (place_at (names (codes "user.options")) body) _ (λ place. from_in (unless_null place.value) place)

-- one rule more of a list

abbrev rules_from : List ℕ → List Value → ℕ → Result (List ℕ) Misfit
rules_from rules values i = behind rules (each_read mfa_rule (items_view (drop i values)))

pub rules_step : (rules more : List ℕ) (values : List Value) (i : ℕ) (value : Value) (rule : ℕ) → i < length values → value ≡ get_or values i value
    → Ok rule ≡ mfa_rule (view value) → more ≡ rules ++ rule ∷ [] → rules_from rules values i ≡ each_read mfa_rule (items_view values)
    → rules_from more values (i + 1) ≡ each_read mfa_rule (items_view values)
rules_step rules more values i value rule lt is e adds so_far =
    ap (λ list. rules_from list values (i + 1)) adds ∙ each_step mfa_rule rules values i value rule lt is (sym e) ∙ so_far

pub rules_fault : (out : Result (List ℕ) Unread) (why : Misfit) (rules : List ℕ) (values : List Value) (i : ℕ) (value : Value) → i < length values
    → value ≡ get_or values i value → Err why ≡ mfa_rule (view value) → IsErrAnd out (λ x. x ≡ unread.Misfit why)
    → rules_from rules values i ≡ each_read mfa_rule (items_view values) → Fits out (each_read mfa_rule (items_view values))
rules_fault out why rules values i value lt is e h so_far =
    unfit out why (each_read mfa_rule (items_view values)) h (sym so_far ∙ each_fault mfa_rule rules values i value why lt is (sym e))

pub rules_end : (rules bytes : List ℕ) (values : List Value) (i : ℕ) → length values ≤ i → bytes ≡ rules
    → rules_from rules values i ≡ each_read mfa_rule (items_view values) → each_read mfa_rule (items_view values) ≡ Ok bytes
rules_end rules bytes values i past is so_far = sym so_far ∙ each_end mfa_rule rules values i past ∙ ap (λ list. Ok list) (sym is)
