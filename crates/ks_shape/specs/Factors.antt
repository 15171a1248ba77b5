-- The options of a user: the methods that it has to log in by.
-- Source: Identity API v3, multi-factor authentication rules.
use Rattle.std.specs.Prelude.{ℕ, bit_or, true, if◌then◌else◌, List, [], Option, Some, None, Result, Ok, Err, codes, unwrap_or}
use Rattle.std.specs.Str.{bytes_eq}
use Rattle.serde_json.specs.Data.{Data, Items, no_items, item}
use Rattle.serde_json.specs.Find.{as_array}
use Rattle.ks_base.specs.declared.limits.TheConstants.{MFA_RULES}
use Rattle.ks_base.specs.declared.shapes.ShapeFault.{ShapeFault}
use Rattle.ks_base.specs.Results.{found, ◌>>=◌}
use Rattle.ks_machine.specs.declared.bodies.MfaIn.{MfaIn}
use Rattle.ks_shape.specs.declared.misfit.Misfit.{Misfit}
use Rattle.ks_shape.specs.declared.misfit.Misfit.TheVariants as misfit
use Rattle.ks_shape.specs.Fields.{FieldType, optional, unless_null}
use Rattle.ks_shape.specs.Places.{Place, names, place_at}
use Rattle.ks_shape.specs.Types.{any_text, each_read, list_of, truth}

-- the set that has this method alone
abbrev pub factor_named : List ℕ → Option ℕ
factor_named text =
    if bytes_eq text (codes "password") then Some 1
    else (if bytes_eq text (codes "totp") then Some 4 else None)

unfoldable pub factor_text : FieldType ℕ
factor_text value = do
  text ← any_text value
  found (factor_named text) misfit.Range

-- the set of one method or of two
unfoldable pub rule_in : Items → Result ℕ Misfit
rule_in no_items = Err misfit.Range
rule_in (item only no_items) = factor_text only
rule_in (item first (item second no_items)) = do
  one ← factor_text first
  other ← factor_text second
  Ok (bit_or one other)
rule_in (item first (item second (item third items))) = Err misfit.Range

unfoldable pub mfa_rule : FieldType ℕ
mfa_rule value = do
  items ← found (as_array value) misfit.Kind
  rule_in items

-- the rules of a list: a user has to meet one of them
unfoldable pub mfa_rules : FieldType (List ℕ)
mfa_rules value = do
  items ← list_of MFA_RULES value
  each_read mfa_rule items

-- | the options of a user, which say the whole: rules of one method or of two, of which it has to meet one
unfoldable pub options_of : Place → Result MfaIn ShapeFault
options_of place = do
  enabled ← optional truth (names (codes "multi_factor_auth_enabled")) place
  rules ← optional mfa_rules (names (codes "multi_factor_auth_rules")) place
  Ok (record { enabled = unwrap_or enabled true; rules = unwrap_or rules [] })

abbrev pub options_from : Option Data → Place → Result (Option MfaIn) ShapeFault
options_from None place = Ok None
options_from (Some value) place = do
  said ← options_of place
  Ok (Some said)

-- the options, where there are any
unfoldable pub factors_at : Place → Result (Option MfaIn) ShapeFault
factors_at body = do
  place ← place_at (names (codes "user.options")) body
  options_from (unless_null place.value) place
