-- The methods by which a login says who it is.
-- Source: Identity API v3, authentication.
use Rattle.std.specs.Prelude.{ℕ, Bool, ◌&&◌, ◌||◌, if◌then◌else◌, List, Option, Some, None, option_and_then, codes}
use Rattle.std.specs.Str.{bytes_eq}
use Rattle.serde_json.specs.Data.{Items, no_items, item}
use Rattle.serde_json.specs.Find.{as_array, as_str}
use Rattle.ks_base.specs.Results.{found, ◌>>=◌}
use Rattle.ks_shape.specs.declared.method.LoginMethod.{LoginMethod}
use Rattle.ks_shape.specs.declared.method.LoginMethod.TheVariants as method
use Rattle.ks_shape.specs.declared.misfit.Misfit.TheVariants as misfit
use Rattle.ks_shape.specs.Fields.{FieldType}

-- one of the four methods
abbrev pub method_named : List ℕ → Option LoginMethod
method_named text =
    if bytes_eq text (codes "password") then Some method.Password
    else (if bytes_eq text (codes "totp") then Some method.Totp
    else (if bytes_eq text (codes "token") then Some method.Token
    else (if bytes_eq text (codes "application_credential") then Some method.AppCred else None)))

abbrev pub are_both : List ℕ → List ℕ → Bool
are_both first second = bytes_eq first (codes "password") && bytes_eq second (codes "totp")

-- a password and a code go together, in either order
abbrev pub pair_named : List ℕ → List ℕ → Option LoginMethod
pair_named first second = if are_both first second || are_both second first then Some method.Both else None

-- the method that a list of texts says: one, or two that go together
abbrev pub method_in : Items → Option LoginMethod
method_in no_items = None
method_in (item only no_items) = option_and_then (λ text. method_named text) (as_str only)
method_in (item first (item second no_items)) = option_and_then (λ a. option_and_then (λ b. pair_named a b) (as_str second)) (as_str first)
method_in (item first (item second (item third items))) = None

-- | the methods of a login: one of four, or a password and a code in either order
unfoldable pub login_methods : FieldType LoginMethod
login_methods value = do
  items ← found (as_array value) misfit.Kind
  found (method_in items) misfit.Range
