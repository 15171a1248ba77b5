-- The types of fields.
-- Source: Identity API v3; own limits.
use Rattle.std.specs.Prelude.{ℕ, suc, Bool, not, nat_le, if◌then◌else◌, List, [], ◌∷◌, length, Option, Some, None, option_and_then, Result, Ok}
use Rattle.std.specs.Int.{is_in_range}
use Rattle.std.specs.Str.{bytes_eq}
use Rattle.serde_json.specs.Data.{Data, Items, no_items, item}
use Rattle.serde_json.specs.Find.{as_array, as_bool, as_number, as_str, as_u64}
use Rattle.ks_base.specs.declared.limits.TheConstants.{DESCRIPTION_BYTES, ENDPOINT_URL_BYTES, NAME_BYTES, PASSWORD_BYTES}
use Rattle.ks_base.specs.declared.catalog.Interface.{Interface}
use Rattle.ks_base.specs.declared.catalog.Interface.TheVariants as interface
use Rattle.ks_base.specs.Catalog.{interface_word}
use Rattle.ks_base.specs.Ids.{is_id}
use Rattle.ks_base.specs.Results.{found, need, ◌>>=◌}
use Rattle.ks_shape.specs.declared.misfit.Misfit.{Misfit}
use Rattle.ks_shape.specs.declared.misfit.Misfit.TheVariants as misfit
use Rattle.ks_shape.specs.Fields.{FieldType}
use Rattle.ks_shape.specs.Times.{time_of}

-- | a text of any length
abbrev pub any_text : FieldType (List ℕ)
any_text value = found (as_str value) misfit.Kind

-- | a text of so many bytes
unfoldable pub text_of : ℕ → ℕ → FieldType (List ℕ)
text_of least most value = do
  text ← any_text value
  _ ← need (is_in_range least most (length text)) misfit.Range
  Ok text

abbrev pub name_text : FieldType (List ℕ)
name_text = text_of 1 NAME_BYTES

abbrev pub description_text : FieldType (List ℕ)
description_text = text_of 0 DESCRIPTION_BYTES

abbrev pub password_text : FieldType (List ℕ)
password_text = text_of 1 PASSWORD_BYTES

-- | the secret of an application credential
abbrev pub cred_secret : FieldType (List ℕ)
cred_secret = text_of 1 NAME_BYTES

-- | the type or the name of a service
abbrev pub service_text : FieldType (List ℕ)
service_text = text_of 0 NAME_BYTES

-- | the URL of an endpoint
abbrev pub endpoint_url : FieldType (List ℕ)
endpoint_url = text_of 1 ENDPOINT_URL_BYTES

-- an id, in a text
unfoldable pub id_in : List ℕ → Result (List ℕ) Misfit
id_in text = do
  _ ← need (is_id text) misfit.Range
  Ok text

-- | an id
unfoldable pub id_text : FieldType (List ℕ)
id_text value = do
  text ← any_text value
  id_in text

-- | a truth value
abbrev pub truth : FieldType Bool
truth value = found (as_bool value) misfit.Kind

-- | a truth value that is not true
unfoldable pub falsehood : FieldType Bool
falsehood value = do
  holds ← truth value
  _ ← need (not holds) misfit.Range
  Ok holds

-- | a truth value that is true
unfoldable pub affirmation : FieldType Bool
affirmation value = do
  holds ← truth value
  _ ← need holds misfit.Range
  Ok holds

-- | a whole number within these bounds; none below 0 or from 2^64 on, and none with a point or an exponent
unfoldable pub whole : ℕ → ℕ → FieldType ℕ
whole least most value = do
  number ← found (option_and_then as_u64 (as_number value)) misfit.Kind
  _ ← need (is_in_range least most number) misfit.Range
  Ok number

-- | the text of a moment
unfoldable pub time_text : FieldType ℕ
time_text value = do
  text ← any_text value
  found (time_of text) misfit.Kind

abbrev pub count_of : Items → ℕ
count_of no_items = 0
count_of (item value items) = suc (count_of items)

-- a list of so many values at most
unfoldable pub list_of : ℕ → FieldType Items
list_of most value = do
  items ← found (as_array value) misfit.Kind
  _ ← need (nat_le (count_of items) most) misfit.Range
  Ok items

-- | what is read of each of these values, or the first fault
unfoldable pub each_read : {A F : Type 0} → (Data → Result A F) → Items → Result (List A) F
each_read read no_items = Ok []
each_read read (item value items) = do
  first ← read value
  others ← each_read read items
  Ok (first ∷ others)

-- | the interface that a word names
abbrev pub interface_named : List ℕ → Option Interface
interface_named text =
    if bytes_eq text (interface_word interface.Public) then Some interface.Public
    else (if bytes_eq text (interface_word interface.Internal) then Some interface.Internal
    else (if bytes_eq text (interface_word interface.Admin) then Some interface.Admin else None))

-- | the word of an interface
unfoldable pub interface_text : FieldType Interface
interface_text value = do
  text ← any_text value
  found (interface_named text) misfit.Range
