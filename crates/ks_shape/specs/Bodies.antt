-- The bodies of requests, from their bytes.
-- Source: RFC 8259; Identity API v3.
use Rattle.std.specs.Prelude.{ℕ, Bool, if◌then◌else◌, List, [], Option, Some, None, Result, Ok, codes}
use Rattle.std.specs.Str.{is_utf8}
use Rattle.serde_json.specs.Data.{Data}
use Rattle.serde_json.specs.Read.{read}
use Rattle.ks_base.specs.declared.catalog.CatalogIn.{CatalogIn}
use Rattle.ks_base.specs.declared.catalog.CatalogKind.{CatalogKind}
use Rattle.ks_base.specs.declared.shapes.ShapeFault.{ShapeFault}
use Rattle.ks_base.specs.declared.shapes.ShapeFault.TheVariants as fault
use Rattle.ks_base.specs.Results.{found, ◌>>=◌}
use Rattle.ks_shape.specs.declared.form.Form.{Form}
use Rattle.ks_shape.specs.declared.form.Form.TheVariants as form
use Rattle.ks_shape.specs.declared.form.BodyIn.{BodyIn}
use Rattle.ks_shape.specs.declared.form.BodyIn.TheVariants as body
use Rattle.ks_shape.specs.Places.{Place, names}
use Rattle.ks_shape.specs.Fields.{needed}
use Rattle.ks_shape.specs.Types.{password_text}
use Rattle.ks_shape.specs.Logins.{login_of}
use Rattle.ks_shape.specs.Rows.{made_of}
use Rattle.ks_shape.specs.Catalog.{catalog_row_of}
use Rattle.ks_shape.specs.Trusts.{trust_of}
use Rattle.ks_shape.specs.AppCreds.{app_cred_of}
use Rattle.ks_shape.specs.Secrets.{secret_of}

-- the original password, then the new one
unfoldable pub password_of : Place → Result BodyIn ShapeFault
password_of place = do
  original ← needed password_text (names (codes "user.original_password")) place
  password ← needed password_text (names (codes "user.password")) place
  Ok (body.Password original password)

-- the value of a JSON text (RFC 8259) in UTF-8 of at most 127 levels
abbrev pub document : List ℕ → Option Data
document bytes = if is_utf8 bytes then read bytes else None

-- a value as the place of a whole document
abbrev pub whole_document : Data → Place
whole_document value = record { path = []; value = Some value }

unfoldable pub form_of : Form → Place → Result BodyIn ShapeFault
form_of form.Login place = do
  login ← login_of place
  Ok (body.Login login)
form_of (form.Made kind new) place = do
  made ← made_of kind new place
  Ok (body.Made made)
form_of form.Password place = password_of place
form_of form.Trust place = do
  trust ← trust_of place
  Ok (body.Trust trust)
form_of form.AppCred place = do
  cred ← app_cred_of place
  Ok (body.AppCred cred)
form_of form.Secret place = do
  secret ← secret_of place
  Ok (body.Secret secret)

-- the typed body, or the first fault in the order of the form's fields
unfoldable pub body_of : Form → List ℕ → Result BodyIn ShapeFault
body_of form bytes = do
  value ← found (document bytes) fault.NotJson
  form_of form (whole_document value)

-- the same of a new row of the catalog, or of a change of one, in the order of its kind's fields
unfoldable pub catalog_body_of : CatalogKind → Bool → List ℕ → Result CatalogIn ShapeFault
catalog_body_of kind new bytes = do
  value ← found (document bytes) fault.NotJson
  catalog_row_of kind new (whole_document value)
