-- What bodies ask for is what their forms take, and in range.
use Rattle.std.specs.Prelude.{◌≡◌, ℕ, Bool, List, Ok}
use Rattle.ks_base.specs.declared.catalog.CatalogIn.{CatalogIn}
use Rattle.ks_base.specs.declared.catalog.CatalogKind.{CatalogKind}
use Rattle.ks_machine.specs.declared.bodies.Made.{Made}
use Rattle.ks_machine.specs.declared.row_kind.MadeKind.{MadeKind}
use Rattle.ks_machine.specs.Fit.{IsAppCredBody, IsCatalogBody, IsMade, IsProof, IsScope, IsTrustBody}
use Rattle.ks_machine.specs.Ranges.{IsPassword, IsTotpSecret}
use Rattle.ks_machine.specs.Targets.{kind_of}
use Rattle.ks_shape.specs.declared.form.Form.{Form}
use Rattle.ks_shape.specs.declared.form.Form.TheVariants as form
use Rattle.ks_shape.specs.declared.form.BodyIn.{BodyIn}
use Rattle.ks_shape.specs.declared.form.BodyIn.TheVariants as body
use Rattle.ks_shape.specs.Bodies.{body_of, catalog_body_of}

-- a row of this kind, in range
abbrev pub IsMadeFor : MadeKind → Bool → Made → Type 0
IsMadeFor kind new made = (kind_of made ≡ kind) × IsMade new made

-- | what a form takes: a login, a row of its kind, two passwords, a trust, an application credential or a secret of one-time codes, with
-- each field in range
abbrev pub IsBodyFor : Form → BodyIn → Type 0
IsBodyFor form.Login (body.Login login) = IsProof login.proof × IsScope login.scope
IsBodyFor form.Login (body.Made made) = ⊥
IsBodyFor form.Login (body.Password original password) = ⊥
IsBodyFor form.Login (body.Trust trust) = ⊥
IsBodyFor form.Login (body.AppCred cred) = ⊥
IsBodyFor form.Login (body.Secret secret) = ⊥
IsBodyFor (form.Made kind new) (body.Login login) = ⊥
IsBodyFor (form.Made kind new) (body.Made made) = IsMadeFor kind new made
IsBodyFor (form.Made kind new) (body.Password original password) = ⊥
IsBodyFor (form.Made kind new) (body.Trust trust) = ⊥
IsBodyFor (form.Made kind new) (body.AppCred cred) = ⊥
IsBodyFor (form.Made kind new) (body.Secret secret) = ⊥
IsBodyFor form.Password (body.Login login) = ⊥
IsBodyFor form.Password (body.Made made) = ⊥
IsBodyFor form.Password (body.Password original password) = IsPassword original × IsPassword password
IsBodyFor form.Password (body.Trust trust) = ⊥
IsBodyFor form.Password (body.AppCred cred) = ⊥
IsBodyFor form.Password (body.Secret secret) = ⊥
IsBodyFor form.Trust (body.Login login) = ⊥
IsBodyFor form.Trust (body.Made made) = ⊥
IsBodyFor form.Trust (body.Password original password) = ⊥
IsBodyFor form.Trust (body.Trust trust) = IsTrustBody trust
IsBodyFor form.Trust (body.AppCred cred) = ⊥
IsBodyFor form.Trust (body.Secret secret) = ⊥
IsBodyFor form.AppCred (body.Login login) = ⊥
IsBodyFor form.AppCred (body.Made made) = ⊥
IsBodyFor form.AppCred (body.Password original password) = ⊥
IsBodyFor form.AppCred (body.Trust trust) = ⊥
IsBodyFor form.AppCred (body.AppCred cred) = IsAppCredBody cred
IsBodyFor form.AppCred (body.Secret secret) = ⊥
IsBodyFor form.Secret (body.Login login) = ⊥
IsBodyFor form.Secret (body.Made made) = ⊥
IsBodyFor form.Secret (body.Password original password) = ⊥
IsBodyFor form.Secret (body.Trust trust) = ⊥
IsBodyFor form.Secret (body.AppCred cred) = ⊥
IsBodyFor form.Secret (body.Secret secret) = IsTotpSecret secret.secret

-- law: each body that is read is one that its form takes
abbrev pub BodiesAreInRange : Type 0
BodiesAreInRange = (form : Form) (bytes : List ℕ) (body : BodyIn) → body_of form bytes ≡ Ok body → IsBodyFor form body

-- | a row of the catalog of this kind, in range
abbrev pub IsCatalogFor : CatalogKind → Bool → CatalogIn → Type 0
IsCatalogFor kind new asked = (asked.of ≡ kind) × IsCatalogBody new kind asked

-- law: what is read of a row of the catalog is of its kind and in range, and a new one has what it can't do without
abbrev pub CatalogBodiesAreInRange : Type 0
CatalogBodiesAreInRange =
    (kind : CatalogKind) (new : Bool) (bytes : List ℕ) (asked : CatalogIn) → catalog_body_of kind new bytes ≡ Ok asked → IsCatalogFor kind new asked
