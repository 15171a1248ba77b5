-- How bodies name rows: by an id, or where there is none by a name.
-- Source: Identity API v3, authentication.
use Rattle.std.specs.Prelude.{ℕ, List, Option, Some, None, Result, Ok, codes}
use Rattle.serde_json.specs.Data.{Items}
use Rattle.ks_base.specs.declared.shapes.ShapeFault.{ShapeFault}
use Rattle.ks_base.specs.Results.{◌>>=◌}
use Rattle.ks_machine.specs.declared.bodies.Named.{Named}
use Rattle.ks_machine.specs.declared.bodies.Named.TheVariants as named
use Rattle.ks_machine.specs.declared.bodies.UserNamed.{UserNamed}
use Rattle.ks_machine.specs.declared.bodies.UserNamed.TheVariants as user
use Rattle.ks_machine.specs.declared.bodies.CredNamed.{CredNamed}
use Rattle.ks_machine.specs.declared.bodies.CredNamed.TheVariants as cred
use Rattle.ks_machine.specs.declared.bodies.ProjectNamed.{ProjectNamed}
use Rattle.ks_machine.specs.declared.bodies.ProjectNamed.TheVariants as project
use Rattle.ks_shape.specs.Places.{Place, names, place_at}
use Rattle.ks_shape.specs.Fields.{needed, optional}
use Rattle.ks_shape.specs.Types.{each_read, id_text, name_text}

abbrev pub own_id : Place → Result (Option (List ℕ)) ShapeFault
own_id place = optional id_text (names (codes "id")) place

abbrev pub own_name : Place → Result (List ℕ) ShapeFault
own_name place = needed name_text (names (codes "name")) place

abbrev pub named_by : Option (List ℕ) → Place → Result Named ShapeFault
named_by (Some id) place = Ok (named.Id id)
named_by None place = do
  name ← own_name place
  Ok (named.Name name)

-- a row that is named by its id, or else by its name
unfoldable pub named_at : Place → Result Named ShapeFault
named_at place = do
  id ← own_id place
  named_by id place

-- a name, and the domain that it is unique in
unfoldable pub name_and_domain : Place → Result (List ℕ × Named) ShapeFault
name_and_domain place = do
  name ← own_name place
  below ← place_at (names (codes "domain")) place
  domain ← named_at below
  Ok (name, domain)

abbrev pub user_by : Option (List ℕ) → Place → Result UserNamed ShapeFault
user_by (Some id) place = Ok (user.Id id)
user_by None place = do
  both ← name_and_domain place
  Ok (user.Name both.0 both.1)

unfoldable pub user_at : Place → Result UserNamed ShapeFault
user_at place = do
  id ← own_id place
  user_by id place

abbrev pub project_by : Option (List ℕ) → Place → Result ProjectNamed ShapeFault
project_by (Some id) place = Ok (project.Id id)
project_by None place = do
  both ← name_and_domain place
  Ok (project.Name both.0 both.1)

unfoldable pub project_at : Place → Result ProjectNamed ShapeFault
project_at place = do
  id ← own_id place
  project_by id place

-- a name, and the user of whose credentials it is the name
unfoldable pub name_and_user : Place → Result (List ℕ × UserNamed) ShapeFault
name_and_user place = do
  name ← own_name place
  below ← place_at (names (codes "user")) place
  user ← user_at below
  Ok (name, user)

abbrev pub cred_by : Option (List ℕ) → Place → Result CredNamed ShapeFault
cred_by (Some id) place = Ok (cred.Id id)
cred_by None place = do
  both ← name_and_user place
  Ok (cred.Name both.0 both.1)

unfoldable pub cred_at : Place → Result CredNamed ShapeFault
cred_at place = do
  id ← own_id place
  cred_by id place

-- what each of these values names; all are known by one path
abbrev pub all_named : List ℕ → Items → Result (List Named) ShapeFault
all_named path items = each_read (λ value. named_at (record { path = path; value = Some value })) items
