-- The bodies that make and change rows. A creation needs the name; a change needs nothing, and it alone reads the id.
-- Source: Identity API v3.
use Rattle.std.specs.Prelude.{ℕ, Bool, true, false, List, Option, None, Result, Ok, codes}
use Rattle.ks_base.specs.declared.shapes.ShapeFault.{ShapeFault}
use Rattle.ks_base.specs.Results.{◌>>=◌}
use Rattle.ks_machine.specs.declared.bodies.Made.{Made}
use Rattle.ks_machine.specs.declared.bodies.Made.TheVariants as made
use Rattle.ks_machine.specs.declared.row_kind.MadeKind.{MadeKind}
use Rattle.ks_machine.specs.declared.row_kind.MadeKind.TheVariants as kind
use Rattle.ks_shape.specs.Places.{Place, names}
use Rattle.ks_shape.specs.Fields.{needed_if, optional}
use Rattle.ks_shape.specs.Factors.{factors_at}
use Rattle.ks_shape.specs.Types.{description_text, falsehood, id_text, name_text, password_text, truth}

abbrev pub id_at : Bool → List (List ℕ) → Place → Result (Option (List ℕ)) ShapeFault
id_at true names body = Ok None
id_at false names body = optional id_text names body

unfoldable pub domain_of : Bool → Place → Result Made ShapeFault
domain_of new body = do
  name ← needed_if new name_text (names (codes "domain.name")) body
  description ← optional description_text (names (codes "domain.description")) body
  enabled ← optional truth (names (codes "domain.enabled")) body
  id ← id_at new (names (codes "domain.id")) body
  Ok (made.Domain id name description enabled)

unfoldable pub project_of : Bool → Place → Result Made ShapeFault
project_of new body = do
  name ← needed_if new name_text (names (codes "project.name")) body
  domain ← optional id_text (names (codes "project.domain_id")) body
  parent ← optional id_text (names (codes "project.parent_id")) body
  description ← optional description_text (names (codes "project.description")) body
  enabled ← optional truth (names (codes "project.enabled")) body
  _ ← optional falsehood (names (codes "project.is_domain")) body
  id ← id_at new (names (codes "project.id")) body
  Ok (made.Project id name domain parent description enabled)

unfoldable pub user_of : Bool → Place → Result Made ShapeFault
user_of new body = do
  name ← needed_if new name_text (names (codes "user.name")) body
  domain ← optional id_text (names (codes "user.domain_id")) body
  password ← optional password_text (names (codes "user.password")) body
  enabled ← optional truth (names (codes "user.enabled")) body
  factors ← factors_at body
  id ← id_at new (names (codes "user.id")) body
  Ok (made.User id name domain password enabled factors)

unfoldable pub group_of : Bool → Place → Result Made ShapeFault
group_of new body = do
  name ← needed_if new name_text (names (codes "group.name")) body
  domain ← optional id_text (names (codes "group.domain_id")) body
  description ← optional description_text (names (codes "group.description")) body
  id ← id_at new (names (codes "group.id")) body
  Ok (made.Group id name domain description)

unfoldable pub role_of : Bool → Place → Result Made ShapeFault
role_of new body = do
  name ← needed_if new name_text (names (codes "role.name")) body
  description ← optional description_text (names (codes "role.description")) body
  id ← id_at new (names (codes "role.id")) body
  Ok (made.Role id name description)

-- the bodies that make and change rows
abbrev pub made_of : MadeKind → Bool → Place → Result Made ShapeFault
made_of kind.Domain new body = domain_of new body
made_of kind.Project new body = project_of new body
made_of kind.User new body = user_of new body
made_of kind.Group new body = group_of new body
made_of kind.Role new body = role_of new body
