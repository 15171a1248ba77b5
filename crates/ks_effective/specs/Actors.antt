-- The actors whose grants act for a user: the user itself and the groups that it is in.
-- Source: Identity API v3, role assignments.
use Rattle.std.specs.Prelude.{List, ◌∷◌, map}
use Rattle.ks_base.specs.declared.grants.Actor.{Actor}
use Rattle.ks_base.specs.declared.grants.Actor.TheVariants as actor
use Rattle.ks_base.specs.Rows.{Id}

-- | a user and its groups
pub record ActorsOf : Type 0 where
  pub user : Id
  pub groups : List Id

-- these as the actors to whom roles are granted: a user and a group with one id are two actors
abbrev pub actors_in : ActorsOf → List Actor
actors_in actors = actor.User actors.user ∷ map actor.Group actors.groups
