-- Which grants the filters of a listing leave.
use Rattle.std.specs.Prelude.{◌≡◌, true, Some}
use Rattle.ks_base.specs.declared.grants.Actor.{Actor}
use Rattle.ks_base.specs.declared.grants.GrantRow.{GrantRow}
use Rattle.ks_base.specs.declared.grants.Target.{Target}
use Rattle.ks_base.specs.Grants.{is_at_target, is_of_actor}
use Rattle.ks_base.specs.Rows.{Id, Text}
use Rattle.ks_machine.specs.Assignments.{is_listed}
use Rattle.ks_rule.specs.Kinds.{Fields, value_in}

-- a filter gives this id
abbrev pub IsAsked : Fields → Text → Id → Type 0
IsAsked filters name id = value_in filters name ≡ Some id

-- all grants that pass are of this actor, or at this target
abbrev pub AreOf : Fields → Actor → Type 0
AreOf filters actor = (row : GrantRow) → is_listed filters row ≡ true → is_of_actor actor row ≡ true

abbrev pub AreAt : Fields → Target → Type 0
AreAt filters target = (row : GrantRow) → is_listed filters row ≡ true → is_at_target target row ≡ true
