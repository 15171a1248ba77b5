-- Rows of one kind that meet in an id or a name.
use Rattle.std.specs.Prelude.{ℕ, ◌+◌, Bool, true, false, ◌&&◌, List, drop, find, position, Option, Some, None, option_map}
use Rattle.ks_base.specs.Rows.{Id, same}
use Rattle.ks_base.specs.declared.rows.DomainRow.{DomainRow}
use Rattle.ks_base.specs.declared.rows.GroupRow.{GroupRow}
use Rattle.ks_base.specs.declared.rows.ProjectRow.{ProjectRow}
use Rattle.ks_base.specs.declared.rows.RoleRow.{RoleRow}
use Rattle.ks_written.specs.declared.written.WrittenUser.{WrittenUser}

-- what a row is named, in its domain, or among all where it lies in none
pub record NamedRow : Type 0 where
  pub domain : Option Id
  pub name : List ℕ

abbrev pub domain_named : DomainRow → NamedRow
domain_named row = record { domain = None; name = row.name }

abbrev pub project_named : ProjectRow → NamedRow
project_named row = record { domain = Some row.domain; name = row.name }

abbrev pub user_named : WrittenUser → NamedRow
user_named row = record { domain = Some row.domain; name = row.name }

abbrev pub group_named : GroupRow → NamedRow
group_named row = record { domain = Some row.domain; name = row.name }

abbrev pub role_named : RoleRow → NamedRow
role_named row = record { domain = None; name = row.name }

abbrev pub has_id : {R : Type 0} → (R → Id) → Id → R → Bool
has_id key id row = same (key row) id

abbrev pub in_one_domain : Option Id → Option Id → Bool
in_one_domain None None = true
in_one_domain None (Some other) = false
in_one_domain (Some domain) None = false
in_one_domain (Some domain) (Some other) = same domain other

abbrev pub has_name : {R : Type 0} → (R → NamedRow) → R → R → Bool
has_name named row other =
    in_one_domain (named row).domain (named other).domain && same (named row).name (named other).name

-- the place of the first row with the id
abbrev pub first_place : {R : Type 0} → (R → Id) → Id → List R → Option ℕ
first_place key id rows = position (has_id key id) rows

-- the place of the first row behind this place that passes
abbrev pub next_place : {R : Type 0} → (R → Bool) → ℕ → List R → Option ℕ
next_place passes at rows = option_map (λ n. at + 1 + n) (position passes (drop (at + 1) rows))

-- the places of two rows that meet
abbrev pub meeting : Option ℕ → (ℕ → Option ℕ) → Option (ℕ × ℕ)
meeting None next = None
meeting (Some first) next = option_map (λ later. (first, later)) (next first)

-- | the places of the first two rows with an id
abbrev pub id_meeting : {R : Type 0} → (R → Id) → Id → List R → Option (ℕ × ℕ)
id_meeting key id rows = meeting (first_place key id rows) (λ first. next_place (has_id key id) first rows)

abbrev pub next_named : {R : Type 0} → (R → NamedRow) → Option R → List R → ℕ → Option ℕ
next_named named None rows first = None
next_named named (Some row) rows first = next_place (has_name named row) first rows

-- | the place of the row with an id, and of the next one with its name, in its domain where it lies in one
abbrev pub name_meeting : {R : Type 0} → (R → Id) → (R → NamedRow) → Id → List R → Option (ℕ × ℕ)
name_meeting key named id rows = meeting (first_place key id rows) (next_named named (find (has_id key id) rows) rows)
