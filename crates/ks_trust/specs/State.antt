-- Trusts as a list of rows in the order of their ids, and the lists of ids that are told of them.
use Rattle.std.specs.Prelude.{◌≡◌, Bool, true, false, not, ◌||◌, List, [], ◌∷◌, filter, map, Option, Some}
use Rattle.std.specs.declared.cmp.Ordering.TheVariants.{Less}
use Rattle.std.specs.List.{AllByRecursion-prop}
use Rattle.std.specs.Option.{option_map_or}
use Rattle.std.specs.Ordering.{Ordering-set}
use Rattle.std.specs.Coded.{Unit-prop, ×_prop}
use Rattle.ks_base.specs.declared.events.Revoke.{Revoke}
use Rattle.ks_base.specs.declared.trusts.TrustRow.{TrustRow}
use Rattle.ks_base.specs.Rows.{Id, has_id}
use Rattle.ks_base.specs.Tables.{id_cmp, put_row, Among, IsAscending}
use Rattle.ks_base.specs.Trusts.{has_role, names_trust, parent_trust}

-- the ids of trusts; those that a list of ids names
abbrev pub ids_of : List TrustRow → List Id
ids_of trusts = map (λ trust. trust.id) trusts

abbrev pub is_listed : List Id → TrustRow → Bool
is_listed ids trust = has_id ids trust.id

-- a trust of what a revocation names, or one with the role, if there is one
abbrev pub is_touched : Revoke → Option Id → TrustRow → Bool
is_touched what role trust = names_trust what trust || option_map_or (λ id. has_role id trust) role false

-- with each trust these ids name all its redelegations
abbrev pub IsClosed : List TrustRow → List Id → Type 0
IsClosed trusts ids =
    (trust parent : TrustRow) → Among trusts trust → parent_trust trusts trust.parent ≡ Some parent →
    is_listed ids parent ≡ true → is_listed ids trust ≡ true

-- the lists that changes make
abbrev pub with_trust : TrustRow → List TrustRow → List TrustRow
with_trust trust trusts = put_row id_cmp (λ row. row.id) trust trusts

abbrev pub without_trusts : List Id → List TrustRow → List TrustRow
without_trusts ids trusts = filter (λ trust. not (is_listed ids trust)) trusts

-- that ids ascend can be so in one way alone
pub ids_ascend-prop : (ids : List Id) → IsProp (IsAscending id_cmp (λ id. id) ids)
ids_ascend-prop [] = Unit-prop
ids_ascend-prop (id ∷ ids) = ×_prop (AllByRecursion-prop (λ other. id_cmp id other ≡ Less) (λ other. Ordering-set (id_cmp id other) Less) ids) (ids_ascend-prop ids)
