use Rattle.std.proofs.Common.{◌≡◌, ◌⊎◌, inl, inr, List, [], ◌∷◌, refl, sym, ap, subst, ◌∙◌}
use Rattle.std.specs.declared.cmp.Ordering.{Ordering}
use Rattle.std.specs.declared.cmp.Ordering.TheVariants.{Less, Equal, Greater}
use Rattle.std.specs.Ordering.{is_eq}
use Rattle.std.specs.Prelude.{◌↔◌}
use Rattle.ks_base.specs.declared.grants.GrantRow.{GrantRow}
use Rattle.ks_base.specs.declared.grants.ImplyRow.{ImplyRow}
use Rattle.ks_base.specs.declared.grants.Target.{Target}
use Rattle.ks_base.specs.OrderLaws.{imply_exact}
use Rattle.ks_base.specs.Orders.{grant_cmp, imply_cmp}
use Rattle.ks_base.specs.Roles.{IsWalk, Walks, IsImplied, Effective}
use Rattle.ks_base.specs.Rows.{Id, Rows}
use Rattle.ks_base.specs.Tables.{Among, drop_row, put_row}
use Rattle.ks_base.proofs.RowLemmas.{among_put, put_among, among_put_other, among_drop}
use Rattle.ks_base.proofs.WalkLemmas.{implied_on, implied_twice, monotone}

-- what is effective without a grant is effective with it
pub taken_away : (rows : Rows) (grant : GrantRow) (user : Id) (wanted : Target) (role : Id) →
    Effective (record rows { grants = drop_row grant_cmp (λ row. row) grant rows.grants }) user wanted role → Effective rows user wanted role
taken_away rows grant user wanted role effective = record {
  grant = effective.grant;
  stands = (among_drop grant_cmp (λ row. row) grant rows.grants effective.grant effective.stands).0;
  acts = effective.acts;
  reaches = effective.reaches;
  walks = effective.walks;
}

abbrev with_row : ImplyRow → List ImplyRow → List ImplyRow
with_row row rows = put_row imply_cmp (λ next. next) row rows

keeps_by : (row x : ImplyRow) (rows : List ImplyRow) (o : Ordering) → imply_cmp x row ≡ o → Among rows x → Among (with_row row rows) x
keeps_by row x rows Less is among = among_put_other imply_cmp (λ next. next) row rows x (ap is_eq is) among
keeps_by row x rows Equal is among = subst (Among (with_row row rows)) (sym (imply_exact x row is)) (put_among imply_cmp (λ next. next) row rows)
keeps_by row x rows Greater is among = among_put_other imply_cmp (λ next. next) row rows x (ap is_eq is) among

keeps : (row : ImplyRow) (rows : List ImplyRow) (x : ImplyRow) → Among rows x → Among (with_row row rows) x
keeps row rows x among = keeps_by row x rows (imply_cmp x row) refl among

-- a walk over one more row has no need of it, or leads up to it and on behind it
abbrev Parts : List ImplyRow → ImplyRow → Id → Id → Type 0
Parts rows row from to = Walks rows from to ⊎ (Walks rows from row.prior × Walks rows row.implied to)

parts : (rows : List ImplyRow) (row : ImplyRow) (from to : Id) (steps : List ImplyRow) → IsWalk (with_row row rows) from steps to → Parts rows row from to
parts rows row from to [] walk = inl ([], walk)
parts rows row from to (step ∷ steps) walk = join (among_put imply_cmp (λ next. next) row rows step walk.1) (parts rows row step.implied to steps walk.2)
  where
    first : row ≡ step → Walks rows from row.prior
    first same = ([], walk.0 ∙ ap (λ (r : ImplyRow). r.prior) (sym same))

    join : (row ≡ step) ⊎ Among rows step → Parts rows row step.implied to → Parts rows row from to
    join (inl same) (inl walks) = inr (first same, subst (λ (r : ImplyRow). Walks rows r.implied to) (sym same) walks)
    join (inl same) (inr both) = inr (first same, both.1)
    join (inr old) (inl walks) = inl (step ∷ walks.0, (walk.0, old, walks.1))
    join (inr old) (inr both) = inr ((step ∷ both.0.0, (walk.0, old, both.0.1)), both.1)

-- walks from one role
from_one : (rows : List ImplyRow) (from to : Id) → IsImplied rows (from ∷ []) to → Walks rows from to
from_one rows from to (prior, inl same, walks) = subst (λ (id : Id). Walks rows id to) (sym same) walks
from_one rows from to (prior, inr none, walks) = absurd none

one_from : (rows others : List ImplyRow) (from to : Id) → ((x : ImplyRow) → Among rows x → Among others x) → Walks rows from to → IsImplied others (from ∷ []) to
one_from rows others from to wider walks = monotone rows others (from ∷ []) (from ∷ []) wider (λ id among. among) to (from, inl refl, walks)

-- up to the row, over it and on
over_row : (rows : List ImplyRow) (row : ImplyRow) (from to : Id) → Walks rows from row.prior → Walks rows row.implied to → Walks (with_row row rows) from to
over_row rows row from to before behind = from_one more from to (implied_twice more (from ∷ []) (row.implied ∷ []) each to (one_from rows more row.implied to (keeps row rows) behind))
  where
    more : List ImplyRow
    more = with_row row rows

    each : (id : Id) → Among (row.implied ∷ []) id → IsImplied more (from ∷ []) id
    each id (inl same) =
        subst (IsImplied more (from ∷ [])) same
        (implied_on more (from ∷ []) row.prior row (one_from rows more from row.prior (keeps row rows) before) (put_among imply_cmp (λ next. next) row rows) refl)
    each id (inr none) = absurd none

-- what is effective with one more implication
pub implied_more : (rows : Rows) (row : ImplyRow) (user : Id) (wanted : Target) (role : Id) →
    Effective (record rows { implications = put_row imply_cmp (λ next. next) row rows.implications }) user wanted role ↔
    (Effective rows user wanted role ⊎ (Effective rows user wanted row.prior × Walks rows.implications row.implied role))
implied_more rows row user wanted role = (forth, back)
  where
    more : Rows
    more = record rows { implications = put_row imply_cmp (λ next. next) row rows.implications }

    split : (effective : Effective more user wanted role) → Parts rows.implications row effective.grant.role role →
        Effective rows user wanted role ⊎ (Effective rows user wanted row.prior × Walks rows.implications row.implied role)
    split effective (inl walks) = inl (record { grant = effective.grant; stands = effective.stands; acts = effective.acts; reaches = effective.reaches; walks = walks })
    split effective (inr both) = inr (record { grant = effective.grant; stands = effective.stands; acts = effective.acts; reaches = effective.reaches; walks = both.0 }, both.1)

    forth : Effective more user wanted role → Effective rows user wanted role ⊎ (Effective rows user wanted row.prior × Walks rows.implications row.implied role)
    forth effective = split effective (parts rows.implications row effective.grant.role role effective.walks.0 effective.walks.1)

    back : Effective rows user wanted role ⊎ (Effective rows user wanted row.prior × Walks rows.implications row.implied role) → Effective more user wanted role
    back (inl old) = record {
      grant = old.grant;
      stands = old.stands;
      acts = old.acts;
      reaches = old.reaches;
      walks = from_one more.implications old.grant.role role (one_from rows.implications more.implications old.grant.role role (keeps row rows.implications) old.walks);
    }
    back (inr both) = record {
      grant = both.0.grant;
      stands = both.0.stands;
      acts = both.0.acts;
      reaches = both.0.reaches;
      walks = over_row rows.implications row both.0.grant.role role both.0.walks both.1;
    }
