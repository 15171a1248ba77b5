-- The lists of roles that the machine computes are those of the relations.
use Rattle.std.proofs.Common.{◌≡◌, Bool, true, false, ◌⊎◌, inl, inr, List, [], ◌∷◌, ◌++◌, map, Option, Some, None, if◌then◌else◌, refl, sym, ap, subst}
use Rattle.std.specs.Bool.{Decides}
use Rattle.std.specs.List.{filter, list_any}
use Rattle.std.specs.Prelude.{◌↔◌}
use Rattle.std.specs.declared.cmp.Ordering.{Ordering}
use Rattle.std.specs.declared.cmp.Ordering.TheVariants.{Less, Equal, Greater}
use Rattle.std.specs.Ordering.{is_eq}
use Rattle.std.proofs.lemmas.Cmp.{nat_list_cmp_total}
use Rattle.ks_base.specs.declared.app_creds.AppCredRow.{AppCredRow}
use Rattle.ks_base.specs.declared.grants.GrantRow.{GrantRow}
use Rattle.ks_base.specs.declared.grants.ImplyRow.{ImplyRow}
use Rattle.ks_base.specs.declared.grants.Target.{Target}
use Rattle.ks_base.specs.declared.grants.Target.TheVariants as target
use Rattle.ks_base.specs.declared.trusts.TrustRow.{TrustRow}
use Rattle.ks_base.specs.AppCreds.{cred_of}
use Rattle.ks_base.specs.OrderLaws.{id_exact}
use Rattle.ks_base.specs.Roles.{Effective, IsImplied, IsWalk, Walks}
use Rattle.ks_base.specs.Rows.{Id, Rows, trust_of}
use Rattle.ks_base.specs.Tables.{Among, IsAscending, id_cmp, put_row}
use Rattle.ks_base.proofs.AmongLemmas.{among_left, among_right, any-Decides, map_among}
use Rattle.ks_base.proofs.RowLemmas.{among_filter, among_put_other, filter_among, put_among}
use Rattle.ks_base.proofs.TableLemmas.{ascending_filter, ascending_put}
use Rattle.ks_machine.specs.Effective.{closure, in_order, is_effective, leads, roles_at, roles_implied}
use Rattle.ks_machine.specs.Validity.{cred_roles, is_system, roles_of, trust_roles}
use Rattle.ks_machine.proofs.RoleLemmas.{effective-Decides, leads-Decides, roles_are_effective, roles_are_implied}
use Rattle.ks_payload.specs.declared.payload.Payload.{Payload}
use Rattle.ks_tokens.specs.ValidTokens.{IsRole, IsRoleBy}

-- a list in its order whose members are these
pub record AreThese (P : Id → Type 0) (ids : List Id) : Type 0 where
  pub order : IsAscending id_cmp (λ id. id) ids
  pub members : (id : Id) → Among ids id ↔ P id

-- ids in their order: each is there
put_in_order : (ids : List Id) → IsAscending id_cmp (λ id. id) (in_order ids) × ((x : Id) → Among ids x → Among (in_order ids) x)
unfolding in_order
put_in_order [] = (tt, λ x among. absurd among)
put_in_order (id ∷ ids) =
    let rest = put_in_order ids in
    (ascending_put id_cmp (λ other. other) nat_list_cmp_total id (in_order ids) rest.0, λ x among. by x rest.1 among)
  where
    put_keeps : (id x : Id) (ids : List Id) (o : Ordering) → id_cmp x id ≡ o → Among ids x → Among (put_row id_cmp (λ other. other) id ids) x
    put_keeps id x ids Less is among = among_put_other id_cmp (λ other. other) id ids x (ap is_eq is) among
    put_keeps id x ids Equal is among = subst (Among (put_row id_cmp (λ other. other) id ids)) (sym (id_exact x id is)) (put_among id_cmp (λ other. other) id ids)
    put_keeps id x ids Greater is among = among_put_other id_cmp (λ other. other) id ids x (ap is_eq is) among

    by : (x : Id) → ((y : Id) → Among ids y → Among (in_order ids) y) → (id ≡ x) ⊎ Among ids x → Among (put_row id_cmp (λ other. other) id (in_order ids)) x
    by x rest (inl is) = subst (Among (put_row id_cmp (λ other. other) id (in_order ids))) is (put_among id_cmp (λ other. other) id (in_order ids))
    by x rest (inr among) = put_keeps id x (in_order ids) (id_cmp x id) refl (rest x among)

-- what a test leaves of candidates, where it decides and each is one
left_by : (test : Id → Bool) (P : Id → Type 0) (candidates : List Id) → ((id : Id) → Decides (test id) (P id)) → ((id : Id) → P id → Among candidates id)
    → AreThese P (filter test (in_order candidates))
left_by test P candidates decides known =
    let all = put_in_order candidates in
    record {
      order = ascending_filter id_cmp (λ id. id) test (in_order candidates) all.0;
      members = λ id. (
        λ among. (decides id).0 (among_filter test (in_order candidates) id among).1,
        λ holds. filter_among test (in_order candidates) id (all.1 id (known id holds)) ((decides id).1 holds),
      );
    }

-- a walk ends where it began, or at a role that is implied
ends_at : (rows : List ImplyRow) (roles : List Id) (from to : Id) (steps : List ImplyRow) → IsWalk rows from steps to → Among roles from
    → Among (roles ++ map (λ row. row.implied) rows) to
ends_at rows roles from to [] walk among = among_left roles (map (λ row. row.implied) rows) to (subst (Among roles) walk among)
ends_at rows roles from to (step ∷ []) walk among =
    among_right roles (map (λ row. row.implied) rows) to (subst (Among (map (λ row. row.implied) rows)) walk.2 (map_among (λ (row : ImplyRow). row.implied) rows step walk.1))
ends_at rows roles from to (step ∷ next ∷ steps) walk among =
    among_right roles (map (λ row. row.implied) rows) to (behind rows step.implied to (next ∷ steps) walk.2 (map_among (λ (row : ImplyRow). row.implied) rows step walk.1))
  where
    behind : (rows : List ImplyRow) (from to : Id) (steps : List ImplyRow) → IsWalk rows from steps to → Among (map (λ row. row.implied) rows) from → Among (map (λ row. row.implied) rows) to
    behind rows from to [] walk among = subst (Among (map (λ row. row.implied) rows)) walk among
    behind rows from to (step ∷ steps) walk among = behind rows step.implied to steps walk.2 (map_among (λ (row : ImplyRow). row.implied) rows step walk.1)

effective_list : (rows : Rows) (user : Id) (wanted : Target) → AreThese (Effective rows user wanted) (roles_at rows user wanted)
unfolding roles_at
effective_list rows user wanted = left_by (is_effective rows user wanted) (Effective rows user wanted) (granted ++ roles_implied rows) (effective-Decides rows user wanted)
    (λ role effective. ends_at rows.implications granted effective.grant.role role effective.walks.0 effective.walks.1 (map_among (λ (grant : GrantRow). grant.role) rows.grants effective.grant effective.stands))
  where
    granted : List Id
    granted = map (λ grant. grant.role) rows.grants

implied_list : (rows : Rows) (roles : List Id) → AreThese (IsImplied rows.implications roles) (closure rows roles)
unfolding closure
implied_list rows roles = left_by (λ role. list_any (λ prior. leads rows.implications prior role) roles) (IsImplied rows.implications roles) (roles ++ roles_implied rows)
    (λ role. any-Decides (λ prior. leads rows.implications prior role) (λ prior. Walks rows.implications prior role) (λ prior. leads-Decides rows.implications prior role) roles)
    (λ role implied. ends_at rows.implications roles implied.0 role implied.2.0 implied.2.1 implied.1)

-- the roles of a token, by its trust or its application credential, or by its scope

none_left : (P : Id → Type 0) → ((id : Id) → P id → ⊥) → AreThese P []
none_left P none = record { order = tt; members = λ id. (λ among. absurd among, λ holds. absurd (none id holds)) }

no_members : (P : Id → Type 0) (ids : List Id) → AreThese P ids → ((id : Id) → P id → ⊥) → ids ≡ []
no_members P [] are none = refl
no_members P (id ∷ ids) are none = absurd (none id ((are.members id).0 (inl refl)))

-- the roles that those of a row imply, as of a trust or of an application credential

abbrev OfRow : {R : Type 0} (roles_in : R → List Id) → Rows → Option R → Id → Type 0
OfRow {R} roles_in rows found role = (row : R) × (found ≡ Some row) × IsImplied rows.implications (roles_in row) role

by_row : {R : Type 0} (roles_in : R → List Id) (rows : Rows) (row other : R) (id : Id) → Some row ≡ Some other → IsImplied rows.implications (roles_in other) id →
    IsImplied rows.implications (roles_in row) id
by_row {R} roles_in rows row other id is implied = let same : other ≡ row = cc in subst (λ (r : R). IsImplied rows.implications (roles_in r) id) same implied

row_list : {R : Type 0} (roles_in : R → List Id) (rows : Rows) (row : R) → AreThese (OfRow roles_in rows (Some row)) (closure rows (roles_in row))
row_list roles_in rows row =
    let all = implied_list rows (roles_in row) in
    record {
      order = all.order;
      members = λ id. (λ among. (row, refl, (all.members id).0 among), λ of. (all.members id).1 (by_row roles_in rows row of.0 id of.1 of.2));
    }

same_row_list : {R : Type 0} (roles_in : R → List Id) (rows : Rows) (row : R) (ids : List Id) → AreThese (OfRow roles_in rows (Some row)) ids → ids ≡ closure rows (roles_in row)
same_row_list roles_in rows row ids are =
    roles_are_implied rows (roles_in row) ids are.order
    (λ id. (λ among. let of = (are.members id).0 among in by_row roles_in rows row of.0 id of.1 of.2, λ implied. (are.members id).1 (row, refl, implied)))

no_row : {R : Type 0} (roles_in : R → List Id) (rows : Rows) (id : Id) → OfRow roles_in rows None id → ⊥
no_row roles_in rows id of = cc of.1

abbrev of_trust : TrustRow → List Id
of_trust row = row.roles

abbrev of_cred : AppCredRow → List Id
of_cred row = row.roles

trust_list : (rows : Rows) (found : Option TrustRow) → AreThese (OfRow of_trust rows found) (trust_roles rows found)
trust_list rows None = none_left (OfRow of_trust rows None) (no_row of_trust rows)
trust_list rows (Some row) = row_list of_trust rows row

same_trust_list : (rows : Rows) (found : Option TrustRow) (ids : List Id) → AreThese (OfRow of_trust rows found) ids → ids ≡ trust_roles rows found
same_trust_list rows None ids are = no_members (OfRow of_trust rows None) ids are (no_row of_trust rows)
same_trust_list rows (Some row) ids are = same_row_list of_trust rows row ids are

cred_list : (rows : Rows) (found : Option AppCredRow) → AreThese (OfRow of_cred rows found) (cred_roles rows found)
cred_list rows None = none_left (OfRow of_cred rows None) (no_row of_cred rows)
cred_list rows (Some row) = row_list of_cred rows row

same_cred_list : (rows : Rows) (found : Option AppCredRow) (ids : List Id) → AreThese (OfRow of_cred rows found) ids → ids ≡ cred_roles rows found
same_cred_list rows None ids are = no_members (OfRow of_cred rows None) ids are (no_row of_cred rows)
same_cred_list rows (Some row) ids are = same_row_list of_cred rows row ids are

abbrev OfSystem : Rows → Id → Bool → Id → Type 0
OfSystem rows user system role = (system ≡ true) × Effective rows user target.System role

system_list : (rows : Rows) (user : Id) (system : Bool) → AreThese (OfSystem rows user system) (if system then roles_at rows user target.System else [])
system_list rows user true =
    let all = effective_list rows user target.System in
    record { order = all.order; members = λ id. (λ among. (refl, (all.members id).0 among), λ of. (all.members id).1 of.1) }
system_list rows user false = none_left (OfSystem rows user false) (λ id of. cc of.0)

same_system_list : (rows : Rows) (user : Id) (system : Bool) (ids : List Id) → AreThese (OfSystem rows user system) ids → ids ≡ (if system then roles_at rows user target.System else [])
same_system_list rows user true ids are = roles_are_effective rows user target.System ids are.order (λ id. (λ among. ((are.members id).0 among).1, λ effective. (are.members id).1 (refl, effective)))
same_system_list rows user false ids are = no_members (OfSystem rows user false) ids are (λ id of. cc of.0)

abbrev scoped_as : Payload → Option Id → Option Id → Option Id → Option Id → Payload
scoped_as payload trust credential project domain = record payload { trust = trust; credential = credential; project = project; domain = domain }

list_by : (rows : Rows) (payload : Payload) (trust credential project domain : Option Id) →
    AreThese (IsRoleBy rows payload trust credential project domain) (roles_of rows (scoped_as payload trust credential project domain))
unfolding roles_of
list_by rows payload (Some trust) credential project domain = trust_list rows (trust_of trust rows.trusts)
list_by rows payload None (Some credential) project domain = cred_list rows (cred_of credential rows.app_creds)
list_by rows payload None None (Some project) domain = effective_list rows payload.user (target.Project project)
list_by rows payload None None None (Some domain) = effective_list rows payload.user (target.Domain domain)
list_by rows payload None None None None = system_list rows payload.user (is_system payload)

same_by : (rows : Rows) (payload : Payload) (trust credential project domain : Option Id) (ids : List Id) →
    AreThese (IsRoleBy rows payload trust credential project domain) ids → ids ≡ roles_of rows (scoped_as payload trust credential project domain)
unfolding roles_of
same_by rows payload (Some trust) credential project domain ids are = same_trust_list rows (trust_of trust rows.trusts) ids are
same_by rows payload None (Some credential) project domain ids are = same_cred_list rows (cred_of credential rows.app_creds) ids are
same_by rows payload None None (Some project) domain ids are = roles_are_effective rows payload.user (target.Project project) ids are.order are.members
same_by rows payload None None None (Some domain) ids are = roles_are_effective rows payload.user (target.Domain domain) ids are.order are.members
same_by rows payload None None None None ids are = same_system_list rows payload.user (is_system payload) ids are

pub role_list : (rows : Rows) (payload : Payload) → AreThese (IsRole rows payload) (roles_of rows payload)
role_list rows payload = list_by rows payload payload.trust payload.credential payload.project payload.domain

pub same_role_list : (rows : Rows) (payload : Payload) (ids : List Id) → AreThese (IsRole rows payload) ids → ids ≡ roles_of rows payload
same_role_list rows payload ids are = same_by rows payload payload.trust payload.credential payload.project payload.domain ids are
