-- Lists of roles are decided as the relations say.
use Rattle.std.proofs.Common.{◌≡◌, Bool, true, false, ◌&&◌, ◌||◌, ◌⊎◌, inl, inr, List, [], ◌∷◌, ◌++◌, map, refl, sym, ap, subst, ◌∙◌}
use Rattle.std.specs.Bool.{Decides}
use Rattle.std.specs.List.{filter, list_any}
use Rattle.std.specs.declared.cmp.Ordering.{Ordering}
use Rattle.std.specs.declared.cmp.Ordering.TheVariants.{Less, Equal, Greater}
use Rattle.std.specs.Ordering.{is_eq, ordering_reverse}
use Rattle.std.specs.Prelude.{◌↔◌}
use Rattle.std.proofs.lemmas.Bool.Decides.{Decides-and, Decides-or, Decides-like}
use Rattle.std.proofs.lemmas.Cmp.{nat_list_cmp_total, tied_itself}
use Rattle.std.proofs.lemmas.Slice.Eq.{bytes_eq-Decides}
use Rattle.ks_base.specs.Grants.{same_target}
use Rattle.ks_base.specs.declared.grants.Actor.{Actor}
use Rattle.ks_base.specs.declared.grants.Actor.TheVariants as actor
use Rattle.ks_base.specs.declared.grants.GrantRow.{GrantRow}
use Rattle.ks_base.specs.declared.grants.ImplyRow.{ImplyRow}
use Rattle.ks_base.specs.declared.grants.Target.{Target}
use Rattle.ks_base.specs.declared.grants.Target.TheVariants as target
use Rattle.ks_base.specs.declared.rows.ProjectRow.{ProjectRow}
use Rattle.ks_base.specs.declared.users.MemberRow.{MemberRow}
use Rattle.ks_base.specs.OrderLaws.{id_exact}
use Rattle.ks_base.specs.Roles.{Acts, Effective, IsImplied, IsWalk, LiesIn, Reaches, Walks}
use Rattle.ks_base.specs.Rows.{Id, Rows, same}
use Rattle.ks_base.specs.Tables.{Among, AreAbove, IsAscending, id_cmp, put_row}
use Rattle.ks_base.specs.Tree.{ancestors}
use Rattle.ks_base.proofs.RowLemmas.{among_filter, among_put_other, filter_among, put_among}
use Rattle.ks_base.proofs.TableLemmas.{ascending_filter, ascending_put}
use Rattle.ks_base.proofs.AmongLemmas.{among_left, among_right, map_among, any-Decides, among-Decides}
use Rattle.ks_machine.specs.Effective.{acts, closure, roles_implied, in_order, is_effective, is_member, leads, reaches, roles_at, is_in_domain}

-- a walk over one more row has no need of it, or leads up to it and on behind it
abbrev Parts : List ImplyRow → ImplyRow → Id → Id → Type 0
Parts rows row from to = Walks rows from to ⊎ (Walks rows from row.prior × Walks rows row.implied to)

parts : (rows : List ImplyRow) (row : ImplyRow) (from to : Id) (steps : List ImplyRow) → IsWalk (row ∷ rows) from steps to → Parts rows row from to
parts rows row from to [] walk = inl ([], walk)
parts rows row from to (step ∷ steps) walk = join walk.1 (parts rows row step.implied to steps walk.2)
  where
    first : row ≡ step → Walks rows from row.prior
    first same = ([], walk.0 ∙ ap (λ (r : ImplyRow). r.prior) (sym same))

    join : (row ≡ step) ⊎ Among rows step → Parts rows row step.implied to → Parts rows row from to
    join (inl same) (inl walks) = inr (first same, subst (λ (r : ImplyRow). Walks rows r.implied to) (sym same) walks)
    join (inl same) (inr both) = inr (first same, both.1)
    join (inr old) (inl walks) = inl (step ∷ walks.0, (walk.0, old, walks.1))
    join (inr old) (inr both) = inr ((step ∷ both.0.0, (walk.0, old, both.0.1)), both.1)

wider : (rows : List ImplyRow) (row : ImplyRow) (from to : Id) (steps : List ImplyRow) → IsWalk rows from steps to → IsWalk (row ∷ rows) from steps to
wider rows row from to [] walk = walk
wider rows row from to (step ∷ steps) walk = (walk.0, inr walk.1, wider rows row step.implied to steps walk.2)

over_row : (rows : List ImplyRow) (row : ImplyRow) (from to : Id) (steps later : List ImplyRow) →
    IsWalk rows from steps row.prior → IsWalk rows row.implied later to → Walks (row ∷ rows) from to
over_row rows row from to [] later walk behind = (row ∷ later, (walk, inl refl, wider rows row row.implied to later behind))
over_row rows row from to (step ∷ steps) later walk behind =
    let rest = over_row rows row step.implied to steps later walk.2 behind in
    (step ∷ rest.0, (walk.0, inr walk.1, rest.1))

whole : (rows : List ImplyRow) (row : ImplyRow) (from to : Id) → Parts rows row from to → Walks (row ∷ rows) from to
whole rows row from to (inl walks) = (walks.0, wider rows row from to walks.0 walks.1)
whole rows row from to (inr both) = over_row rows row from to both.0.0 both.1.0 both.0.1 both.1.1

pub leads-Decides : (rows : List ImplyRow) (from to : Id) → Decides (leads rows from to) (Walks rows from to)
unfolding leads
leads-Decides [] from to = Decides-like (same from to) (λ is. ([], is)) none (bytes_eq-Decides from to)
  where
    none : Walks [] from to → from ≡ to
    none ([], walk) = walk
    none (step ∷ steps, walk) = absurd walk.1
leads-Decides (row ∷ rows) from to =
    Decides-like (leads rows from to || (leads rows from row.prior && leads rows row.implied to))
    (whole rows row from to) (λ walks. parts rows row from to walks.0 walks.1)
    (Decides-or (leads rows from to) (leads rows from row.prior && leads rows row.implied to) (leads-Decides rows from to)
    (Decides-and (leads rows from row.prior) (leads rows row.implied to) (leads-Decides rows from row.prior) (leads-Decides rows row.implied to)))

-- the parts of an effective role
member-Decides : (members : List MemberRow) (group user : Id) → Decides (is_member members group user) (Among members (record { group = group; user = user }))
member-Decides members group user = among-Decides (λ row. same row.group group && same row.user user) (record { group = group; user = user }) each members
  where
    each : (row : MemberRow) → Decides (same row.group group && same row.user user) (row ≡ record { group = group; user = user })
    each row =
        Decides-like (same row.group group && same row.user user)
        (λ both. λ i. record { group = both.0 i; user = both.1 i })
        (λ is. (ap (λ (r : MemberRow). r.group) is, ap (λ (r : MemberRow). r.user) is))
        (Decides-and (same row.group group) (same row.user user) (bytes_eq-Decides row.group group) (bytes_eq-Decides row.user user))

acts-Decides : (members : List MemberRow) (user : Id) (by : Actor) → Decides (acts members user by) (Acts members user by)
acts-Decides members user (actor.User id) = bytes_eq-Decides id user
acts-Decides members user (actor.Group id) = member-Decides members id user

target-Decides : (a b : Target) → Decides (same_target a b) (a ≡ b)
target-Decides (target.Project a) (target.Project b) = Decides-like (same a b) (ap target.Project) (λ is. cc) (bytes_eq-Decides a b)
target-Decides (target.Domain a) (target.Domain b) = Decides-like (same a b) (ap target.Domain) (λ is. cc) (bytes_eq-Decides a b)
target-Decides (target.Project a) (target.Domain b) = (λ is. cc, λ is. cc)
target-Decides (target.Project a) target.System = (λ is. cc, λ is. cc)
target-Decides (target.Domain a) (target.Project b) = (λ is. cc, λ is. cc)
target-Decides (target.Domain a) target.System = (λ is. cc, λ is. cc)
target-Decides target.System (target.Project b) = (λ is. cc, λ is. cc)
target-Decides target.System (target.Domain b) = (λ is. cc, λ is. cc)
target-Decides target.System target.System = (λ is. refl, λ is. refl)

lies-Decides : (projects : List ProjectRow) (domain project : Id) → Decides (is_in_domain projects domain project) (LiesIn projects domain project)
lies-Decides projects domain project =
    Decides-like (is_in_domain projects domain project) forth (λ lies. (lies.row, lies.stands, (lies.id_is, lies.domain_is)))
    (any-Decides (λ row. same row.id project && same row.domain domain) (λ row. (row.id ≡ project) × (row.domain ≡ domain)) each projects)
  where
    each : (row : ProjectRow) → Decides (same row.id project && same row.domain domain) ((row.id ≡ project) × (row.domain ≡ domain))
    each row = Decides-and (same row.id project) (same row.domain domain) (bytes_eq-Decides row.id project) (bytes_eq-Decides row.domain domain)

    forth : (row : ProjectRow) × Among projects row × ((row.id ≡ project) × (row.domain ≡ domain)) → LiesIn projects domain project
    forth (row, stands, is) = record { row = row; stands = stands; id_is = is.0; domain_is = is.1 }

reaches-Decides : (projects : List ProjectRow) (inherited : Bool) (granted wanted : Target) →
    Decides (reaches projects inherited granted wanted) (Reaches projects inherited granted wanted)
reaches-Decides projects false granted wanted = target-Decides granted wanted
reaches-Decides projects true (target.Domain domain) (target.Project project) = lies-Decides projects domain project
reaches-Decides projects true (target.Project above) (target.Project project) =
    among-Decides (λ id. same id above) above (λ id. bytes_eq-Decides id above) (ancestors projects project)
reaches-Decides projects true (target.Domain domain) (target.Domain wanted) = (λ is. cc, λ none. absurd none)
reaches-Decides projects true (target.Project above) (target.Domain wanted) = (λ is. cc, λ none. absurd none)
reaches-Decides projects true target.System (target.Project project) = (λ is. cc, λ none. absurd none)
reaches-Decides projects true target.System (target.Domain wanted) = (λ is. cc, λ none. absurd none)
reaches-Decides projects true granted target.System = (λ is. cc, λ none. absurd none)

pub effective-Decides : (rows : Rows) (user : Id) (wanted : Target) (role : Id) → Decides (is_effective rows user wanted role) (Effective rows user wanted role)
unfolding is_effective
effective-Decides rows user wanted role =
    Decides-like (list_any test rows.grants) forth
    (λ effective. (effective.grant, effective.stands, (effective.acts, (effective.reaches, effective.walks))))
    (any-Decides test Fits each rows.grants)
  where
    test : GrantRow → Bool
    test grant = acts rows.members user grant.actor && (reaches rows.projects grant.inherited grant.target wanted && leads rows.implications grant.role role)

    Fits : GrantRow → Type 0
    Fits grant = Acts rows.members user grant.actor × (Reaches rows.projects grant.inherited grant.target wanted × Walks rows.implications grant.role role)

    each : (grant : GrantRow) → Decides (test grant) (Fits grant)
    each grant =
        Decides-and (acts rows.members user grant.actor) (reaches rows.projects grant.inherited grant.target wanted && leads rows.implications grant.role role)
        (acts-Decides rows.members user grant.actor)
        (Decides-and (reaches rows.projects grant.inherited grant.target wanted) (leads rows.implications grant.role role)
        (reaches-Decides rows.projects grant.inherited grant.target wanted) (leads-Decides rows.implications grant.role role))

    forth : (grant : GrantRow) × Among rows.grants grant × Fits grant → Effective rows user wanted role
    forth (grant, stands, fits) = record { grant = grant; stands = stands; acts = fits.0; reaches = fits.1.0; walks = fits.1.1 }

-- lists in their order, each id once
keeps_by : (id x : Id) (ids : List Id) (o : Ordering) → id_cmp x id ≡ o → Among ids x → Among (put_row id_cmp (λ other. other) id ids) x
keeps_by id x ids Less is among = among_put_other id_cmp (λ other. other) id ids x (ap is_eq is) among
keeps_by id x ids Equal is among = subst (Among (put_row id_cmp (λ other. other) id ids)) (sym (id_exact x id is)) (put_among id_cmp (λ other. other) id ids)
keeps_by id x ids Greater is among = among_put_other id_cmp (λ other. other) id ids x (ap is_eq is) among

into_order : (ids : List Id) (x : Id) → Among ids x → Among (in_order ids) x
unfolding in_order
into_order [] x among = absurd among
into_order (id ∷ ids) x (inl is) = subst (Among (put_row id_cmp (λ other. other) id (in_order ids))) is (put_among id_cmp (λ other. other) id (in_order ids))
into_order (id ∷ ids) x (inr among) = keeps_by id x (in_order ids) (id_cmp x id) refl (into_order ids x among)

order_ascends : (ids : List Id) → IsAscending id_cmp (λ id. id) (in_order ids)
unfolding in_order
order_ascends [] = tt
order_ascends (id ∷ ids) = ascending_put id_cmp (λ other. other) nat_list_cmp_total id (in_order ids) (order_ascends ids)

above_among : (low x : Id) (ids : List Id) → AreAbove id_cmp (λ id. id) low ids → Among ids x → id_cmp low x ≡ Less
above_among low x [] above among = absurd among
above_among low x (next ∷ ids) above (inl is) = subst (λ (id : Id). id_cmp low id ≡ Less) is above.0
above_among low x (next ∷ ids) above (inr among) = above_among low x ids above.1 among

-- two ascending lists with the same members are the same list
same_ids : (xs ys : List Id) → IsAscending id_cmp (λ id. id) xs → IsAscending id_cmp (λ id. id) ys →
    ((id : Id) → Among xs id → Among ys id) → ((id : Id) → Among ys id → Among xs id) → xs ≡ ys
same_ids [] [] up rising forth back = refl
same_ids [] (y ∷ ys) up rising forth back = absurd (back y (inl refl))
same_ids (x ∷ xs) [] up rising forth back = absurd (forth x (inl refl))
same_ids (x ∷ xs) (y ∷ ys) up rising forth back =
    let alike = first in
    let rest = same_ids xs ys up.1 rising.1 onward backward in
    cc
  where
    heads : Among (y ∷ ys) x → Among (x ∷ xs) y → x ≡ y
    heads (inl is) other = sym is
    heads (inr among) (inl is) = is
    heads (inr among) (inr also) =
        let below : id_cmp y x ≡ Less = above_among y x ys rising.0 among in
        let higher : id_cmp x y ≡ Less = above_among x y xs up.0 also in
        let turned : id_cmp x y ≡ Greater = nat_list_cmp_total.antisymm x y ∙ ap ordering_reverse below in
        cc

    behind : (a b id : Id) (upper others : List Id) → a ≡ b → AreAbove id_cmp (λ other. other) a upper → Among upper id → Among (b ∷ others) id → Among others id
    behind a b id upper others first above among (inr later) = later
    behind a b id upper others first above among (inl is) =
        let less : id_cmp a id ≡ Less = above_among a id upper above among in
        let tied : id_cmp a id ≡ Equal = subst (λ (other : Id). id_cmp a other ≡ Equal) (first ∙ is) (tied_itself nat_list_cmp_total a) in
        cc

    first : x ≡ y
    first = heads (forth x (inl refl)) (back y (inl refl))

    onward : (id : Id) → Among xs id → Among ys id
    onward id among = behind x y id xs ys first up.0 among (forth id (inr among))

    backward : (id : Id) → Among ys id → Among xs id
    backward id among = behind y x id ys xs (sym first) rising.0 among (back id (inr among))

-- so it is what a test leaves of the candidates, if the test decides the members and each is a candidate
filtered : (test : Id → Bool) (P : Id → Type 0) → ((id : Id) → Decides (test id) (P id)) → (candidates ids : List Id) →
    ((id : Id) → P id → Among candidates id) → IsAscending id_cmp (λ id. id) ids → ((id : Id) → Among ids id ↔ P id) → ids ≡ filter test (in_order candidates)
filtered test P decides candidates ids known up members =
    same_ids ids (filter test (in_order candidates)) up (ascending_filter id_cmp (λ id. id) test (in_order candidates) (order_ascends candidates))
    (λ id among. let holds = (members id).0 among in filter_among test (in_order candidates) id (into_order candidates id (known id holds)) ((decides id).1 holds))
    (λ id among. (members id).1 ((decides id).0 (among_filter test (in_order candidates) id among).1))

walk_end : (rows : List ImplyRow) (from to : Id) (steps : List ImplyRow) → IsWalk rows from steps to → (from ≡ to) ⊎ Among (map (λ row. row.implied) rows) to
walk_end rows from to [] walk = inl walk
walk_end rows from to (step ∷ steps) walk = later (walk_end rows step.implied to steps walk.2)
  where
    later : (step.implied ≡ to) ⊎ Among (map (λ row. row.implied) rows) to → (from ≡ to) ⊎ Among (map (λ row. row.implied) rows) to
    later (inl is) = inr (subst (Among (map (λ row. row.implied) rows)) is (map_among (λ (row : ImplyRow). row.implied) rows step walk.1))
    later (inr among) = inr among

candidate : (rows : Rows) (roles : List Id) (from to : Id) → Among roles from → Walks rows.implications from to → Among (roles ++ roles_implied rows) to
candidate rows roles from to among walks = of_end (walk_end rows.implications from to walks.0 walks.1)
  where
    of_end : (from ≡ to) ⊎ Among (roles_implied rows) to → Among (roles ++ roles_implied rows) to
    of_end (inl is) = among_left roles (roles_implied rows) to (subst (Among roles) is among)
    of_end (inr implied) = among_right roles (roles_implied rows) to implied

-- the two lists
pub roles_are_effective : (rows : Rows) (user : Id) (wanted : Target) (ids : List Id) → IsAscending id_cmp (λ id. id) ids →
    ((role : Id) → Among ids role ↔ Effective rows user wanted role) → ids ≡ roles_at rows user wanted
unfolding roles_at
roles_are_effective rows user wanted ids up members =
    filtered (is_effective rows user wanted) (Effective rows user wanted) (effective-Decides rows user wanted) (granted ++ roles_implied rows) ids
    (λ role effective. candidate rows granted effective.grant.role role (map_among (λ (grant : GrantRow). grant.role) rows.grants effective.grant effective.stands) effective.walks)
    up members
  where
    granted : List Id
    granted = map (λ grant. grant.role) rows.grants

pub roles_are_implied : (rows : Rows) (roles ids : List Id) → IsAscending id_cmp (λ id. id) ids →
    ((role : Id) → Among ids role ↔ IsImplied rows.implications roles role) → ids ≡ closure rows roles
unfolding closure
roles_are_implied rows roles ids up members =
    filtered (λ role. list_any (λ prior. leads rows.implications prior role) roles) (IsImplied rows.implications roles)
    (λ role. any-Decides (λ prior. leads rows.implications prior role) (λ prior. Walks rows.implications prior role) (λ prior. leads-Decides rows.implications prior role) roles)
    (roles ++ roles_implied rows) ids known up members
  where
    known : (role : Id) → IsImplied rows.implications roles role → Among (roles ++ roles_implied rows) role
    known role (prior, among, walks) = candidate rows roles prior role among walks
