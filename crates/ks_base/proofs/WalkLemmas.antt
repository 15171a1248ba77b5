use Rattle.std.proofs.Common.{◌≡◌, List, [], ◌∷◌, refl, sym, subst, ◌∙◌}
use Rattle.std.specs.Prelude.{◌↔◌}
use Rattle.ks_base.specs.declared.grants.ImplyRow.{ImplyRow}
use Rattle.ks_base.specs.Rows.{Id}
use Rattle.ks_base.specs.Tables.{Among}
use Rattle.ks_base.specs.Roles.{IsWalk, Walks, IsImplied}

-- a walk and one more implication
walk_on : (rows : List ImplyRow) (from to : Id) (steps : List ImplyRow) (row : ImplyRow) →
    IsWalk rows from steps to → Among rows row → to ≡ row.prior → Walks rows from row.implied
walk_on rows from to [] row walk among is = (row ∷ [], (walk ∙ is, among, refl))
walk_on rows from to (step ∷ steps) row walk among is =
    let more = walk_on rows step.implied to steps row walk.2 among is in
    (step ∷ more.0, (walk.0, walk.1, more.1))

-- a walk and another
pub walk_then : (rows : List ImplyRow) (from on to : Id) (steps later : List ImplyRow) →
    IsWalk rows from steps on → IsWalk rows on later to → Walks rows from to
walk_then rows from on to [] later walk more = (later, subst (λ (x : Id). IsWalk rows x later to) (sym walk) more)
walk_then rows from on to (step ∷ steps) later walk more =
    let rest = walk_then rows step.implied on to steps later walk.2 more in
    (step ∷ rest.0, (walk.0, walk.1, rest.1))

walk_of_more : (rows others : List ImplyRow) → ((row : ImplyRow) → Among rows row → Among others row) →
    (from to : Id) (steps : List ImplyRow) → IsWalk rows from steps to → IsWalk others from steps to
walk_of_more rows others more from to [] walk = walk
walk_of_more rows others more from to (step ∷ steps) walk =
    (walk.0, more step walk.1, walk_of_more rows others more step.implied to steps walk.2)

-- what a reached role implies is reached
pub implied_on : (rows : List ImplyRow) (roles : List Id) (id : Id) (row : ImplyRow) →
    IsImplied rows roles id → Among rows row → id ≡ row.prior → IsImplied rows roles row.implied
implied_on rows roles id row (prior, among, (steps, walk)) stands is = (prior, among, walk_on rows prior id steps row walk stands is)

-- a closed list holds the ends of all walks from its roles
pub walk_stays : (rows : List ImplyRow) (closed : List Id) → ((row : ImplyRow) → Among rows row → Among closed row.prior → Among closed row.implied) →
    (from to : Id) (steps : List ImplyRow) → Among closed from → IsWalk rows from steps to → Among closed to
walk_stays rows closed stays from to [] among walk = subst (Among closed) walk among
walk_stays rows closed stays from to (step ∷ steps) among walk =
    walk_stays rows closed stays step.implied to steps (stays step walk.1 (subst (Among closed) walk.0 among)) walk.2

pub extensive : (rows : List ImplyRow) (roles : List Id) (role : Id) → Among roles role → IsImplied rows roles role
extensive rows roles role among = (role, among, ([], refl))

pub implied_twice : (rows : List ImplyRow) (roles others : List Id) → ((id : Id) → Among others id → IsImplied rows roles id) →
    (role : Id) → IsImplied rows others role → IsImplied rows roles role
implied_twice rows roles others each role (id, among, (later, more)) = join (each id among)
  where
    join : IsImplied rows roles id → IsImplied rows roles role
    join (prior, first, (steps, walk)) = (prior, first, walk_then rows prior id role steps later walk more)

pub idempotent : (rows : List ImplyRow) (roles closure : List Id) → ((id : Id) → Among closure id ↔ IsImplied rows roles id) →
    (role : Id) → IsImplied rows closure role ↔ Among closure role
idempotent rows roles closure exact role =
    (λ implied. (exact role).1 (implied_twice rows roles closure (λ id among. (exact id).0 among) role implied), extensive rows closure role)

pub monotone : (rows others : List ImplyRow) (roles more : List Id) → ((row : ImplyRow) → Among rows row → Among others row) →
    ((id : Id) → Among roles id → Among more id) → (role : Id) → IsImplied rows roles role → IsImplied others more role
monotone rows others roles more wider longer role (prior, among, (steps, walk)) =
    (prior, longer prior among, (steps, walk_of_more rows others wider prior role steps walk))
