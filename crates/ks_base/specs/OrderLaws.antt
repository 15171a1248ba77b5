-- The orders are total, what they hold equal is the same, and which rows stand side by side in them.
use Rattle.std.proofs.Common.{◌≡◌, ◌⊎◌, inl, inr, ℕ, ◌<◌, Bool, true, false, List, [], ◌∷◌, refl, sym, ap, ◌∙◌, subst}
use Rattle.std.specs.declared.cmp.Ordering.{Ordering}
use Rattle.std.specs.declared.cmp.Ordering.TheVariants.{Less, Equal, Greater}
use Rattle.std.specs.Ordering.{MatchOrdering, nat_cmp, bool_cmp, ordering_reverse, ordering_then}
use Rattle.std.specs.Cmp.{IsTotalOrder, bool_cmp_total}
use Rattle.std.proofs.lemmas.Cmp.{ranked, nat_cmp_total, nat_list_cmp_total, then_total, on_total, tied_back}
use Rattle.ks_base.specs.declared.grants.Actor.{Actor}
use Rattle.ks_base.specs.declared.grants.Actor.TheVariants as actors
use Rattle.ks_base.specs.declared.grants.Target.{Target}
use Rattle.ks_base.specs.declared.grants.Target.TheVariants as targets
use Rattle.ks_base.specs.declared.grants.GrantRow.{GrantRow}
use Rattle.ks_base.specs.declared.grants.GrantSite.{GrantSite}
use Rattle.ks_base.specs.declared.grants.ImplyRow.{ImplyRow}
use Rattle.ks_base.specs.declared.users.ByUser.{ByUser}
use Rattle.ks_base.specs.declared.users.MemberRow.{MemberRow}
use Rattle.ks_base.specs.Tables.{id_cmp}
use Rattle.ks_base.specs.Orders.{actor_rank, actor_id, actor_cmp, target_rank, target_bytes, target_cmp, site_of, site_cmp, grant_cmp, member_cmp, by_user_cmp, imply_cmp}
use Rattle.ks_base.specs.Runs.{IsRun}

pub then_equal : (o p : Ordering) → ordering_then o p ≡ Equal → (o ≡ Equal) × (p ≡ Equal)
then_equal Less p e = cc
then_equal Equal p e = (refl, e)
then_equal Greater p e = cc

nat_exact : (x y : ℕ) → nat_cmp x y ≡ Equal → x ≡ y
nat_exact x y e = let P : Ordering → Type 0 = λ o. MatchOrdering o (x < y) (x ≡ y) (y < x) in subst P e (ranked x y (nat_cmp x y) refl)

bool_exact : (x y : Bool) → bool_cmp x y ≡ Equal → x ≡ y
bool_exact true true e = refl
bool_exact true false e = cc
bool_exact false true e = cc
bool_exact false false e = refl

pub id_exact : (a b : List ℕ) → id_cmp a b ≡ Equal → a ≡ b
id_exact [] [] e = refl
id_exact [] (y ∷ b) e = cc
id_exact (x ∷ a) [] e = cc
id_exact (x ∷ a) (y ∷ b) e =
    let both = then_equal (nat_cmp x y) (id_cmp a b) e in
    let first = nat_exact x y both.0 in
    let rest = id_exact a b both.1 in
    cc

pub actor_exact : (a b : Actor) → actor_cmp a b ≡ Equal → a ≡ b
actor_exact (actors.User a) (actors.User b) e = ap actors.User (id_exact a b e)
actor_exact (actors.User a) (actors.Group b) e = cc
actor_exact (actors.Group a) (actors.User b) e = cc
actor_exact (actors.Group a) (actors.Group b) e = ap actors.Group (id_exact a b e)

pub target_exact : (a b : Target) → target_cmp a b ≡ Equal → a ≡ b
target_exact (targets.Project a) (targets.Project b) e = ap targets.Project (id_exact a b e)
target_exact (targets.Project a) (targets.Domain b) e = cc
target_exact (targets.Project a) targets.System e = cc
target_exact (targets.Domain a) (targets.Project b) e = cc
target_exact (targets.Domain a) (targets.Domain b) e = ap targets.Domain (id_exact a b e)
target_exact (targets.Domain a) targets.System e = cc
target_exact targets.System (targets.Project b) e = cc
target_exact targets.System (targets.Domain b) e = cc
target_exact targets.System targets.System e = refl

pub grant_exact : (a b : GrantRow) → grant_cmp a b ≡ Equal → a ≡ b
grant_exact a b e =
    let last = then_equal (ordering_then (ordering_then (actor_cmp a.actor b.actor) (target_cmp a.target b.target)) (bool_cmp a.inherited b.inherited)) (id_cmp a.role b.role) e in
    let third = then_equal (ordering_then (actor_cmp a.actor b.actor) (target_cmp a.target b.target)) (bool_cmp a.inherited b.inherited) last.0 in
    let first = then_equal (actor_cmp a.actor b.actor) (target_cmp a.target b.target) third.0 in
    let actor = actor_exact a.actor b.actor first.0 in
    let target = target_exact a.target b.target first.1 in
    let inherited = bool_exact a.inherited b.inherited third.1 in
    let role = id_exact a.role b.role last.1 in
    λ i. record { actor = actor i; target = target i; inherited = inherited i; role = role i }

pub site_exact : (a b : GrantSite) → site_cmp a b ≡ Equal → a ≡ b
site_exact a b e =
    let last = then_equal (ordering_then (actor_cmp a.actor b.actor) (target_cmp a.target b.target)) (bool_cmp a.inherited b.inherited) e in
    let first = then_equal (actor_cmp a.actor b.actor) (target_cmp a.target b.target) last.0 in
    let actor = actor_exact a.actor b.actor first.0 in
    let target = target_exact a.target b.target first.1 in
    let inherited = bool_exact a.inherited b.inherited last.1 in
    λ i. record { actor = actor i; target = target i; inherited = inherited i }

pub member_exact : (a b : MemberRow) → member_cmp a b ≡ Equal → a ≡ b
member_exact a b e =
    let both = then_equal (id_cmp a.group b.group) (id_cmp a.user b.user) e in
    let group = id_exact a.group b.group both.0 in
    let user = id_exact a.user b.user both.1 in
    λ i. record { group = group i; user = user i }

pub by_user_exact : (a b : ByUser) → by_user_cmp a b ≡ Equal → a ≡ b
by_user_exact a b e =
    let both = then_equal (id_cmp a.row.user b.row.user) (id_cmp a.row.group b.row.group) e in
    let user = id_exact a.row.user b.row.user both.0 in
    let group = id_exact a.row.group b.row.group both.1 in
    λ i. record { row = record { group = group i; user = user i } }

pub imply_exact : (a b : ImplyRow) → imply_cmp a b ≡ Equal → a ≡ b
imply_exact a b e =
    let both = then_equal (id_cmp a.prior b.prior) (id_cmp a.implied b.implied) e in
    let prior = id_exact a.prior b.prior both.0 in
    let implied = id_exact a.implied b.implied both.1 in
    λ i. record { prior = prior i; implied = implied i }

pub actor_total : IsTotalOrder actor_cmp
actor_total = then_total (on_total actor_rank nat_cmp_total) (on_total actor_id nat_list_cmp_total)

pub target_total : IsTotalOrder target_cmp
target_total = then_total (on_total target_rank nat_cmp_total) (on_total target_bytes nat_list_cmp_total)

pub grant_total : IsTotalOrder grant_cmp
grant_total =
    then_total (then_total (then_total (on_total (λ row. row.actor) actor_total) (on_total (λ row. row.target) target_total)) (on_total (λ row. row.inherited) bool_cmp_total))
    (on_total (λ row. row.role) nat_list_cmp_total)

pub member_total : IsTotalOrder member_cmp
member_total = then_total (on_total (λ row. row.group) nat_list_cmp_total) (on_total (λ row. row.user) nat_list_cmp_total)

pub by_user_total : IsTotalOrder by_user_cmp
by_user_total = then_total (on_total (λ side. side.row.user) nat_list_cmp_total) (on_total (λ side. side.row.group) nat_list_cmp_total)

pub imply_total : IsTotalOrder imply_cmp
imply_total = then_total (on_total (λ row. row.prior) nat_list_cmp_total) (on_total (λ row. row.implied) nat_list_cmp_total)

-- an order goes first by its first part
pub first_part : (o p : Ordering) → ordering_then o p ≡ Less → (o ≡ Less) ⊎ (o ≡ Equal)
first_part Less p e = inl refl
first_part Equal p e = inr refl
first_part Greater p e = cc

part_of : (o p : Ordering) → (ordering_then o p ≡ Less) ⊎ (ordering_then o p ≡ Equal) → (o ≡ Less) ⊎ (o ≡ Equal)
part_of o p (inl less) = first_part o p less
part_of Less p (inr equal) = inl refl
part_of Equal p (inr equal) = inr refl
part_of Greater p (inr equal) = cc

pub first_of_three : (o p q : Ordering) → ordering_then (ordering_then o p) q ≡ Less → (o ≡ Less) ⊎ (o ≡ Equal)
first_of_three o p q e = part_of o p (first_part (ordering_then o p) q e)

first_of_four : (o p q r : Ordering) → ordering_then (ordering_then (ordering_then o p) q) r ≡ Less → (o ≡ Less) ⊎ (o ≡ Equal)
first_of_four o p q r e = part_of o p (part_of (ordering_then o p) q (first_part (ordering_then (ordering_then o p) q) r e))

-- the rows with one key make a run of each order that goes first by this key
pub keyed_run : {K X : Type 0} (first : K → K → Ordering) (key : X → K) (cmp : X → X → Ordering) → IsTotalOrder first →
    ((a b : X) → cmp a b ≡ Less → (first (key a) (key b) ≡ Less) ⊎ (first (key a) (key b) ≡ Equal)) → (k : K) → IsRun cmp (λ row. first (key row) k)
keyed_run {K} first key cmp o leads k = record {
  before = λ a b less below. before (key a) (key b) (leads a b less) below;
  behind = λ a b less above. behind (key a) (key b) (leads a b less) above;
}
  where
    before : (x y : K) → (first x y ≡ Less) ⊎ (first x y ≡ Equal) → first y k ≡ Less → first x k ≡ Less
    before x y (inl less) below = o.trans x y k less below
    before x y (inr same) below = o.congr x y k same ∙ below

    behind : (x y : K) → (first x y ≡ Less) ⊎ (first x y ≡ Equal) → first x k ≡ Greater → first y k ≡ Greater
    behind x y (inl less) above = o.antisymm y k ∙ ap ordering_reverse (o.trans k x y (o.antisymm k x ∙ ap ordering_reverse above) less)
    behind x y (inr same) above = sym (o.congr x y k same) ∙ above

-- a row lies to a key as the others of its run do, and what lies at one key is of one run
pub keyed_whole : {K X : Type 0} (first : K → K → Ordering) (key : X → K) → IsTotalOrder first → (k : K) (a b : X) → first (key a) (key b) ≡ Equal →
    first (key a) k ≡ first (key b) k
keyed_whole first key o k a b same = o.congr (key a) (key b) k same

pub keyed_alone : {K X : Type 0} (first : K → K → Ordering) (key : X → K) → IsTotalOrder first → (k : K) (a b : X) → first (key a) k ≡ Equal → first (key b) k ≡ Equal →
    first (key a) (key b) ≡ Equal
keyed_alone first key o k a b one other = o.congr (key a) k (key b) one ∙ (o.antisymm k (key b) ∙ ap ordering_reverse other)

pub actor_first : (a b : GrantRow) → grant_cmp a b ≡ Less → (actor_cmp a.actor b.actor ≡ Less) ⊎ (actor_cmp a.actor b.actor ≡ Equal)
actor_first a b less = first_of_four (actor_cmp a.actor b.actor) (target_cmp a.target b.target) (bool_cmp a.inherited b.inherited) (id_cmp a.role b.role) less

site_first : (a b : GrantRow) → grant_cmp a b ≡ Less → (site_cmp (site_of a) (site_of b) ≡ Less) ⊎ (site_cmp (site_of a) (site_of b) ≡ Equal)
site_first a b less = first_part (site_cmp (site_of a) (site_of b)) (id_cmp a.role b.role) less

pub site_total : IsTotalOrder site_cmp
site_total =
    then_total (then_total (on_total (λ site. site.actor) actor_total) (on_total (λ site. site.target) target_total)) (on_total (λ site. site.inherited) bool_cmp_total)

-- so the grants of an actor stand side by side, and those of an actor at a target
pub actor_run : (actor : Actor) → IsRun grant_cmp (λ row. actor_cmp row.actor actor)
actor_run = keyed_run actor_cmp (λ (row : GrantRow). row.actor) grant_cmp actor_total actor_first

-- so the grants of each actor are a run
pub of_actors_total : IsTotalOrder (λ (a b : GrantRow). actor_cmp a.actor b.actor)
of_actors_total = on_total (λ row. row.actor) actor_total

pub actor_whole : (actor : Actor) (a b : GrantRow) → actor_cmp a.actor b.actor ≡ Equal → actor_cmp a.actor actor ≡ actor_cmp b.actor actor
actor_whole = keyed_whole actor_cmp (λ row. row.actor) actor_total

pub actor_alone : (actor : Actor) (a b : GrantRow) → actor_cmp a.actor actor ≡ Equal → actor_cmp b.actor actor ≡ Equal → actor_cmp a.actor b.actor ≡ Equal
actor_alone = keyed_alone actor_cmp (λ row. row.actor) actor_total

pub site_run : (site : GrantSite) → IsRun grant_cmp (λ row. site_cmp (site_of row) site)
site_run = keyed_run site_cmp site_of grant_cmp site_total site_first

-- and the memberships in a group, and those of a user
pub of_groups_total : IsTotalOrder (λ (a b : MemberRow). id_cmp a.group b.group)
of_groups_total = on_total (λ row. row.group) nat_list_cmp_total

pub group_first : (a b : MemberRow) → member_cmp a b ≡ Less → (id_cmp a.group b.group ≡ Less) ⊎ (id_cmp a.group b.group ≡ Equal)
group_first a b less = first_part (id_cmp a.group b.group) (id_cmp a.user b.user) less

pub group_run : (group : List ℕ) → IsRun member_cmp (λ row. id_cmp row.group group)
group_run = keyed_run id_cmp (λ (row : MemberRow). row.group) member_cmp nat_list_cmp_total group_first

pub group_whole : (group : List ℕ) (a b : MemberRow) → id_cmp a.group b.group ≡ Equal → id_cmp a.group group ≡ id_cmp b.group group
group_whole = keyed_whole id_cmp (λ row. row.group) nat_list_cmp_total

pub group_alone : (group : List ℕ) (a b : MemberRow) → id_cmp a.group group ≡ Equal → id_cmp b.group group ≡ Equal → id_cmp a.group b.group ≡ Equal
group_alone = keyed_alone id_cmp (λ row. row.group) nat_list_cmp_total

pub of_users_total : IsTotalOrder (λ (a b : ByUser). id_cmp a.row.user b.row.user)
of_users_total = on_total (λ side. side.row.user) nat_list_cmp_total

pub user_first : (a b : ByUser) → by_user_cmp a b ≡ Less → (id_cmp a.row.user b.row.user ≡ Less) ⊎ (id_cmp a.row.user b.row.user ≡ Equal)
user_first a b less = first_part (id_cmp a.row.user b.row.user) (id_cmp a.row.group b.row.group) less

pub user_run : (user : List ℕ) → IsRun by_user_cmp (λ side. id_cmp side.row.user user)
user_run = keyed_run id_cmp (λ (side : ByUser). side.row.user) by_user_cmp nat_list_cmp_total user_first

pub user_whole : (user : List ℕ) (a b : ByUser) → id_cmp a.row.user b.row.user ≡ Equal → id_cmp a.row.user user ≡ id_cmp b.row.user user
user_whole = keyed_whole id_cmp (λ side. side.row.user) nat_list_cmp_total

pub user_alone : (user : List ℕ) (a b : ByUser) → id_cmp a.row.user user ≡ Equal → id_cmp b.row.user user ≡ Equal → id_cmp a.row.user b.row.user ≡ Equal
user_alone = keyed_alone id_cmp (λ side. side.row.user) nat_list_cmp_total

-- which stand in the order of their groups
pub user_within : (user : List ℕ) (a b : ByUser) → id_cmp a.row.user user ≡ Equal → id_cmp b.row.user user ≡ Equal → by_user_cmp a b ≡ Less →
    member_cmp a.row b.row ≡ Less
user_within user a b is also less =
    let tied : id_cmp a.row.user b.row.user ≡ Equal = nat_list_cmp_total.congr a.row.user user b.row.user is ∙ tied_back nat_list_cmp_total b.row.user user also in
    let lower : id_cmp a.row.group b.row.group ≡ Less = ap (λ o. ordering_then o (id_cmp a.row.group b.row.group)) (sym tied) ∙ less in
    ap (λ o. ordering_then o (id_cmp a.row.user b.row.user)) lower
