-- What is given to a user at the targets where it may have roles is what is given at all targets.
use Rattle.std.proofs.Common.{◌≡◌, Bool, true, false, cond, List, [], ◌∷◌, ◌++◌, map, filter, Result, Ok, Err, IfOk, refl, sym, ap, ◌∙◌}
use Rattle.ks_auth.specs.declared.tables.Tables.{Tables}
use Rattle.ks_auth.specs.Answers.{rows_told}
use Rattle.ks_base.specs.declared.grants.Actor.TheVariants as actor
use Rattle.ks_base.specs.declared.grants.GrantRow.{GrantRow}
use Rattle.ks_base.specs.declared.grants.Target.{Target}
use Rattle.ks_base.specs.declared.memory.Memory.{Memory}
use Rattle.ks_base.specs.Roles.{Effective}
use Rattle.ks_base.specs.Rows.{Id, Rows}
use Rattle.ks_effective.specs.State.{rows_of}
use Rattle.ks_effective.specs.Targets.{AreReached}
use Rattle.ks_machine.specs.Assignments.{given_at, given_to, targets}
use Rattle.ks_machine.specs.Effective.{roles_at}
use Rattle.ks_machine.proofs.RoleLemmas.{roles_are_effective}

-- where no role is given, nothing is left out
left_by : (rows : Rows) (user : Id) (at : Target) (kept more : List Target) (b : Bool) → (b ≡ false → roles_at rows user at ≡ []) →
    given_to rows user kept ≡ given_to rows user more → given_to rows user (cond b (at ∷ kept) kept) ≡ given_to rows user (at ∷ more)
unfolding given_to
left_by rows user at kept more true none rest = ap (λ (given : List GrantRow). given_at rows user at ++ given) rest
left_by rows user at kept more false none rest =
    rest
    ∙ ap (λ (roles : List Id). map (λ role. record { actor = actor.User user; target = at; inherited = false; role = role }) roles ++ given_to rows user more) (sym (none refl))

left_out : (rows : Rows) (user : Id) (test : Target → Bool) (all : List Target) → ((at : Target) → test at ≡ false → roles_at rows user at ≡ []) →
    given_to rows user (filter test all) ≡ given_to rows user all
unfolding given_to
left_out rows user test [] none = refl
left_out rows user test (at ∷ more) none = left_by rows user at (filter test more) more (test at) (none at) (left_out rows user test more none)

-- effective roles do not hang on the rows that are not of the tree, people, roles and grants
pub none_here : (tables : Tables) (user : Id) (at : Target) →
    ((role : Id) → Effective (rows_of tables.tree.now tables.people.now tables.roles.now tables.grants.now) user at role → ⊥) → roles_at (rows_told tables) user at ≡ []
none_here tables user at none =
    sym
    (roles_are_effective (rows_told tables) user at [] tt
    (λ role. (
      λ among. absurd among,
      λ e. absurd (none role (record { grant = e.grant; stands = e.stands; acts = e.acts; reaches = e.reaches; walks = e.walks })),
    )))

given_where : (tables : Tables) (user : Id) (found : List Target) → AreReached tables.tree.now tables.people.now tables.grants.now user found →
    given_to (rows_told tables) user found ≡ given_to (rows_told tables) user (targets (rows_told tables))
given_where tables user found reached =
    ap (given_to (rows_told tables) user) reached.found_is
    ∙ left_out (rows_told tables) user reached.test (targets (rows_told tables)) (λ at out. none_here tables user at (reached.others at out tables.roles.now))

pub all_given : (tables : Tables) (user : Id) (found looked_at : List Target) (given : Result (List GrantRow) Memory) →
    AreReached tables.tree.now tables.people.now tables.grants.now user found → looked_at ≡ found →
    IfOk given (λ rows. rows ≡ given_to (rows_told tables) user looked_at) →
    IfOk given (λ rows. rows ≡ given_to (rows_told tables) user (targets (rows_told tables)))
all_given tables user found looked_at (Ok rows) reached same is = is ∙ ap (given_to (rows_told tables) user) same ∙ given_where tables user found reached
all_given tables user found looked_at (Err memory) reached same is = tt
