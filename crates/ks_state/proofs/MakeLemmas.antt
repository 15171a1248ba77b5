-- A change that was written down, and whose rows are the changed ones, is made.
use Rattle.std.proofs.Common.{◌≡◌, ℕ, ◌<◌, ◌^◌, true, not, ◌&&◌, List, length, filter, ap, subst, ◌∙◌}
use Rattle.ks_base.specs.declared.app_creds.AppCredRow.{AppCredRow}
use Rattle.ks_base.specs.declared.events.Revoke.{Revoke}
use Rattle.ks_base.specs.declared.grants.GrantRow.{GrantRow}
use Rattle.ks_base.specs.declared.trusts.TrustRow.{TrustRow}
use Rattle.ks_base.specs.Catalog.{CatalogState}
use Rattle.ks_base.specs.Factors.{FactorState}
use Rattle.ks_base.specs.People.{PeopleState, is_group_in, is_user_in}
use Rattle.ks_base.specs.RoleLists.{RolesState}
use Rattle.ks_base.specs.Rows.{Id, Rows}
use Rattle.ks_base.specs.Trees.{TreeState, without_domain}
use Rattle.ks_base.specs.Trusts.{trusts_left}
use Rattle.ks_machine.specs.declared.change.Change.{Change}
use Rattle.ks_machine.specs.declared.settings.Settings.{Settings}
use Rattle.ks_machine.specs.Changes.{Effect, apply, domain_dropped, effect, is_actor_gone, is_left, is_of_domain, is_target_gone}
use Rattle.ks_machine.specs.Openings.{NamedRule}
use Rattle.ks_ring.specs.Rings.{RingState}
use Rattle.ks_totp.specs.Factors.{of_users}
use Rattle.ks_state.specs.DomainRows.{has_group, has_project, has_user}
use Rattle.ks_state.specs.Logs.{Logged, is_room, written}
use Rattle.ks_opening.specs.Opened.{rows_in}
use Rattle.ks_state.specs.Shown.{HasRoom, Shown, changed}

-- what is shown of these parts
abbrev pub parts : Settings → List NamedRule → RingState → Rows → Logged → Shown
parts settings rules ring rows log = record {
  state = record { settings = settings; rules = rules; ring = ring; rows = rows; events = log.revoked.events; high = log.revoked.high; made = log.made };
  newest = log.newest;
}

-- with room for more
abbrev pub roomy : ℕ → Logged → Logged
roomy room log = record log { revoked = record log.revoked { room = room } }

pub made : (most : ℕ) (settings : Settings) (rules : List NamedRule) (ring : RingState) (rows left : Rows) (log ready done : Logged) (things : List Revoke) (what : Change) →
    ready ≡ roomy ready.revoked.room log → done ≡ written things what done.revoked.marks done.revoked.room ready →
    (let makes = effect (parts settings rules ring rows log).state what in (things ≡ makes.ended) × (left ≡ makes.rows) × (ring ≡ makes.ring)) →
    is_room most log.revoked.events (length things) ≡ true → log.made < 2 ^ 58 →
    HasRoom most (parts settings rules ring rows log) what × (parts settings rules ring left done ≡ changed what (parts settings rules ring rows log))
unfolding apply
made most settings rules ring rows left log ready done things what roomier is (ends, leaves, turns) room few =
    let makes : Effect = effect (parts settings rules ring rows log).state what in (
      (subst (λ (l : List Revoke). is_room most log.revoked.events (length l) ≡ true) ends room, few),
      ap {A = Logged} (λ d. parts settings rules ring left d)
          (is ∙ ap {A = Logged} (λ r. written things what done.revoked.marks done.revoked.room r) roomier
          ∙ ap {A = List Revoke} (λ t. written t what done.revoked.marks done.revoked.room log) ends)
          ∙ ap {A = Rows} (λ r. parts settings rules ring r (written makes.ended what done.revoked.marks done.revoked.room log)) leaves
          ∙ ap {A = RingState} (λ r. parts settings rules r makes.rows (written makes.ended what done.revoked.marks done.revoked.room log)) turns,
    )

-- the people, the grants, the credentials and the factors that a domain leaves

abbrev pub people_dropped : Id → PeopleState → PeopleState
people_dropped domain people = record {
  users = filter (λ row. not (is_user_in domain row)) people.users;
  groups = filter (λ row. not (is_group_in domain row)) people.groups;
  members = filter (is_left (has_user domain people) (has_group domain people)) people.members;
}

abbrev pub grants_dropped : Id → TreeState → PeopleState → List GrantRow → List GrantRow
grants_dropped domain tree people grants =
    filter (λ row. not (is_actor_gone (has_user domain people) (has_group domain people) row.actor) && not (is_target_gone (has_project domain tree) domain row.target)) grants

abbrev pub creds_dropped : Id → TreeState → PeopleState → List AppCredRow → List AppCredRow
creds_dropped domain tree people creds =
    filter (λ row. not (has_user domain people row.user) && not (has_project domain tree row.project)) creds

abbrev pub factors_dropped : Id → PeopleState → FactorState → FactorState
factors_dropped domain people factors = of_users (λ user. not (has_user domain people user)) factors

-- the tables of an identity
pub record Tabled : Type 0 where
  pub tree : TreeState
  pub people : PeopleState
  pub roles : RolesState
  pub grants : List GrantRow
  pub trusts : List TrustRow
  pub catalog : CatalogState
  pub creds : List AppCredRow
  pub factors : FactorState

abbrev pub tabled_rows : Tabled → Rows
tabled_rows t = rows_in t.tree t.people t.roles t.grants t.trusts t.catalog t.creds t.factors

pub domain_rows : (t : Tabled) (tree : TreeState) (people : PeopleState) (grants : List GrantRow) (trusts : List TrustRow) (creds : List AppCredRow) (factors : FactorState) (id : Id) →
    tree ≡ without_domain id t.tree → people ≡ people_dropped id t.people → grants ≡ grants_dropped id t.tree t.people t.grants →
    trusts ≡ trusts_left t.trusts (is_of_domain (tabled_rows t) id) → creds ≡ creds_dropped id t.tree t.people t.creds → factors ≡ factors_dropped id t.people t.factors →
    rows_in tree people t.roles grants trusts t.catalog creds factors ≡ domain_dropped (tabled_rows t) id
unfolding domain_dropped
domain_rows t tree people grants trusts creds factors id one two three four five six =
    λ i. rows_in (one i) (two i) t.roles (three i) (four i) t.catalog (five i) (six i)
