-- What revocations name, in its order.
-- Source: OS-REVOKE.
use Rattle.std.specs.Prelude.{ℕ, List, [], ◌∷◌, Option, Some}
use Rattle.std.specs.Option.{option_map}
use Rattle.std.specs.declared.cmp.Ordering.{Ordering}
use Rattle.std.specs.Ordering.{nat_cmp, then_cmp, on}
use Rattle.ks_base.specs.declared.events.Revoke.{Revoke}
use Rattle.ks_base.specs.declared.events.Revoke.TheVariants as revoke
use Rattle.ks_base.specs.declared.events.EventRow.{EventRow}
use Rattle.ks_base.specs.declared.events.Holder.{Holder}
use Rattle.ks_base.specs.Tables.{id_cmp}

-- audit ids, then users, projects, domains and trusts
abbrev pub rank_of : Revoke → ℕ
rank_of (revoke.Audit audit) = 0
rank_of (revoke.User id) = 1
rank_of (revoke.Project id) = 2
rank_of (revoke.Domain id) = 3
rank_of (revoke.Trust id) = 4

abbrev pub bytes_of : Revoke → List ℕ
bytes_of (revoke.Audit audit) = audit
bytes_of (revoke.User id) = id
bytes_of (revoke.Project id) = id
bytes_of (revoke.Domain id) = id
bytes_of (revoke.Trust id) = id

-- by kind, then by bytes
abbrev pub thing_cmp : Revoke → Revoke → Ordering
thing_cmp = then_cmp (on rank_of nat_cmp) (on bytes_of id_cmp)

-- the thing that an event names
abbrev pub thing_of : EventRow → Revoke
thing_of event = event.what

-- the at most eight things of a token that an event may name
abbrev pub things_of : Holder → List (Option Revoke)
things_of holder =
    Some (revoke.Audit holder.audit) ∷ Some (revoke.User holder.user) ∷ option_map revoke.User holder.trustor ∷
    option_map revoke.User holder.trustee ∷ option_map revoke.Project holder.project ∷ option_map revoke.Trust holder.trust ∷
    option_map revoke.Domain holder.user_domain ∷ option_map revoke.Domain holder.scope_domain ∷ []
