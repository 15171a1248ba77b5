-- Which events revoke a token.
-- Source: OS-REVOKE, narrowed.
use Rattle.std.specs.Prelude.{ℕ, ◌+◌, nat_le, Bool, false, ◌&&◌, ◌||◌, List, filter, Option, Some, None}
use Rattle.std.specs.Str.{bytes_eq}
use Rattle.std.specs.List.{list_any}
use Rattle.ks_base.specs.declared.events.Revoke.{Revoke}
use Rattle.ks_base.specs.declared.events.Revoke.TheVariants as revoke
use Rattle.ks_base.specs.declared.events.EventRow.{EventRow}
use Rattle.ks_base.specs.declared.events.Holder.{Holder}
use Rattle.ks_base.specs.declared.limits.TheConstants.{EXPIRED_WINDOW, EVENT_GRACE}
use Rattle.ks_base.specs.Rows.{Id, same}

abbrev pub has : Option Id → Id → Bool
has None id = false
has (Some other) id = same other id

-- | the thing that an event names is the token's audit id, its user, trustor or trustee, its project, its
-- trust, or the domain of its user or of its scope
abbrev pub names : Revoke → Holder → Bool
names (revoke.Audit audit) holder = bytes_eq audit holder.audit
names (revoke.User id) holder = same holder.user id || (has holder.trustor id || has holder.trustee id)
names (revoke.Project id) holder = has holder.project id
names (revoke.Domain id) holder = has holder.user_domain id || has holder.scope_domain id
names (revoke.Trust id) holder = has holder.trust id

-- an event revokes the tokens that were issued at or before its moment
abbrev pub matches : EventRow → Holder → ℕ → Bool
matches event holder issued = nat_le issued event.moment && names event.what holder

abbrev pub is_revoked : List EventRow → Holder → ℕ → Bool
is_revoked events holder issued = list_any (λ event. matches event holder issued) events

-- how long past its expiry a token may still be asked for, in seconds: two days
abbrev pub window : ℕ
window = EXPIRED_WINDOW

-- and half an hour more
abbrev pub kept_for : ℕ
kept_for = EVENT_GRACE

-- an event is live for as long as a token that it may revoke could live and be asked for, and half an hour more
abbrev pub is_live : ℕ → ℕ → EventRow → Bool
is_live life high event = nat_le high (event.moment + life + kept_for)

abbrev pub live : ℕ → ℕ → List EventRow → List EventRow
live life high events = filter (is_live life high) events
