-- What is told of revocations.
-- Source: OS-REVOKE.
use Rattle.std.specs.Prelude.{ℕ, List, [], ◌∷◌, codes}
use Rattle.serde_json.specs.Data.{Data, string}
use Rattle.ks_base.specs.declared.events.EventRow.{EventRow}
use Rattle.ks_base.specs.declared.events.Revoke.{Revoke}
use Rattle.ks_base.specs.declared.events.Revoke.TheVariants as revoke
use Rattle.ks_time.specs.TimeTexts.{time_text}
use Rattle.ks_render.specs.Values.{Entry, object_of}
use Rattle.ks_render.specs.Tokens.{audit_value}

-- it ends the tokens that were issued at or before its moment, at which it came
abbrev pub issued_before : ℕ → Entry
issued_before moment = (codes "issued_before", string (time_text moment))

abbrev pub revoked_at : ℕ → Entry
revoked_at moment = (codes "revoked_at", string (time_text moment))

-- | which tokens: the one of an audit id, or those of a trust, a domain, a project or a user
abbrev pub event_entries : Revoke → ℕ → List Entry
event_entries (revoke.Audit audit) moment = (codes "audit_id", audit_value audit) ∷ issued_before moment ∷ revoked_at moment ∷ []
event_entries (revoke.User id) moment = issued_before moment ∷ revoked_at moment ∷ (codes "user_id", string id) ∷ []
event_entries (revoke.Project id) moment = issued_before moment ∷ (codes "project_id", string id) ∷ revoked_at moment ∷ []
event_entries (revoke.Domain id) moment = (codes "domain_id", string id) ∷ issued_before moment ∷ revoked_at moment ∷ []
event_entries (revoke.Trust id) moment = (codes "OS-TRUST:trust_id", string id) ∷ issued_before moment ∷ revoked_at moment ∷ []

-- | what is told of a revocation
unfoldable pub event_value : EventRow → Data
event_value event = object_of (event_entries event.what event.moment)
