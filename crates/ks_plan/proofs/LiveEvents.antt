-- The live events of a whole history are found among those that were live before.
use Rattle.std.proofs.Common.{◌≡◌, ℕ, ◌≤◌, filter, sym, ap, ◌∙◌}
use Rattle.ks_revoke.proofs.LiveLemmas.{live_again}
use Rattle.ks_base.specs.Revocation.{is_live, live}
use Rattle.ks_machine.specs.States.{State}
use Rattle.ks_auth.specs.Answers.{Tells}
use Rattle.ks_auth.specs.declared.tables.Tables.{Tables}

pub live_told : (tables : Tables) (S : State) (moment : ℕ) → Tells tables S → tables.revoked.now.high ≤ moment →
    tables.revoked.now.life ≡ tables.settings.now.life → filter (is_live tables.settings.now.life moment) tables.revoked.now.events ≡ live S.settings.life moment S.events
live_told tables S moment tells le lives =
    let same : tables.settings.now.life ≡ tables.revoked.now.life = sym lives in
    let also : S.settings.life ≡ tables.revoked.now.life = ap (λ settings. settings.life) tells.settings ∙ same in
    rw (same, also, tells.events.events_are) (live_again tables.revoked.now.life tables.revoked.now.high moment S.events le)
