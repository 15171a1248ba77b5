-- The tables of an identity tell the state of each front for which it stands.
use Rattle.std.proofs.Common.{◌≡◌, ℕ, refl, sym, ap, ◌∙◌}
use Rattle.ks_auth.specs.declared.tables.Tables.{Tables}
use Rattle.ks_auth.specs.Answers.{Tells, rows_told}
use Rattle.ks_base.specs.Revocation.{live}
use Rattle.ks_machine.specs.Fronts.{Front, replay}
use Rattle.ks_machine.specs.States.{State, raised}
use Rattle.ks_state.specs.Shown.{Shown}
use Rattle.ks_state.specs.Standing.{Stands}

pub record AreTables (tables : Tables) (shown : Shown) : Type 0 where
  pub rows : rows_told tables ≡ shown.state.rows
  pub settings : tables.settings.now ≡ shown.state.settings
  pub ring : tables.ring.now ≡ shown.state.ring
  pub events : tables.revoked.now.events ≡ shown.state.events
  pub high : tables.revoked.now.high ≡ shown.state.high
  pub life : tables.revoked.now.life ≡ shown.state.settings.life

pub tells : (tables : Tables) (shown : Shown) (f : Front) (moment : ℕ) → AreTables tables shown → Stands shown f → Tells tables (raised (replay f) moment)
tells tables shown f moment are stands =
    let life = are.life ∙ ap (λ (S : State). S.settings.life) stands.state in
    let high = are.high ∙ ap (λ (S : State). S.high) stands.state in record {
      settings = sym (are.settings ∙ ap (λ (S : State). S.settings) stands.state);
      ring = sym (are.ring ∙ ap (λ (S : State). S.ring) stands.state);
      rows = sym (are.rows ∙ ap (λ (S : State). S.rows) stands.state);
      events = record {
        life_is = refl;
        high_is = refl;
        events_are = are.events ∙ ap (λ (S : State). S.events) stands.state
            ∙ ap (λ n. live n (replay f).high (replay f).events) (sym life)
            ∙ ap (λ n. live tables.revoked.now.life n (replay f).events) (sym high);
      };
    }
