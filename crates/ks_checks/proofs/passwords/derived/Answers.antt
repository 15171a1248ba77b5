use Rattle.std.proofs.Common.{ap, refl, sym}
use Rattle.ks_auth.specs.Facts.{told}
use Rattle.ks_base.specs.declared.receipt.Drawn.TheVariants.{Bytes}
use Rattle.ks_machine.specs.Attempts.{Fresh}
use Rattle.ks_checks.proofs.FreshNeeds.{lacks_fresh}
use Rattle.ks_checks.proofs.passwords.derived.Goals as goal

pub returns-in-None : goal.returns-in-None
returns-in-None c S tells = (
  Fresh c.salt-salt.result c.args.tables.now.settings.now.rounds,
  (c.new.ensures, refl, refl),
  lacks_fresh (told c.args.facts.now) S (Bytes c.args.drawn.now) c.args.password.now c.salt-salt.result c.args.tables.now.settings.now.rounds
      c.salt-salt.ensures (ap (λ settings. settings.rounds) tells.settings) (sym c.in-None.ensures),
)
