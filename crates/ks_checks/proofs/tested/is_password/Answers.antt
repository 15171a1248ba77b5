use Rattle.std.proofs.Common.{refl, sym}
use Rattle.ks_auth.specs.Facts.{told}
use Rattle.ks_machine.specs.Attempts.{Stored}
use Rattle.ks_checks.proofs.PasswordLemmas.{lacks_stored}
use Rattle.ks_checks.proofs.tested.is_password.Goals as goal

pub returns-in-None : goal.returns-in-None
returns-in-None c = (
  Stored c.args.row.now.salt c.args.row.now.rounds,
  (c.new.ensures, refl, refl),
  lacks_stored (told c.args.facts.now) c.args.row.now c.args.password.now (sym c.in-None.ensures),
)
