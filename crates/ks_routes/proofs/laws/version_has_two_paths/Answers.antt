use Rattle.std.proofs.Common.{refl}
use Rattle.ks_routes.specs.Patterns.{fits}
use Rattle.ks_routes.specs.Tables.{found}
use Rattle.ks_routes.specs.Asked.{asked}
use Rattle.ks_routes.specs.Routes.{command_of}
use Rattle.ks_routes.proofs.laws.version_has_two_paths.Goals as goal

pub returns-clause-bare : goal.returns-clause-bare
unfolding command_of found fits asked
returns-clause-bare c request method path = rw (path, method) refl

pub returns-clause-slash : goal.returns-clause-slash
unfolding command_of found fits asked
returns-clause-slash c request method path = rw (path, method) refl
