use Rattle.std.proofs.Common.{refl}
use Rattle.ks_routes.specs.Patterns.{fits}
use Rattle.ks_routes.specs.Tables.{found}
use Rattle.ks_routes.specs.Asked.{asked}
use Rattle.ks_routes.specs.Routes.{command_of}
use Rattle.ks_routes.proofs.laws.versions_have_a_path.Goals as goal

pub returns : goal.returns
unfolding command_of found fits asked
returns c request method path = rw (path, method) refl
