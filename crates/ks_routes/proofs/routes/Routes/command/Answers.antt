use Rattle.std.proofs.Common.{refl}
use Rattle.ks_routes.proofs.CommandLemmas.{answers_by, rows_apart}
use Rattle.ks_routes.proofs.routes.Routes.command.Goals as goal

pub find_by-requires : goal.find_by-requires
find_by-requires c = rows_apart _ c.rows.ensures

pub returns : goal.returns
returns c = answers_by c.args.request.now _ _ _ _ c.find_by.ensures c.rows.ensures refl c.respond.ensures
