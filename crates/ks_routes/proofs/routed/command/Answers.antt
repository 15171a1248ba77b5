use Rattle.ks_routes.proofs.CommandLemmas.{answers_by}
use Rattle.ks_routes.proofs.routed.command.Goals as goal

pub returns : goal.returns
returns c = answers_by c.args.request.now _ _ _ _ c.find.ensures c.rows.ensures c.as_slice.ensures.bytes c.respond.ensures
