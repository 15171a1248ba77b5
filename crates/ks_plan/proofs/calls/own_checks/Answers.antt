use Rattle.ks_plan.proofs.AskedLemmas.{bytes_for_update, folder_for_load}
use Rattle.ks_plan.proofs.calls.own_checks.Goals as goal

pub update-requires : goal.update-requires
update-requires c =
    rw c.get-in-Update.ensures
    (bytes_for_update c.args.call.now.command c.in-Update.id c.in-Update.made c.args.call.now.draw c.in-Update.is c.requires.bytes)

pub load_keys-requires : goal.load_keys-requires
load_keys-requires c = folder_for_load c.args.call.now.command c.args.call.now.folder c.in-LoadKeys.is c.requires.fit.folder
