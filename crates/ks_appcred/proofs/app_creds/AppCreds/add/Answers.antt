use Rattle.std.proofs.Common.{◌∙◌, ap}
use Rattle.ks_appcred.proofs.FaultLemmas.{id_free, name_free}
use Rattle.ks_base.specs.AppCreds.{cred_named, cred_of}
use Rattle.ks_appcred.proofs.app_creds.AppCreds.add.Goals as goal

pub add-requires-clause-new : goal.add-requires-clause-new
add-requires-clause-new c = ap (cred_of c.args.row.id) c.self.view_is ∙ id_free c.args.self.now c.args.row c.in_ok-may_add.ensures

pub add-requires-clause-unnamed : goal.add-requires-clause-unnamed
add-requires-clause-unnamed c = ap (cred_named c.args.row.user c.args.row.name) c.self.view_is ∙ name_free c.args.self.now c.args.row c.in_ok-may_add.ensures
