use Rattle.std.proofs.Common.{Ok, ap, ◌∙◌, rules}
use Rattle.ks_setup.proofs.OpeningLemmas.{folder_known}
use Rattle.ks_setup.proofs.form.OpeningFile.wants_folder.Goals as goal

pub returns : goal.returns
returns c text form = folder_known text c.args.self.now form ∙ ap Ok (search rules)
