use Rattle.std.proofs.Common.{subst, sym}
use Rattle.ks_server.specs.Ties.{IsReadFor}
use Rattle.ks_machine.specs.declared.call.FolderRead.TheVariants as folder
use Rattle.ks_server.proofs.FolderLemmas.{ring_of_folder}
use Rattle.ks_server.proofs.folder.read_folder.Goals as goal

pub returns-in-Ok-clause-read : goal.returns-in-Ok-clause-read
returns-in-Ok-clause-read g c =
    subst (λ loads. IsReadFor loads (folder.Keys c.in-Ok.keys)) (sym c.if-not-loads.false) (ring_of_folder c.in-Ok.keys c.in-Ok.ensures.keys)
