use Rattle.std.proofs.Common.{sym}
use Rattle.ks_keyfiles.proofs.FileLemmas.{gives_none}
use Rattle.ks_keyfiles.proofs.reading.read_file.Goals as goal

pub returns-in-Ok-None-clause-told : goal.returns-in-Ok-None-clause-told
returns-in-Ok-None-clause-told g c = λ files told. sym (gives_none c.args.index files c.read.new.into (rw c.in-Ok-None.field-0-is at (c.in-Ok-None.ensures.told files told)))
