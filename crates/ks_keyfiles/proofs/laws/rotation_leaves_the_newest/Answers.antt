use Rattle.ks_keyfiles.proofs.KeepingLemmas.{leaves_newest, loses_no_key}
use Rattle.ks_keyfiles.proofs.laws.rotation_leaves_the_newest.Goals as goal

pub returns : goal.returns
returns c = record { newest = leaves_newest; on_the_way = loses_no_key }
