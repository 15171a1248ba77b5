-- The key that opens, as it is or taken in.
use Rattle.ks_base.specs.declared.key.Key.{Key}
use Rattle.ks_fernet.specs.declared.opener.Opener.{Opener}
use Rattle.ks_fernet.specs.declared.opener.Opener.TheVariants.{Plain, Taken}

abbrev pub key_of : Opener → Key
key_of (Plain key) = key.now
key_of (Taken key) = key.now
