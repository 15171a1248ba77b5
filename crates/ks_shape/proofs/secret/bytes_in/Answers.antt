use Rattle.std.proofs.Common.{refl}
use Rattle.ks_shape.proofs.Base32Lemmas.{no_bytes}
use Rattle.ks_shape.proofs.secret.bytes_in.Goals as goal

pub returns-in-None : goal.returns-in-None
returns-in-None c =
    let none = rw c.in-None.is at c.in_ok-bytes.ensures.none in
    rw (← c.as_bytes.ensures.value, no_bytes c.as_bytes.result.now none) refl
