use Rattle.ks_logins.proofs.ShortSpellings.{short_spelling}
use Rattle.ks_logins.proofs.login.sealed.Goals as goal

pub seal-requires : goal.seal-requires
seal-requires c = rw (c.as_slice.ensures, c.in_ok-plain.ensures.spelled) (short_spelling c.args.payload.now c.requires)
