use Rattle.std.proofs.Common.{refl}
use Rattle.ks_totp.proofs.Base32Lemmas.{no_letter}
use Rattle.ks_totp.proofs.base32.fives_of.Goals as goal

pub returns-in-None-clause-none : goal.returns-in-None-clause-none
returns-in-None-clause-none c bytes is =
    no_letter c.args.letters.now bytes c.loop-letter.letter-index _ c.loop-letter-test.true refl c.in-None.ensures.none is
