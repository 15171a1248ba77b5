use Rattle.ks_totp.specs.Base32.{letter_of}
use Rattle.ks_totp.proofs.LetterLemmas.{letter_small}
use Rattle.ks_totp.proofs.base32.letter.Goals as goal

pub returns-clause-ascii : goal.returns-clause-ascii
unfolding letter_of
returns-clause-ascii c = rw c.from.ensures (letter_small c.args.five c.requires)
