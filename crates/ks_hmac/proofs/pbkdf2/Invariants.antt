use Rattle.std.proofs.Common.{◌-◌}
use Rattle.ks_hmac.proofs.Pbkdf2Lemmas.{IsPartSum}
use Rattle.ks_hmac.proofs.pbkdf2.Given as goal

abbrev pub invariant-rounds : goal.invariant-rounds
invariant-rounds l = IsPartSum l.password l.salt l.block l.sum (l.rounds - l.counter) l.rounds
