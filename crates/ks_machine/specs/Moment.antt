-- The moment of an event: the machine's clock never goes back, and it ends while every expiry that a token can have is still ahead.
use Rattle.std.specs.Prelude.{ℕ, min, max}
use Rattle.ks_base.specs.declared.limits.TheConstants.{LAST_READING}

-- the last reading that counts
abbrev pub last_moment : ℕ
last_moment = LAST_READING

-- a reading of the clock, at most the last that counts, or the highest moment so far
abbrev pub moment_of : ℕ → ℕ → ℕ
moment_of high reading = max high (min reading last_moment)
