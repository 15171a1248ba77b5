-- What is known of a derived password.
-- Source: RFC 8018, 5.2.
use Rattle.std.specs.Prelude.{ℕ, List}

-- | a password, a salt, an iteration count and the digest of the three (RFC 8018, 5.2)
pub record Derivation : Type 0 where
  pub password : List ℕ
  pub salt : List ℕ
  pub rounds : ℕ
  pub digest : List ℕ
