-- What an opened token is known by.
use Rattle.std.specs.Prelude.{ℕ, List}
use Rattle.ks_base.specs.declared.key.Key.{Key}

-- | what an opened token is known by: the number and the key that opened, and the text
pub record Opening : Type 0 where
  pub number : ℕ
  pub key : Key
  pub text : List ℕ
