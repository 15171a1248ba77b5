-- The spelling of how a server opened.
use Rattle.std.specs.Prelude.{ℕ, List, refl}
use Rattle.ks_spelling.specs.Codes.{Code, IsSpelling}
use Rattle.ks_spelling.specs.Leaves.{fixed, number32}
use Rattle.ks_spelling.specs.Wholes.{both, made, listed}
use Rattle.ks_spelling.specs.Values.{bytes_code}
use Rattle.ks_spelling.specs.Rows.{key_code}
use Rattle.ks_entries.specs.declared.header.Header.{Header}

-- | the bytes of the opening file, the keys of the folder by their indices, the salts of the users with a password
unfoldable pub header_code : Code Header
header_code = made (both bytes_code (both (listed number32 (both number32 key_code)) (listed number32 (fixed 16)))) (record {
  make = λ p. record { opening = p.0; keys = p.1.0; salts = p.1.1 };
  of = λ header. (header.opening, (header.keys, header.salts));
  of_made = λ p. refl;
  made_of = λ header. refl;
})

-- the bytes are the spelling of the header
abbrev pub IsHeader : List ℕ → Header → Type 0
IsHeader bytes header = IsSpelling header_code bytes header
