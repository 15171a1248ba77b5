-- The spellings of the values that every layer speaks of.
use Rattle.std.specs.Prelude.{ℕ, List}
use Rattle.std.specs.Str.{is_utf8}
use Rattle.ks_base.specs.Ids.{is_id}
use Rattle.ks_spelling.specs.Codes.{Code}
use Rattle.ks_spelling.specs.Leaves.{byte, counted, number32}
use Rattle.ks_spelling.specs.Wholes.{tested}

-- | an id: a byte for its length, and its bytes
unfoldable pub id_code : Code (List ℕ)
id_code = tested (counted byte) is_id

-- | bytes: four bytes for their count, and they
unfoldable pub bytes_code : Code (List ℕ)
bytes_code = counted number32

-- | a text: four bytes for the count of its bytes, and they, in UTF-8
unfoldable pub text_code : Code (List ℕ)
text_code = tested (counted number32) is_utf8
