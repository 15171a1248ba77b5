-- A block as four words of 32 bits: a column of the standard's array each, whose highest byte is in row 0.
-- Only private contracts speak of words.
-- Source: FIPS 197, 3.4.
use Rattle.std.specs.Prelude.{List, ◌++◌, ℕ, slice_index}
use Rattle.std.specs.Int.{w32, to_be_bytes}

-- the block that four words stand for
unfoldable pub block_of : List ℕ → List ℕ
block_of columns =
    to_be_bytes w32 (slice_index columns 0)
    ++ (to_be_bytes w32 (slice_index columns 1)
    ++ (to_be_bytes w32 (slice_index columns 2) ++ to_be_bytes w32 (slice_index columns 3)))
