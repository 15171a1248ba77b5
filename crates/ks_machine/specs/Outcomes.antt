-- What a command that is granted gives: a body, and a change if it makes one.
-- Source: own; RFC 9562, 5.4.
use Rattle.std.specs.Prelude.{ℕ, ◌+◌, ◌%◌, List, [], ◌∷◌, ◌++◌, take, drop, Option, Some, None}
use Rattle.hex.specs.Hex.{encode_lower}
use Rattle.ks_base.specs.declared.receipt.Drawn.{Drawn}
use Rattle.ks_base.specs.declared.receipt.Drawn.TheVariants.{Unused, Bytes, Failed}
use Rattle.ks_base.specs.declared.key.Key.{Key}
use Rattle.ks_base.specs.Rows.{Id}
use Rattle.ks_machine.specs.declared.body_out.BodyOut.{BodyOut}
use Rattle.ks_machine.specs.declared.change.Change.{Change}

-- | what a granted command tells, and the change that it makes
pub record Outcome : Type 0 where
  pub told : BodyOut
  pub change : Option Change

-- nothing changes
abbrev pub tells : BodyOut → Outcome
tells told = record { told = told; change = None }

-- a change and what is told with it
abbrev pub changes : Change → BodyOut → Outcome
changes change told = record { told = told; change = Some change }

-- the 64 random bytes: 16 for an id, 16 for a salt or an iv, 32 for a key

abbrev pub bytes_in : Drawn → List ℕ
bytes_in (Bytes bytes) = bytes
bytes_in Unused = []
bytes_in Failed = []

abbrev pub id_bytes : Drawn → List ℕ
id_bytes drawn = take 16 (bytes_in drawn)

abbrev pub salt : Drawn → List ℕ
salt drawn = take 16 (drop 16 (bytes_in drawn))

abbrev pub iv : Drawn → List ℕ
iv drawn = salt drawn

abbrev pub key : Drawn → Key
key drawn = record { signing = take 16 (drop 32 (bytes_in drawn)); encryption = take 16 (drop 48 (bytes_in drawn)) }

-- the byte at a place with this added to its remainder
abbrev pub marked : ℕ → ℕ → ℕ → List ℕ → List ℕ
marked at remainder mark bytes = take at bytes ++ marked_first (drop at bytes)
  where
    marked_first : List ℕ → List ℕ
    marked_first [] = []
    marked_first (byte ∷ more) = (byte % remainder + mark) ∷ more

-- a UUID of version 4 (RFC 9562, section 5.4): the high half of byte 6 is 4, the two high bits of byte 8 are 2
abbrev pub uuid : List ℕ → List ℕ
uuid bytes = marked 8 64 128 (marked 6 16 64 bytes)

-- the id of a new row: the lower hex digits of the UUID of version 4 of 16 random bytes (RFC 9562, 5.4)
unfoldable pub made_id : Drawn → Id
made_id drawn = encode_lower (uuid (id_bytes drawn))
