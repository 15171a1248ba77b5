-- What a worker's desk gives and takes.
use Rattle.std.specs.Prelude.{◌≡◌, ℕ, ◌≤◌, List, [], ◌∷◌, ◌++◌, length, take, drop, Option, Some, None, Result, Ok, Err}
use Rattle.ks_base.specs.declared.receipt.Receipt.{Receipt}
use Rattle.ks_outside.specs.declared.desk_call.DeskCall.{DeskCall}

-- | a desk, of which each part is told or not: the links still to come, the links given back, the readings
-- of the clock and the random bytes still to come, the receipts, and the calls for a receipt, of the clock
-- and for random bytes so far; for how many links given back and how many receipts it has spare room; and
-- its counts of faults, one of accepts and one of fills
pub record DeskState (Link : Type 0) : Type 0 where
  pub coming : Option (List Link)
  pub returned : Option (List Link)
  pub readings : Option (List ℕ)
  pub random : Option (List ℕ)
  pub receipts : Option (List Receipt)
  pub calls : Option (List DeskCall)
  pub link_room : ℕ
  pub receipt_room : ℕ
  pub accept_faults : ℕ
  pub fill_faults : ℕ

-- the next link is handed out, and there is none only where no more come; a failed accept takes none
abbrev pub Accepts : {Link E : Type 0} → List Link → Option (List Link) → Result (Option Link) E → Type 0
Accepts {Link} coming now (Ok (Some link)) = (rest : List Link) × (coming ≡ link ∷ rest) × (now ≡ Some rest)
Accepts coming now (Ok None) = (coming ≡ []) × (now ≡ Some [])
Accepts coming now (Err _) = now ≡ Some coming

-- the first of the readings, or 0 where there is none
abbrev pub next_reading : List ℕ → ℕ
next_reading [] = 0
next_reading (reading ∷ _) = reading

-- the readings after it: the last one stays
abbrev pub later_readings : List ℕ → List ℕ
later_readings [] = []
later_readings (reading ∷ []) = reading ∷ []
later_readings (_ ∷ reading ∷ readings) = reading ∷ readings

-- a piece is filled from the front of the random bytes, of which there are enough; a failed fill takes none
abbrev pub Fills : {T E : Type 0} → List ℕ → Option (List ℕ) → List ℕ → Result T E → Type 0
Fills bytes now piece (Ok _) = (length piece ≤ length bytes) × (piece ≡ take (length piece) bytes) × (now ≡ Some (drop (length piece) bytes))
Fills bytes now piece (Err _) = now ≡ Some bytes

-- a desk that tells its calls has made these since, in this order. One that ceases to tell them says nothing
abbrev pub Makes : List DeskCall → Option (List DeskCall) → Option (List DeskCall) → Type 0
Makes calls before after =
    (told : List DeskCall) → after ≡ Some told → (earlier : List DeskCall) × (before ≡ Some earlier) × (told ≡ earlier ++ calls)
