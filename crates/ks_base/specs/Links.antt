-- Rows in two orders.
use Rattle.std.specs.Prelude.{List}
use Rattle.ks_base.specs.Tables.{Among}

-- | the sides are those from which the rows are seen, and no others
pub record AreLinked {A B : Type 0} (seen : A → B) (rows : List A) (sides : List B) : Type 0 where
  pub forth : (row : A) → Among rows row → Among sides (seen row)
  pub back : (row : A) → Among sides (seen row) → Among rows row
