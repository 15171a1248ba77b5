-- Rows in two orders: by id, and by the name within a home.
use Rattle.std.specs.Prelude.{ℕ, List}
use Rattle.std.specs.declared.cmp.Ordering.{Ordering}
use Rattle.ks_base.specs.Tables.{Among, IsAscending, id_cmp}
use Rattle.ks_index.specs.Indexes.{Name, name_cmp}

-- the same rows in both lists, each of which ascends by a key of its own
pub record AreBoth {X K J : Type 0} (cmp : K → K → Ordering) (key : X → K) (less : J → J → Ordering) (other : X → J) (rows names : List X) : Type 0 where
  pub up : IsAscending cmp key rows
  pub across : IsAscending less other names
  pub forth : (row : X) → Among rows row → Among names row
  pub back : (row : X) → Among names row → Among rows row

-- a row goes by its home and its name
abbrev pub name_of : {R : Type 0} → (R → List ℕ) → (R → List ℕ) → R → Name
name_of home naming row = (home row, naming row)

-- rows by id, and by home and name
abbrev pub AreNamed : {R : Type 0} → (R → List ℕ) → (R → List ℕ) → (R → List ℕ) → List R → List R → Type 0
AreNamed home naming key rows names = AreBoth id_cmp key name_cmp (name_of home naming) rows names
