-- A book: a database with a table of entries and a table of the header.
-- Source: SQLite, strict tables; own.
use Rattle.std.specs.Prelude.{◌≡◌, ◌≢◌, ℕ, ℤ, pos, Bool, true, false, List, [], ◌∷◌, Option, Some, None, codes, refl, filter, option_map, nat_lt, ◌^◌, if◌then◌else◌, IsTrue}
use Rattle.sqlite_value.specs.declared.value.Value.TheVariants.{Null, Int, Blob as Octets}
use Rattle.sqlite_value.specs.declared.keys.Collation.TheVariants.{Binary}
use Rattle.sqlite_value.specs.Order.{Row, column, bytes}
use Rattle.sqlite_trees.specs.Tree.{Trees, has_rowid}
use Rattle.sqlite_trees.specs.View.{is_int}
use Rattle.sqlite_trees.specs.declared.store.Store.{Ghosts}
use Rattle.sqlite.specs.Held.{Held, held_code, state}
use Rattle.std.specs.Coded.{Coded, code_by, coded×, coded_ℕ}
use Rattle.sqlite_schema.specs.declared.schema.Kind.{Kind}
use Rattle.sqlite_schema.specs.declared.schema.Kind.TheVariants.{Integer, Blob}
use Rattle.sqlite_schema.specs.declared.schema.Column.{Column}
use Rattle.sqlite_schema.specs.declared.schema.Table.{Table}
use Rattle.sqlite_schema.specs.declared.schema.Schema.{Schema}
use Rattle.sqlite.specs.State.{State, HasCleanDisk}
use Rattle.ks_keeper.specs.Keeper.{Kept, IsTidy}
use Rattle.ks_keeper.specs.declared.shelf.Shelf.{Shelf}
use Rattle.ks_keeper.specs.declared.shelf.Shelf.TheVariants.{Entries, Header}

-- the name of each table
abbrev pub name_of : Shelf → List ℕ
name_of Entries = codes "entry"
name_of Header = codes "header"

-- its tree, which is also its place in the schema
abbrev pub tree_of : Shelf → ℕ
tree_of Entries = 0
tree_of Header = 1

-- a column with this name that takes values of this kind alone
abbrev pub column_of : List ℕ → Kind → Bool → Column
column_of name kind not_null = record { name = name; kind = kind; is_strict = true; not_null = not_null; default = Null; collation = Binary }

-- each table has a key, which is the number, and the bytes
abbrev pub table_of : Shelf → Table
table_of shelf = record {
  name = name_of shelf;
  tree = tree_of shelf;
  columns = column_of (codes "id") Integer false ∷ column_of (codes "body") Blob true ∷ [];
  key = Some 0;
  primary = 0 ∷ [];
  uniques = [];
  orders = [];
  checks = [];
  references = [];
  computed = [];
  stamps = record { places = []; terms = []; formats = [] };
  is_counted = false;
}

-- | the two tables, and nothing beside them
abbrev pub book_schema : Schema
book_schema = record { tables = table_of Entries ∷ table_of Header ∷ []; indexes = []; views = [] }

-- | the statements that put bytes at a free number, that put them at any number, and that read a number
abbrev pub insert_text : Shelf → List ℕ
insert_text Entries = codes "INSERT INTO entry (id, body) VALUES (?1, ?2)"
insert_text Header = codes "INSERT INTO header (id, body) VALUES (?1, ?2)"

abbrev pub replace_text : Shelf → List ℕ
replace_text Entries = codes "INSERT OR REPLACE INTO entry (id, body) VALUES (?1, ?2)"
replace_text Header = codes "INSERT OR REPLACE INTO header (id, body) VALUES (?1, ?2)"

abbrev pub select_text : Shelf → List ℕ
select_text Entries = codes "SELECT id, body FROM entry WHERE id = ?1"
select_text Header = codes "SELECT id, body FROM header WHERE id = ?1"

-- the bytes at this number, as a row of the table
abbrev pub stored : ℤ → List ℕ → Row
stored number body = Int number ∷ Null ∷ Octets body ∷ []

-- a row of the table, as the statement that reads shows it
abbrev pub shown : Row → Row
shown row = column row 0 ∷ column row 2 ∷ []

-- the rows that have this number
abbrev pub rows_at : Shelf → Trees → ℤ → List Row
rows_at shelf trees number = filter (has_rowid number) (trees (tree_of shelf))

-- the one row of the list
abbrev pub only : List Row → Option Row
only [] = None
only (row ∷ []) = Some row
only (row ∷ other ∷ more) = None

-- there is one row, and its number is an integer
abbrev pub HasOneNumber : List Row → Type 0
HasOneNumber rows = (row : Row) × (rows ≡ row ∷ []) × (is_int (column row 0) ≡ true)

-- the bytes that stand at this number, where one row has it
abbrev pub found_at : Shelf → Trees → ℤ → Option (List ℕ)
found_at shelf trees number = option_map (λ row. bytes (column row 2)) (only (rows_at shelf trees number))

-- | what the tables hold; a row has a number below 2^63
abbrev pub kept_in : Trees → Kept
kept_in trees = record {
  header = found_at Header trees (pos 0);
  entries = λ number. if nat_lt number (2 ^ 63) then found_at Entries trees (pos number) else None;
}

-- | the bytes were put at this number of this table, and all else is as it was
pub record IsPut (shelf : Shelf) (number : ℤ) (body : List ℕ) (old new : Trees) : Type 0 where
  pub there : rows_at shelf new number ≡ stored number body ∷ []
  pub apart : (other : ℤ) → other ≢ number → rows_at shelf new other ≡ rows_at shelf old other
  pub beside : (other : Shelf) → tree_of other ≢ tree_of shelf → new (tree_of other) ≡ old (tree_of other)

-- | nobody else wrote the file so far, the disk gave back what was written, and no failure shut it
abbrev pub IsWhole : State → Type 0
IsWhole s = HasCleanDisk s × IsTrue s.is_open

-- | the tables are those of a book, and each change is committed
pub record IsSettled (s : State) : Type 0 where
  pub schema : s.now.schema ≡ book_schema
  pub settled : s.now ≡ s.committed
  pub alone : s.in_transaction ≡ false

-- | a whole one is settled
abbrev pub IsReady : State → Type 0
IsReady s = IsWhole s → IsSettled s

-- | what a call shows of a book afterwards, where that is still whole: it was whole before, and is settled
pub record Moves (old new : State) : Type 0 where
  pub was_whole : IsWhole old
  pub settled : IsSettled new

-- | what a book shows: the connection, the count of its faults, and what the connection was when the book was made
pub record BookState (S : Type 0) : Type 0 where
  pub held : Held S
  pub faults : ℕ
  pub first : Held S

-- what a book holds
abbrev pub kept_by : {S : Type 0} → Ghosts S → BookState S → Kept
kept_by store book = kept_in (state store book.held).now.trees

-- the connection is whole, and what the book held when it was made is tidy
abbrev pub IsWholeBook : {S : Type 0} → Ghosts S → BookState S → Type 0
IsWholeBook store book = IsWhole (state store book.held) × IsTidy (kept_in (state store book.first).now.trees)

-- | the code of what a book shows
abbrev pub book_code : {S : Type 0} → Coded S → Coded (BookState S)
book_code {S} store = code_by (Held S × (ℕ × Held S)) (coded× (held_code store) (coded× coded_ℕ (held_code store))) (λ b. (b.held, (b.faults, b.first)))
    (λ p. record { held = p.0; faults = p.1.0; first = p.1.1 }) (λ _. refl)
