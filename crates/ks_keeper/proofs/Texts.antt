-- What the texts of the statements mean over the tables of a book.
use Rattle.std.proofs.Common.{◌≡◌, pos, negsuc, List, [], ◌∷◌, codes, false, None, refl}
use Rattle.sqlite_value.specs.declared.value.Value.TheVariants.{Null, Int}
use Rattle.sqlite_value.specs.declared.keys.Collation.TheVariants.{Binary}
use Rattle.sqlite_sql.specs.declared.ops.BinaryOp.TheVariants.{Compare}
use Rattle.sqlite_sql.specs.declared.ops.CompareOp.TheVariants.{Eq}
use Rattle.sqlite_sql.specs.Term.{Term, lit, col, op2}
use Rattle.sqlite_sql.specs.Query.{Query, inner, end}
use Rattle.sqlite_schema.specs.declared.command.Command.TheVariants.{Insert, InsertOr, Select}
use Rattle.sqlite_schema.specs.declared.command.Source.TheVariants.{Values}
use Rattle.sqlite_schema.specs.declared.command.Conflict.TheVariants.{Replace}
use Rattle.sqlite_tied.specs.Compute.{everything}
use Rattle.sqlite.specs.Listing.{understood, reads_listing}
use Rattle.sqlite.proofs.Callers.{IsPlain, command_of}
use Rattle.ks_keeper.specs.declared.shelf.Shelf.{Shelf}
use Rattle.ks_keeper.specs.declared.shelf.Shelf.TheVariants.{Entries, Header}
use Rattle.ks_keeper.specs.Book.{book_schema, tree_of, insert_text, replace_text, select_text}

abbrev pub terms : List Term
terms = col 0 0 ∷ lit Null ∷ col 0 1 ∷ []

abbrev pub query : Shelf → Query
query shelf = record {
  from = inner (tree_of shelf) end;
  filter = op2 (Compare Eq Binary) (col 1 0) (col 0 0) ∷ [];
  group = None;
  project = col 1 0 ∷ col 1 2 ∷ [];
  distinct = false;
  collations = [];
  order = [];
  limit = lit (Int (negsuc 0));
  offset = lit (Int (pos 0));
}

pub insert_is : (shelf : Shelf) → command_of (understood book_schema (insert_text shelf)) ≡ Insert (tree_of shelf) (Values terms 3)
unfolding understood everything
insert_is Entries = refl
insert_is Header = refl

pub replace_is : (shelf : Shelf) → command_of (understood book_schema (replace_text shelf)) ≡ InsertOr (tree_of shelf) Replace (Values terms 3) []
unfolding understood everything
replace_is Entries = refl
replace_is Header = refl

pub select_is : (shelf : Shelf) → command_of (understood book_schema (select_text shelf)) ≡ Select (record { lets = []; body = query shelf }) (codes "id" ∷ codes "body" ∷ [])
unfolding understood everything
select_is Entries = refl
select_is Header = refl

pub insert_plain : (shelf : Shelf) → IsPlain (understood book_schema (insert_text shelf))
unfolding understood everything
insert_plain Entries = (refl, refl)
insert_plain Header = (refl, refl)

pub replace_plain : (shelf : Shelf) → IsPlain (understood book_schema (replace_text shelf))
unfolding understood everything
replace_plain Entries = (refl, refl)
replace_plain Header = (refl, refl)

pub select_plain : (shelf : Shelf) → IsPlain (understood book_schema (select_text shelf))
unfolding understood everything
select_plain Entries = (refl, refl)
select_plain Header = (refl, refl)

pub unlisted : (shelf : Shelf) → reads_listing book_schema (select_text shelf) ≡ false
unfolding understood everything
unlisted Entries = refl
unlisted Header = refl
