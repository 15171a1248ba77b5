-- Rows by number: which rows have a number once a row was put or taken out.
use Rattle.std.proofs.Common.{◌≡◌, ◌≢◌, ◌⊎◌, inl, inr, ℕ, ℤ, Bool, true, false, not, cond, ◌&&◌, ◌++◌, List, [], ◌∷◌, map, filter, flat_map, length, Option, Some, None, option_map, IsPermutation, Ordering, Less, Equal, Greater, int_cmp, refl, sym, ap, ◌∙◌, true≢false, arith}
use Rattle.std.specs.List.{list_any, AllByRecursion}
use Rattle.std.specs.Ordering.{is_eq, match_ordering}
use Rattle.std.proofs.lemmas.Bool.{or_parts}
use Rattle.std.proofs.lemmas.Cmp.{tied_itself}
use Rattle.std.proofs.lemmas.List.Sorted.{length_permutation}
use Rattle.sqlite_value.specs.declared.value.Value.{Value}
use Rattle.sqlite_value.specs.declared.value.Value.TheVariants.{Null, Int, Real, Text, Blob}
use Rattle.sqlite_value.specs.Order.{Row, column, bytes, value_cmp}
use Rattle.sqlite_value.proofs.OrderLemmas.{value_cmp_total, value_cmp-Int, value_cmp-Null}
use Rattle.sqlite_trees.specs.Tree.{rowid, has_rowid, put_row, without_rowid}
use Rattle.sqlite_sql.specs.declared.ops.BinaryOp.TheVariants.{Compare}
use Rattle.sqlite_sql.specs.declared.ops.CompareOp.TheVariants.{Eq}
use Rattle.sqlite_value.specs.declared.keys.Collation.TheVariants.{Binary}
use Rattle.sqlite_sql.specs.Ops.{binary, is_true, from_truth}
use Rattle.sqlite_trees.specs.View.{is_int}
use Rattle.sqlite_trees.proofs.TreeLemmas.{not_true}
use Rattle.sqlite_rules.specs.Edit.{without_all, id_in}
use Rattle.sqlite_rules.proofs.TableLemmas.{int_is}
use Rattle.sqlite_rules.specs.Lists.{Has}
use Rattle.sqlite.proofs.Callers.{one_permutation}
use Rattle.ks_keeper.specs.Book.{only, shown, HasOneNumber}
use Rattle.std.proofs.lemmas.Map.Lookups.{exact_signed}

-- ---- numbers

pub none_of : (p : Row → Bool) (rows : List Row) → list_any p rows ≡ false → filter p rows ≡ []
none_of p [] h = refl
none_of p (r ∷ rows) h = let parts = or_parts (p r) (list_any p rows) h in rw (parts.0, none_of p rows parts.1)

int_tied : (m n : ℤ) → is_eq (int_cmp m n) ≡ true → m ≡ n
int_tied m n tied = exact_signed m n (equal_of (int_cmp m n) tied)
  where
    equal_of : (o : Ordering) → is_eq o ≡ true → o ≡ Equal
    equal_of Less h = absurd (true≢false (sym h))
    equal_of Equal h = refl
    equal_of Greater h = absurd (true≢false (sym h))

int_apart : (m n : ℤ) → m ≢ n → is_eq (int_cmp n m) ≡ false
int_apart m n apart = not_true _ (λ same. apart (sym (int_tied n m same)))

pub number_itself : (n : ℤ) (more : Row) → has_rowid n (Int n ∷ more) ≡ true
number_itself n more = ap is_eq (tied_itself value_cmp_total (Int n))

pub number_apart : (m n : ℤ) (more : Row) → m ≢ n → has_rowid m (Int n ∷ more) ≡ false
number_apart m n more apart = ap is_eq (value_cmp-Int n m) ∙ int_apart m n apart

-- a row with one number has no other
pub number_alone : (m n : ℤ) (r : Row) → m ≢ n → value_cmp (rowid r) (Int n) ≡ Equal → has_rowid m r ≡ false
number_alone m n r apart tied = ap is_eq (value_cmp_total.congr (rowid r) (Int n) (Int m) tied) ∙ number_apart m n [] apart

-- ---- rows that are put

module _ (n : ℤ) (more : Row) where
  abbrev new : Row
  new = Int n ∷ more

  pub put_there : (rows : List Row) → filter (has_rowid n) rows ≡ [] → filter (has_rowid n) (put_row new rows) ≡ new ∷ []
  put_there [] free = rw (number_itself n more)
  put_there (r ∷ rows) free = go (value_cmp (rowid r) (Int n)) refl (put_there rows)
    where
      go : (o : Ordering) → value_cmp (rowid r) (Int n) ≡ o → (filter (has_rowid n) rows ≡ [] → filter (has_rowid n) (put_row new rows) ≡ new ∷ [])
          → filter (has_rowid n) (match_ordering o (r ∷ put_row new rows) (new ∷ rows) (new ∷ r ∷ rows)) ≡ new ∷ []
      go Less is later = let misses : has_rowid n r ≡ false = ap is_eq is in rw misses (later (rw misses at free))
      go Equal is later = let hits : has_rowid n r ≡ true = ap is_eq is in absurd (let e = rw hits at free in cc)
      go Greater is later = rw (number_itself n more, free)

  pub put_apart : (m : ℤ) → m ≢ n → (rows : List Row) → filter (has_rowid m) (put_row new rows) ≡ filter (has_rowid m) rows
  put_apart m apart [] = rw (number_apart m n more apart)
  put_apart m apart (r ∷ rows) = go (value_cmp (rowid r) (Int n)) refl (put_apart m apart rows)
    where
      go : (o : Ordering) → value_cmp (rowid r) (Int n) ≡ o → filter (has_rowid m) (put_row new rows) ≡ filter (has_rowid m) rows
          → filter (has_rowid m) (match_ordering o (r ∷ put_row new rows) (new ∷ rows) (new ∷ r ∷ rows)) ≡ filter (has_rowid m) (r ∷ rows)
      go Less is later = rw later
      go Equal is later = rw (number_apart m n more apart, number_alone m n r apart is)
      go Greater is later = rw (number_apart m n more apart)

-- ---- rows that are taken out

pub taken_there : (n : ℤ) (rows : List Row) → filter (has_rowid n) (without_rowid n rows) ≡ []
taken_there n [] = refl
taken_there n (r ∷ rows) = go (has_rowid n r) refl (taken_there n rows)
  where
    go : (b : Bool) → has_rowid n r ≡ b → filter (has_rowid n) (without_rowid n rows) ≡ [] → filter (has_rowid n) (cond (not b) (r ∷ without_rowid n rows) (without_rowid n rows)) ≡ []
    go true is later = later
    go false is later = rw is later

pub taken_apart : (m n : ℤ) → m ≢ n → (rows : List Row) → filter (has_rowid m) (without_rowid n rows) ≡ filter (has_rowid m) rows
taken_apart m n apart [] = refl
taken_apart m n apart (r ∷ rows) = go (value_cmp (rowid r) (Int n)) refl (taken_apart m n apart rows)
  where
    go : (o : Ordering) → value_cmp (rowid r) (Int n) ≡ o → filter (has_rowid m) (without_rowid n rows) ≡ filter (has_rowid m) rows
        → filter (has_rowid m) (cond (not (is_eq o)) (r ∷ without_rowid n rows) (without_rowid n rows)) ≡ filter (has_rowid m) (r ∷ rows)
    go Less is later = rw later
    go Equal is later = rw (number_alone m n r apart is) later
    go Greater is later = rw later

-- ---- the test of a query is the number's

truly : (b : Bool) → is_true (from_truth (Some b)) ≡ b
truly true = refl
truly false = refl

pub compares : (n : ℤ) (v : Value) → is_true (binary (Compare Eq Binary) v (Int n)) ≡ is_eq (value_cmp v (Int n))
unfolding binary
compares n Null = ap is_eq (sym (value_cmp-Null (Int n)))
compares n (Int m) = truly (is_eq (value_cmp (Int m) (Int n)))
compares n (Real x) = truly (is_eq (value_cmp (Real x) (Int n)))
compares n (Text t) = truly (is_eq (value_cmp (Text t) (Int n)))
compares n (Blob b) = truly (is_eq (value_cmp (Blob b) (Int n)))

pub flat_filter : {A : Type 0} (p q : Row → Bool) (f : Row → A) → ((r : Row) → p r ≡ q r) → (rows : List Row) → flat_map (λ r. cond (p r && true) (f r ∷ []) []) rows ≡ map f (filter q rows)
flat_filter p q f same [] = refl
flat_filter p q f same (r ∷ rows) = go (p r) (q r) refl (same r) (flat_filter p q f same rows)
  where
    go : (b c : Bool) → p r ≡ b → b ≡ c → flat_map (λ x. cond (p x && true) (f x ∷ []) []) rows ≡ map f (filter q rows)
        → cond (b && true) (f r ∷ []) [] ++ flat_map (λ x. cond (p x && true) (f x ∷ []) []) rows ≡ map f (cond c (r ∷ filter q rows) (filter q rows))
    go true true is e later = ap (λ xs. f r ∷ xs) later
    go true false is e later = absurd (true≢false e)
    go false true is e later = absurd (true≢false (sym e))
    go false false is e later = later

-- ---- a number of a row whose number is an integer

pub number_is : (n : ℤ) (r : Row) → is_int (rowid r) ≡ true → has_rowid n r ≡ true → id_in (rowid r) ≡ n
number_is n r whole has = let k = id_in (rowid r) in
    int_tied k n (ap is_eq (sym (value_cmp-Int k n)) ∙ ap (λ v. is_eq (value_cmp v (Int n))) (sym (int_is (rowid r) whole)) ∙ has)

-- rows that have this number, as a list of their rowids, are taken out
pub all_taken_apart : (m n : ℤ) → m ≢ n → (ids : List ℤ) → AllByRecursion (λ id. id ≡ n) ids → (rows : List Row) → filter (has_rowid m) (without_all rows ids) ≡ filter (has_rowid m) rows
all_taken_apart m n apart [] all rows = refl
all_taken_apart m n apart (id ∷ ids) all rows =
    all_taken_apart m n apart ids all.1 (without_rowid id rows) ∙ taken_apart m id (λ same. apart (same ∙ all.0)) rows

-- ---- a row among those that have a number

pub in_filter : (p : Row → Bool) (rows : List Row) (r : Row) → Has rows r → p r ≡ true → Has (filter p rows) r
in_filter p [] r there hit = absurd there
in_filter p (x ∷ rows) r there hit = go (p x) refl there (in_filter p rows r)
  where
    go : (b : Bool) → p x ≡ b → (r ≡ x) ⊎ Has rows r → (Has rows r → p r ≡ true → Has (filter p rows) r) → Has (cond b (x ∷ filter p rows) (filter p rows)) r
    go true is (inl same) later = inl same
    go true is (inr more) later = inr (later more hit)
    go false is (inl same) later = absurd (true≢false (sym hit ∙ ap p same ∙ is))
    go false is (inr more) later = later more hit

-- ---- the one row of a list

-- a list that the rows show in some order has one row where they have
pub only_shown : (rows out : List Row) → IsPermutation (map shown rows) out → option_map (λ row. bytes (column row 2)) (only rows) ≡ option_map (λ row. bytes (column row 1)) (only out)
only_shown rows out same = go rows out same (length_permutation (map shown rows) out same)
  where
    go : (rows out : List Row) → IsPermutation (map shown rows) out → length out ≡ length (map shown rows) → option_map (λ row. bytes (column row 2)) (only rows) ≡ option_map (λ row. bytes (column row 1)) (only out)
    go [] [] same long = refl
    go [] (x ∷ out) same long = absurd (omega arith)
    go (r ∷ []) out same long = ap (λ rows. option_map (λ row. bytes (column row 1)) (only rows)) (sym (one_permutation (shown r) out same))
    go (r ∷ s ∷ rows) [] same long = absurd (omega arith)
    go (r ∷ s ∷ rows) (x ∷ []) same long = absurd (omega arith)
    go (r ∷ s ∷ rows) (x ∷ y ∷ out) same long = refl

-- the number of that row is an integer where it is shown to be
pub one_standing : (rows out : List Row) (row : Row) → IsPermutation (map shown rows) out → only out ≡ Some row → is_int (column row 0) ≡ true → HasOneNumber rows
one_standing rows out row same one whole = go rows out same (length_permutation (map shown rows) out same) one
  where
    go : (rows out : List Row) → IsPermutation (map shown rows) out → length out ≡ length (map shown rows) → only out ≡ Some row → HasOneNumber rows
    go [] [] same long one = absurd cc
    go [] (x ∷ out) same long one = absurd (omega arith)
    go (r ∷ []) out same long one =
        let shows : shown r ≡ row = let e = sym (ap only (one_permutation (shown r) out same)) ∙ one in cc in
        (r, refl, ap (λ (all : Row). is_int (column all 0)) shows ∙ whole)
    go (r ∷ s ∷ rows) [] same long one = absurd (omega arith)
    go (r ∷ s ∷ rows) (x ∷ []) same long one = absurd (omega arith)
    go (r ∷ s ∷ rows) (x ∷ y ∷ out) same long one = absurd cc

-- ---- what a read tells

pub told_some : (rows out : List Row) (row : Row) (body : List ℕ) → IsPermutation (map shown rows) out → only out ≡ Some row → body ≡ bytes (column row 1) → Some body ≡ option_map (λ r. bytes (column r 2)) (only rows)
told_some rows out row body same one is = ap (λ b. Some b) is ∙ sym (only_shown rows out same ∙ ap (option_map (λ r. bytes (column r 1))) one)

pub told_none : (rows out : List Row) → IsPermutation (map shown rows) out → only out ≡ None → ◌≡◌ {A = Option (List ℕ)} None (option_map (λ r. bytes (column r 2)) (only rows))
told_none rows out same none = sym (only_shown rows out same ∙ ap (option_map (λ r. bytes (column r 1))) none)
