-- What a book holds once bytes were put.
use Rattle.std.proofs.Common.{◌≡◌, ◌≢◌, inl, inr, ℕ, ◌^◌, ◌<◌, ◌==◌, ℤ, pos, nat_lt, cond, List, Option, Some, None, option_map, Result, Ok, Err, OnOk, OnErr, filter, refl, sym, ap, ap₂, subst, lt-ltb, eq-eqb, ne_eqb, arith}
use Rattle.std.proofs.Math.Path.{fun_ext}
use Rattle.std.proofs.lemmas.Bool.{cases_eq}
use Rattle.sqlite_value.specs.Order.{Row, column, bytes}
use Rattle.sqlite_trees.specs.Tree.{Trees, has_rowid}
use Rattle.ks_keeper.specs.Keeper.{Kept, with_entry, with_header}
use Rattle.ks_keeper.specs.declared.shelf.Shelf.{Shelf}
use Rattle.ks_keeper.specs.declared.shelf.Shelf.TheVariants.{Entries, Header}
use Rattle.ks_keeper.specs.Book.{tree_of, only, found_at, kept_in, IsPut}

abbrev seen : List Row → Option (List ℕ)
seen rows = option_map (λ row. bytes (column row 2)) (only rows)

module _ (shelf : Shelf) (n : ℤ) (body : List ℕ) (old new : Trees) (put : IsPut shelf n body old new) where
  found_there : found_at shelf new n ≡ Some body
  found_there = ap seen put.there

  found_apart : (m : ℤ) → m ≢ n → found_at shelf new m ≡ found_at shelf old m
  found_apart m apart = ap seen (put.apart m apart)

  found_beside : (other : Shelf) (m : ℤ) → tree_of other ≢ tree_of shelf → found_at other new m ≡ found_at other old m
  found_beside other m apart = ap (λ rows. seen (filter (has_rowid m) rows)) (put.beside other apart)

made : Option (List ℕ) → (ℕ → Option (List ℕ)) → Kept
made header entries = record { header = header; entries = entries }

pub put_entry : (number : ℕ) (body : List ℕ) (old new : Trees) → number < 2 ^ 63 → IsPut Entries (pos number) body old new → kept_in new ≡ with_entry number body (kept_in old)
unfolding made
put_entry number body old new low put = ap₂ made (found_beside Entries (pos number) body old new put Header (pos 0) (omega arith)) (fun_ext each)
  where
    each : (m : ℕ) → cond (nat_lt m (2 ^ 63)) (found_at Entries new (pos m)) None ≡ cond (m == number) (Some body) (cond (nat_lt m (2 ^ 63)) (found_at Entries old (pos m)) None)
    each m = elim (cases_eq m number) [
      | inl same ↦ subst (λ k. cond (nat_lt k (2 ^ 63)) (found_at Entries new (pos k)) None ≡ cond (k == number) (Some body) (cond (nat_lt k (2 ^ 63)) (found_at Entries old (pos k)) None)) (sym same)
          (rw (lt-ltb number (2 ^ 63) low, eq-eqb number number refl) (found_there Entries (pos number) body old new put))
      | inr other ↦ rw (ne_eqb m number other) (ap (λ v. cond (nat_lt m (2 ^ 63)) v None) (found_apart Entries (pos number) body old new put (pos m) (λ same. other (let e = same in cc))))
    ]

pub put_header : (body : List ℕ) (old new : Trees) → IsPut Header (pos 0) body old new → kept_in new ≡ with_header body (kept_in old)
unfolding made
put_header body old new put = ap₂ made (found_there Header (pos 0) body old new put)
    (fun_ext (λ m. ap (λ v. cond (nat_lt m (2 ^ 63)) v None) (found_beside Header (pos 0) body old new put Entries (pos m) (omega arith))))

pub on_ok : {V E : Type 0} {P Q : Type 0} (r : Result V E) → (P → Q) → OnOk r P → OnOk r Q
on_ok (Ok v) f p = f p
on_ok (Err e) f p = tt

-- the same, where the number comes as the place of a row
pub entry_on_ok : {V E : Type 0} (r : Result V E) (number : ℕ) (body : List ℕ) (old new : Trees) (place : ℤ) → number < 2 ^ 63 → place ≡ pos number → OnOk r (IsPut Entries place body old new)
    → OnOk r (kept_in new ≡ with_entry number body (kept_in old))
entry_on_ok r number body old new place low is = on_ok r (λ put. put_entry number body old new low (subst (λ at. IsPut Entries at body old new) is put))
