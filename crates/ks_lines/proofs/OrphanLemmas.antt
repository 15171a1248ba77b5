-- One row more is looked at.
use Rattle.std.proofs.Common.{◌≡◌, ℕ, Bool, ◌+◌, ◌<◌, ◌≤◌, true, false, List, [], ◌∷◌, ◌++◌, length, Option, Some, None, sym, ap, ◌∙◌, get_or, take, drop}
use Rattle.std.proofs.lemmas.List.{drop_all, take_more}
use Rattle.std.proofs.lemmas.Bool.{cond-true, cond-false}
use Rattle.ks_base.proofs.ListLemmas.{drop_at}
use Rattle.ks_lines.specs.RowLines.{orphan_place}

taken : {R : Type 0} (rows : List R) (k : ℕ) (row : R) → k < length rows → row ≡ get_or rows k row → take (k + 1) rows ≡ take k rows ++ row ∷ []
taken rows k row within is = take_more rows k row within ∙ ap (λ r. take k rows ++ r ∷ []) (sym is)

pub orphan_here : {R : Type 0} (orphan : List R → R → Bool) (rows : List R) (k : ℕ) (row : R) (whole : Option ℕ) → k < length rows → row ≡ get_or rows k row
    → length (take k rows) ≡ k → orphan (take k rows) row ≡ true → orphan_place orphan (take k rows) (drop k rows) ≡ whole → Some k ≡ whole
unfolding orphan_place
orphan_here orphan rows k row whole within is long found so_far =
    ap Some (sym long) ∙ (sym (ap (orphan_place orphan (take k rows)) (drop_at rows k row within is) ∙ cond-true _ _ _ found) ∙ so_far)

pub orphan_later : {R : Type 0} (orphan : List R → R → Bool) (rows : List R) (k : ℕ) (row : R) (whole : Option ℕ) → k < length rows → row ≡ get_or rows k row
    → orphan (take k rows) row ≡ false → orphan_place orphan (take k rows) (drop k rows) ≡ whole
    → orphan_place orphan (take (k + 1) rows) (drop (k + 1) rows) ≡ whole
unfolding orphan_place
orphan_later orphan rows k row whole within is other so_far =
    ap (λ before. orphan_place orphan before (drop (k + 1) rows)) (taken rows k row within is)
    ∙ (sym (ap (orphan_place orphan (take k rows)) (drop_at rows k row within is) ∙ cond-false _ _ _ other) ∙ so_far)

pub orphan_nowhere : {R : Type 0} (orphan : List R → R → Bool) (rows : List R) (k : ℕ) (whole : Option ℕ) → length rows ≤ k
    → orphan_place orphan (take k rows) (drop k rows) ≡ whole → None ≡ whole
unfolding orphan_place
orphan_nowhere orphan rows k whole end so_far = ap (orphan_place orphan (take k rows)) (sym (drop_all k rows end)) ∙ so_far
