-- Rows of which those that fail a test go, the last one first.
use Rattle.std.proofs.Common.{◌≡◌, ℕ, zero, suc, ◌<◌, Bool, true, false, cond, List, [], ◌∷◌, length, get_or, refl, sym, ap, ◌∙◌, arith}
use Rattle.std.specs.List.{filter, remove}

-- the rows of which those from a place on were gone over
unfoldable pub gone_over : {X : Type 0} → (X → Bool) → List X → ℕ → List X
gone_over test rows zero = filter test rows
gone_over test [] (suc at) = []
gone_over test (x ∷ xs) (suc at) = x ∷ gone_over test xs at

pub none_gone_over : {X : Type 0} (test : X → Bool) (rows : List X) → gone_over test rows (length rows) ≡ rows
unfolding gone_over
none_gone_over test [] = refl
none_gone_over test (x ∷ xs) = ap (λ (rest : List _). x ∷ rest) (none_gone_over test xs)

pub passed_over : {X : Type 0} (test : X → Bool) (rows : List X) (at : ℕ) (d : X) → at < length rows → test (get_or rows at d) ≡ true
    → gone_over test rows (suc at) ≡ gone_over test rows at
unfolding gone_over
passed_over test [] at d lt pass = absurd (omega arith)
passed_over test (x ∷ xs) zero d lt pass = rw pass refl
passed_over test (x ∷ xs) (suc at) d lt pass = ap (λ (rest : List _). x ∷ rest) (passed_over test xs at d (omega arith) pass)

pub failed_over : {X : Type 0} (test : X → Bool) (rows : List X) (at : ℕ) (d : X) → at < length rows → test (get_or rows at d) ≡ false
    → remove (gone_over test rows (suc at)) at ≡ gone_over test rows at
unfolding gone_over
failed_over test [] at d lt fails = absurd (omega arith)
failed_over test (x ∷ xs) zero d lt fails = by (test x) fails
  where
    by : (b : Bool) → b ≡ false → filter test xs ≡ cond b (x ∷ filter test xs) (filter test xs)
    by false is = refl
    by true is = cc
failed_over test (x ∷ xs) (suc at) d lt fails = ap (λ (rest : List _). x ∷ rest) (failed_over test xs at d (omega arith) fails)

pub over_within : {X : Type 0} (test : X → Bool) (rows : List X) (at : ℕ) → at < length rows → at < length (gone_over test rows (suc at))
unfolding gone_over
over_within test [] at lt = absurd (omega arith)
over_within test (x ∷ xs) zero lt = omega arith
over_within test (x ∷ xs) (suc at) lt = let inner = over_within test xs at (omega arith) in omega (arith, inner)

-- what is left behind a place, one place further to the front: the row there passed, or went
pub over_at : {X : Type 0} (test : X → Bool) (rows : List X) (at : ℕ) (d : X) → at < length rows → get_or (gone_over test rows (suc at)) at d ≡ get_or rows at d
unfolding gone_over
over_at test [] at d lt = absurd (omega arith)
over_at test (x ∷ xs) zero d lt = refl
over_at test (x ∷ xs) (suc at) d lt = over_at test xs at d (omega arith)

pub all_gone_over : {X : Type 0} (test : X → Bool) (rows : List X) → gone_over test rows zero ≡ filter test rows
unfolding gone_over
all_gone_over test rows = refl

there : {X : Type 0} (test : X → Bool) (rows now : List X) (at n : ℕ) (row : X) → n ≡ suc at → now ≡ gone_over test rows n → at < length rows → row ≡ get_or now at row → get_or rows at row ≡ row
there {X} test rows now at n row next left lt is =
    sym (over_at test rows at row lt) ∙ ap (λ (l : List X). get_or l at row) (sym (left ∙ ap (gone_over test rows) next)) ∙ sym is

pub stays_over : {X : Type 0} (test : X → Bool) (rows now : List X) (at n : ℕ) (row : X) → n ≡ suc at → now ≡ gone_over test rows n → at < length rows → row ≡ get_or now at row →
    test row ≡ true → now ≡ gone_over test rows at
stays_over test rows now at n row next left lt is pass =
    left ∙ ap (gone_over test rows) next ∙ passed_over test rows at row lt (ap test (there test rows now at n row next left lt is) ∙ pass)

pub goes_over : {X : Type 0} (test : X → Bool) (rows now : List X) (at n : ℕ) (row : X) → n ≡ suc at → now ≡ gone_over test rows n → at < length rows → row ≡ get_or now at row →
    test row ≡ false → remove now at ≡ gone_over test rows at
goes_over {X} test rows now at n row next left lt is fails =
    ap (λ (l : List X). remove l at) (left ∙ ap (gone_over test rows) next) ∙ failed_over test rows at row lt (ap test (there test rows now at n row next left lt is) ∙ fails)
