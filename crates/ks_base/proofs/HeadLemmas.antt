-- Ids by the number that their first bytes make.
use Rattle.std.proofs.Common.{◌≡◌, ℕ, zero, suc, ◌+◌, ◌*◌, ◌<◌, ◌≤◌, true, List, [], ◌∷◌, ◌++◌, length, replicate, refl, sym, ap, ◌∙◌, arith}
use Rattle.std.specs.Prelude.{slice_index}
use Rattle.std.specs.Int.{from_be_bytes, w64}
use Rattle.std.specs.List.{list_all}
use Rattle.std.specs.Cmp.{nat_cmp_is}
use Rattle.std.specs.Ordering.{nat_cmp, ordering_then}
use Rattle.std.specs.Cmp.Lexicographic.{slice_cmp}
use Rattle.std.specs.declared.cmp.Ordering.TheVariants.{Less, Equal, Greater}
use Rattle.std.proofs.lemmas.Bool.{and_parts}
use Rattle.std.proofs.lemmas.Bool.Decides.{nat_tests}
use Rattle.ks_base.specs.Ids.{is_id_byte}
use Rattle.ks_base.specs.IdFields.{head_number, places}

head_none : (n : ℕ) → head_number n [] ≡ 0
unfolding head_number
head_none zero = refl
head_none (suc n) = refl

-- zeros behind the bytes change nothing
pub head_padded : (n : ℕ) (xs : List ℕ) (k : ℕ) → head_number n (xs ++ replicate k 0) ≡ head_number n xs
unfolding head_number
head_padded zero xs k = refl
head_padded (suc n) [] zero = refl
head_padded (suc n) [] (suc k) = let rest = head_padded n [] k in omega (arith, rest, head_none n)
head_padded (suc n) (x ∷ xs) k = ap (λ m. x * places n + m) (head_padded n xs k)

-- each byte is below 256
unfoldable AreBytes : List ℕ → Type 0
AreBytes [] = 0 < 1
AreBytes (x ∷ xs) = (x < 256) × AreBytes xs

id_byte : (b : ℕ) → is_id_byte b ≡ true → b < 256
id_byte b is = grind (arith, nat_tests)

id_bytes : (text : List ℕ) → list_all is_id_byte text ≡ true → AreBytes text
unfolding AreBytes
id_bytes [] all = omega arith
id_bytes (b ∷ bs) all =
    let parts = and_parts (is_id_byte b) _ all in
    (id_byte b parts.0, id_bytes bs parts.1)

times_le : (a b n : ℕ) → a ≤ b → a * n ≤ b * n
times_le zero b n le = omega arith
times_le (suc a) zero n le = absurd (omega (arith, le))
times_le (suc a) (suc b) n le = let rest = times_le a b n (omega (arith, le)) in omega (arith, rest)

some_places : (n : ℕ) → 0 < places n
unfolding places
some_places zero = omega arith
some_places (suc n) = let rest = some_places n in omega (arith, rest)

below : (n : ℕ) (xs : List ℕ) → AreBytes xs → head_number n xs < places n
unfolding head_number places AreBytes
below zero xs are = omega arith
below (suc n) [] are = let some = some_places n in omega (arith, some)
below (suc n) (x ∷ xs) are =
    let rest = below n xs are.1 in
    let most = times_le x 255 (places n) (omega (arith, are.0)) in
    omega (arith, rest, most)

three : {P : Type 0} (x y : ℕ) → (x < y → P) → (x ≡ y → P) → (y < x → P) → P
three zero zero less same more = same refl
three zero (suc y) less same more = less (omega arith)
three (suc x) zero less same more = more (omega arith)
three (suc x) (suc y) less same more = three x y (λ lt. less (omega (arith, lt))) (λ is. same (ap suc is)) (λ lt. more (omega (arith, lt)))

head_less : (n : ℕ) (xs ys : List ℕ) → AreBytes ys → head_number n xs < head_number n ys → slice_cmp nat_cmp xs ys ≡ Less
unfolding head_number AreBytes
head_less zero xs ys are lt = absurd (omega (arith, lt))
head_less (suc n) [] [] are lt = absurd (omega (arith, lt))
head_less (suc n) [] (y ∷ ys) are lt = refl
head_less (suc n) (x ∷ xs) [] are lt = absurd (omega (arith, lt))
head_less (suc n) (x ∷ xs) (y ∷ ys) are lt = three x y
    (λ less. ap (λ o. ordering_then o (slice_cmp nat_cmp xs ys)) (sym (nat_cmp_is x y Less less)))
    (λ same.
    let front = ap (λ k. k * places n) same in
    ap (λ o. ordering_then o (slice_cmp nat_cmp xs ys)) (sym (nat_cmp_is x y Equal same)) ∙ head_less n xs ys are.1 (omega (arith, lt, front)))
    (λ more.
    let most = below n ys are.1 in
    let front = times_le (suc y) x (places n) (omega (arith, more)) in
    absurd (omega (arith, lt, most, front)))

head_more : (n : ℕ) (xs ys : List ℕ) → AreBytes xs → head_number n ys < head_number n xs → slice_cmp nat_cmp xs ys ≡ Greater
unfolding head_number AreBytes
head_more zero xs ys are lt = absurd (omega (arith, lt))
head_more (suc n) [] ys are lt = absurd (omega (arith, lt))
head_more (suc n) (x ∷ xs) [] are lt = refl
head_more (suc n) (x ∷ xs) (y ∷ ys) are lt = three x y
    (λ less.
    let most = below n xs are.1 in
    let front = times_le (suc x) y (places n) (omega (arith, less)) in
    absurd (omega (arith, lt, most, front)))
    (λ same.
    let front = ap (λ k. k * places n) same in
    ap (λ o. ordering_then o (slice_cmp nat_cmp xs ys)) (sym (nat_cmp_is x y Equal same)) ∙ head_more n xs ys are.1 (omega (arith, lt, front)))
    (λ more. ap (λ o. ordering_then o (slice_cmp nat_cmp xs ys)) (sym (nat_cmp_is x y Greater more)))

-- of two ids the one whose first bytes make the smaller number comes first
pub id_less : (n : ℕ) (xs ys : List ℕ) → list_all is_id_byte ys ≡ true → head_number n xs < head_number n ys → slice_cmp nat_cmp xs ys ≡ Less
id_less n xs ys all lt = head_less n xs ys (id_bytes ys all) lt

pub id_more : (n : ℕ) (xs ys : List ℕ) → list_all is_id_byte xs ≡ true → head_number n ys < head_number n xs → slice_cmp nat_cmp xs ys ≡ Greater
id_more n xs ys all lt = head_more n xs ys (id_bytes xs all) lt

-- the number of the first eight bytes
pub eight : (bytes : List ℕ) → length bytes ≡ 64 →
    from_be_bytes w64 (slice_index bytes 0 ∷ slice_index bytes 1 ∷ slice_index bytes 2 ∷ slice_index bytes 3 ∷ slice_index bytes 4 ∷ slice_index bytes 5 ∷ slice_index bytes 6 ∷ slice_index bytes 7 ∷ []) ≡ head_number 8 bytes
unfolding head_number places
eight [] is = absurd (omega (arith, is))
eight (a ∷ []) is = absurd (omega (arith, is))
eight (a ∷ b ∷ []) is = absurd (omega (arith, is))
eight (a ∷ b ∷ c ∷ []) is = absurd (omega (arith, is))
eight (a ∷ b ∷ c ∷ d ∷ []) is = absurd (omega (arith, is))
eight (a ∷ b ∷ c ∷ d ∷ e ∷ []) is = absurd (omega (arith, is))
eight (a ∷ b ∷ c ∷ d ∷ e ∷ f ∷ []) is = absurd (omega (arith, is))
eight (a ∷ b ∷ c ∷ d ∷ e ∷ f ∷ g ∷ []) is = absurd (omega (arith, is))
eight (a ∷ b ∷ c ∷ d ∷ e ∷ f ∷ g ∷ h ∷ rest) is = omega arith
