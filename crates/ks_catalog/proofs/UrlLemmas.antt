-- URLs with an id in each place, byte by byte; and that they are texts.
use Rattle.std.proofs.Common.{◌≡◌, ℕ, zero, suc, ◌+◌, ◌/◌, ◌%◌, ◌<◌, ◌≤◌, Bool, true, false, cond, ◌&&◌, ◌||◌, ◌==◌, List, [], ◌∷◌, ◌++◌, length, take, drop, Option, Some, None, option_map, refl, sym, ap, subst, ◌∙◌, arith}
use Rattle.std.specs.Prelude.{IsUtf8, codes, get_or, is_some, nat_eq, nat_lt, encode_utf8_all}
use Rattle.std.specs.List.{AllByRecursion, list_all, starts_with}
use Rattle.std.specs.Option.{option_map_or}
use Rattle.std.proofs.Math.Utf8.{encode, scalar, scalars}
use Rattle.std.proofs.lemmas.Bool.Decides.{Decides-eqb, nat_tests}
use Rattle.std.proofs.lemmas.Slice.Eq.{starts_is}
use Rattle.std.proofs.lemmas.Str.{IsUtf8-append, IsUtf8-encode, IsUtf8-nil, encode_ascii, length-encode, len_utf8_bounds}
use Rattle.ks_base.specs.Ids.{IsId}
use Rattle.ks_base.proofs.IdLemmas.{id_is_utf8}
use Rattle.ks_catalog.specs.Urls.{filled, filled_behind, has_place, is_mark, name_length, place_length}
use Rattle.ks_catalog.specs.steps.Places.{IsFirstPlace, IsPlain}
use Rattle.std.proofs.lemmas.List.{append-nil, append_assoc, drop_more, drop-drop, length-drop, take_all, take_more}
use Rattle.std.proofs.Math.ListN.{drop_of_length-le}

abbrev is_low : ℕ → Bool
is_low b = nat_lt b 128

-- so many bytes at the front are ASCII
abbrev IsLow : ℕ → List ℕ → Type 0
IsLow n bytes = list_all is_low (take n bytes) ≡ true

both_left : (a b : Bool) → (a && b) ≡ true → a ≡ true
both_left true b is = refl
both_left false b is = is

both_right : (a b : Bool) → (a && b) ≡ true → b ≡ true
both_right true b is = is
both_right false b is = cc

below : (b : ℕ) → is_low b ≡ true → b < 128
below b is = grind (arith, nat_tests)

-- ---- one byte

nothing_left : (n : ℕ) (id : List ℕ) → filled_behind n id [] ≡ []
unfolding filled_behind
nothing_left zero id = refl
nothing_left (suc n) id = refl

within_place : (n : ℕ) (id : List ℕ) (b : ℕ) (bytes : List ℕ) → filled_behind (suc n) id (b ∷ bytes) ≡ filled_behind n id bytes
unfolding filled_behind
within_place n id b bytes = refl

at_byte : (id : List ℕ) (b : ℕ) (bytes : List ℕ) (place : Option ℕ) → place_length b bytes ≡ place →
    filled_behind zero id (b ∷ bytes) ≡ option_map_or (λ left. id ++ filled_behind left id bytes) place (b ∷ filled_behind zero id bytes)
unfolding filled_behind
at_byte id b bytes place is = ap (λ (p : Option ℕ). option_map_or (λ left. id ++ filled_behind left id bytes) p (b ∷ filled_behind zero id bytes)) is

-- ---- the first place

-- behind a place the text goes on
behind_place : (n : ℕ) (id bytes : List ℕ) → filled_behind n id bytes ≡ filled id (drop n bytes)
behind_place zero id bytes = refl
behind_place (suc n) id [] = nothing_left (suc n) id ∙ sym (nothing_left zero id)
behind_place (suc n) id (b ∷ bytes) = within_place n id b bytes ∙ behind_place n id bytes

has_at : (b : ℕ) (bytes : List ℕ) (place : Option ℕ) → place_length b bytes ≡ place → has_place (b ∷ bytes) ≡ (is_some place || has_place bytes)
unfolding has_place
has_at b bytes place is = ap (λ (p : Option ℕ). is_some p || has_place bytes) is

-- no place begins among so many bytes
pub record IsPassed (at : ℕ) (url : List ℕ) : Type 0 where
  pub has : has_place url ≡ has_place (drop at url)
  pub fills : (id : List ℕ) → filled id url ≡ take at url ++ filled id (drop at url)

pub one_passed : (at : ℕ) (url : List ℕ) → at < length url → IsPassed at url → None ≡ place_length (get_or url at 0) (drop (at + 1) url) →
    IsPassed (at + 1) url
one_passed at url within passed none =
    let b = get_or url at 0 in
    let rest = drop (at + 1) url in
    let here : drop at url ≡ b ∷ rest = drop_more url at 0 within in
    let more : take (at + 1) url ≡ take at url ++ b ∷ [] = take_more url at 0 within in
    record {
      has = passed.has ∙ ap has_place here ∙ has_at b rest None (sym none);
      fills = λ id.
          passed.fills id ∙ ap (λ (bytes : List ℕ). take at url ++ filled id bytes) here
          ∙ ap (λ (bytes : List ℕ). take at url ++ bytes) (at_byte id b rest None (sym none))
          ∙ sym (ap (λ (before : List ℕ). before ++ filled id rest) more ∙ append_assoc (take at url) (b ∷ []) (filled id rest));
    }

pub place_found : (at : ℕ) (url : List ℕ) (n : ℕ) → at < length url → IsPassed at url → Some n ≡ place_length (get_or url at 0) (drop (at + 1) url) →
    n ≤ length (drop (at + 1) url) → IsFirstPlace (at, at + 1 + n) url
place_found at url n within passed is long =
    let b = get_or url at 0 in
    let rest = drop (at + 1) url in
    let here : drop at url ≡ b ∷ rest = drop_more url at 0 within in
    record {
      some = omega arith;
      within = omega (arith, length-drop (at + 1) url, long);
      stands = passed.has ∙ ap has_place here ∙ has_at b rest (Some n) (sym is);
      fills = λ id.
          passed.fills id ∙ ap (λ (bytes : List ℕ). take at url ++ filled id bytes) here
          ∙ ap (λ (bytes : List ℕ). take at url ++ bytes)
          (at_byte id b rest (Some n) (sym is) ∙ ap (λ (bytes : List ℕ). id ++ bytes) (behind_place n id rest ∙ ap (filled id) (drop-drop n (at + 1) url)));
    }

pub all_passed : (at : ℕ) (url : List ℕ) → length url ≤ at → IsPassed at url → IsPlain url
unfolding has_place
all_passed at url past passed =
    let nothing : drop at url ≡ [] = drop_of_length-le url {i = at} past in
    record {
      none = passed.has ∙ ap has_place nothing;
      stays = λ id.
          passed.fills id ∙ ap (λ (bytes : List ℕ). take at url ++ filled id bytes) nothing
          ∙ ap (λ (bytes : List ℕ). take at url ++ bytes) (nothing_left zero id)
          ∙ append-nil (take at url) ∙ take_all at url past;
    }

-- ---- a place is ASCII

prefix_is : (bytes name : List ℕ) → starts_with nat_eq bytes name ≡ true → bytes ≡ name ++ drop (length name) bytes
prefix_is bytes name is = (starts_is Decides-eqb bytes name true (sym is)).0 refl

name_low_by : (bytes : List ℕ) (n : ℕ) (first second : Bool) →
    starts_with nat_eq bytes (codes "(project_id)s") ≡ first → starts_with nat_eq bytes (codes "(tenant_id)s") ≡ second →
    option_map length (cond first (Some (codes "(project_id)s")) (cond second (Some (codes "(tenant_id)s")) None)) ≡ Some n → IsLow n bytes
name_low_by bytes n true second first_is second_is is =
    let long : 13 ≡ n = cc in
    subst (λ k. IsLow k bytes) long (subst (IsLow 13) (sym (prefix_is bytes (codes "(project_id)s") first_is)) refl)
name_low_by bytes n false true first_is second_is is =
    let long : 12 ≡ n = cc in
    subst (λ k. IsLow k bytes) long (subst (IsLow 12) (sym (prefix_is bytes (codes "(tenant_id)s") second_is)) refl)
name_low_by bytes n false false first_is second_is is = cc

name_low : (bytes : List ℕ) (n : ℕ) → name_length bytes ≡ Some n → IsLow n bytes
unfolding name_length
name_low bytes n is = name_low_by bytes n (starts_with nat_eq bytes (codes "(project_id)s")) (starts_with nat_eq bytes (codes "(tenant_id)s")) refl refl is

place_low_by : (bytes : List ℕ) (n : ℕ) (mark : Bool) → cond mark (name_length bytes) None ≡ Some n → IsLow n bytes
place_low_by bytes n true is = name_low bytes n is
place_low_by bytes n false is = cc

place_low : (b : ℕ) (bytes : List ℕ) (n : ℕ) → place_length b bytes ≡ Some n → IsLow n bytes
place_low b bytes n is = place_low_by bytes n (is_mark b) is

-- ---- a character that is not ASCII stands for itself

-- the bytes of a character, by which of the bounds it is below
abbrev coded : ℕ → Bool → Bool → Bool → List ℕ
coded c one two three =
    cond one (c ∷ [])
    (cond two ((192 + c / 64) ∷ (128 + c % 64) ∷ [])
    (cond three ((224 + c / 4096) ∷ (128 + (c / 64) % 64) ∷ (128 + c % 64) ∷ [])
    ((240 + c / 262144) ∷ (128 + (c / 4096) % 64) ∷ (128 + (c / 64) % 64) ∷ (128 + c % 64) ∷ [])))

high_by : (c : ℕ) (two three : Bool) → AllByRecursion (λ b. 128 ≤ b) (coded c false two three)
high_by c true three = (omega arith, (omega arith, tt))
high_by c false true = (omega arith, (omega arith, (omega arith, tt)))
high_by c false false = (omega arith, (omega arith, (omega arith, (omega arith, tt))))

high : (c : ℕ) → is_low c ≡ false → AllByRecursion (λ b. 128 ≤ b) (encode c)
unfolding encode
high c is =
    subst (λ (one : Bool). AllByRecursion (λ b. 128 ≤ b) (coded c one (nat_lt c 2048) (nat_lt c 65536))) (sym is)
    (high_by c (nat_lt c 2048) (nat_lt c 65536))

differs : (b k : ℕ) → k < 128 → 128 ≤ b → (b == k) ≡ false
differs b k small large = grind (arith, nat_tests)

unmarked : (b : ℕ) → 128 ≤ b → is_mark b ≡ false
unmarked b large = ap (λ (dollar : Bool). dollar || (b == 37)) (differs b 36 (omega arith) large) ∙ differs b 37 (omega arith) large

placeless : (b : ℕ) (bytes : List ℕ) → 128 ≤ b → place_length b bytes ≡ None
placeless b bytes large = ap (λ (mark : Bool). cond mark (name_length bytes) None) (unmarked b large)

plain : (id rest bs : List ℕ) → AllByRecursion (λ b. 128 ≤ b) bs → filled_behind zero id (bs ++ rest) ≡ bs ++ filled_behind zero id rest
plain id rest [] high = refl
plain id rest (b ∷ bs) high =
    at_byte id b (bs ++ rest) None (placeless b (bs ++ rest) high.0) ∙ ap (λ (more : List ℕ). b ∷ more) (plain id rest bs high.1)

starts_high : (bs rest : List ℕ) (m : ℕ) → 0 < length bs → AllByRecursion (λ b. 128 ≤ b) bs → IsLow (suc m) (bs ++ rest) → ⊥
starts_high [] rest m some high low = omega arith
starts_high (b ∷ bs) rest m some high low =
    let small : b < 128 = below b (both_left (is_low b) (list_all is_low (take m (bs ++ rest))) low) in
    let large : 128 ≤ b = high.0 in
    omega arith

-- ---- characters

-- what is shown of the text behind a character, and then of the text from that character on
abbrev Fills : List ℕ → List ℕ → Type 0
Fills id rest = (m : ℕ) → IsLow m rest → IsUtf8 (filled_behind m id rest)

low_none : (rest : List ℕ) → IsLow zero rest
low_none [] = refl
low_none (b ∷ rest) = refl

ascii_utf8 : (c : ℕ) → scalar c ≡ true → c < 128 → IsUtf8 (c ∷ [])
ascii_utf8 c valid small = subst IsUtf8 (encode_ascii c small) (IsUtf8-encode c valid)

placed : (id rest : List ℕ) (c : ℕ) (place : Option ℕ) → IsUtf8 id → scalar c ≡ true → c < 128 → Fills id rest → place_length c rest ≡ place →
    IsUtf8 (filled_behind zero id (c ∷ rest))
placed id rest c None named valid small more is =
    subst IsUtf8 (sym (at_byte id c rest None is))
    (IsUtf8-append (c ∷ []) (filled_behind zero id rest) (ascii_utf8 c valid small) (more zero (low_none rest)))
placed id rest c (Some n) named valid small more is =
    subst IsUtf8 (sym (at_byte id c rest (Some n) is)) (IsUtf8-append id (filled_behind n id rest) named (more n (place_low c rest n is)))

low_fills : (id rest : List ℕ) (c : ℕ) → IsUtf8 id → scalar c ≡ true → c < 128 → Fills id rest → (m : ℕ) → IsLow m (c ∷ rest) →
    IsUtf8 (filled_behind m id (c ∷ rest))
low_fills id rest c named valid small more zero low = placed id rest c (place_length c rest) named valid small more refl
low_fills id rest c named valid small more (suc m) low =
    subst IsUtf8 (sym (within_place m id c rest)) (more m (both_right (is_low c) (list_all is_low (take m rest)) low))

high_fills : (id rest : List ℕ) (c : ℕ) → scalar c ≡ true → is_low c ≡ false → Fills id rest → (m : ℕ) → IsLow m (encode c ++ rest) →
    IsUtf8 (filled_behind m id (encode c ++ rest))
high_fills id rest c valid is more zero low =
    subst IsUtf8 (sym (plain id rest (encode c) (high c is)))
    (IsUtf8-append (encode c) (filled_behind zero id rest) (IsUtf8-encode c valid) (more zero (low_none rest)))
high_fills id rest c valid is more (suc m) low =
    absurd (starts_high (encode c) rest m (omega (arith, length-encode c, len_utf8_bounds c)) (high c is) low)

char_fills : (id rest : List ℕ) (c : ℕ) (b : Bool) → is_low c ≡ b → IsUtf8 id → scalar c ≡ true → Fills id rest → Fills id (encode c ++ rest)
char_fills id rest c true is named valid more =
    subst (λ (bytes : List ℕ). Fills id (bytes ++ rest)) (sym (encode_ascii c (below c is))) (low_fills id rest c named valid (below c is) more)
char_fills id rest c false is named valid more = high_fills id rest c valid is more

fills : (id : List ℕ) → IsUtf8 id → (cs : List ℕ) → scalars cs ≡ true → Fills id (encode_utf8_all cs)
fills id named [] valid = λ m low. subst IsUtf8 (sym (nothing_left m id)) IsUtf8-nil
fills id named (c ∷ cs) valid =
    char_fills id (encode_utf8_all cs) c (is_low c) refl named (both_left (scalar c) (scalars cs) valid)
    (fills id named cs (both_right (scalar c) (scalars cs) valid))

-- an id and a text make a text
pub filled_is_utf8 : (id url : List ℕ) → IsId id → IsUtf8 url → IsUtf8 (filled id url)
filled_is_utf8 id url named text =
    subst (λ (bytes : List ℕ). IsUtf8 (filled id bytes)) text.1.1 (fills id (id_is_utf8 id named) text.0 text.1.0 zero (low_none (encode_utf8_all text.0)))
