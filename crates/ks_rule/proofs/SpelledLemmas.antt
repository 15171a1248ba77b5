-- The tokens of texts that are put together.
use Rattle.std.proofs.Common.{◌≡◌, ◌≢◌, refl, sym, ap, ◌∙◌, ℕ, zero, suc, ◌-◌, ◌<◌, Bool, true, false, cond, ◌||◌, List, [], ◌∷◌, ◌++◌, length, take, get_or, append_assoc, append-nil, arith, length-take, replicate}
use Rattle.std.specs.Prelude.{flat_map, reverse}
use Rattle.std.specs.List.{slice_split, onto_first, list_any, AllByRecursion}
use Rattle.std.proofs.lemmas.List.{length-reverse, get_or-reverse, replicate_more, take_all}
use Rattle.std.proofs.lemmas.List.Sums.{prefix_len_stops, suffix_len-take_no, suffix_len-le-length}
use Rattle.std.proofs.lemmas.List.Splits.{length-slice_split, slice_split-cons_no, slice_split-cons_yes}
use Rattle.std.proofs.lemmas.Bool.{or_parts}
use Rattle.ks_rule.specs.Tokens.{Token, opening, closing, check, not_word, and_word, or_word, token_of, is_space, is_opening, is_closing, kept_tokens, closes, without_closes, closed_tokens, word_tokens, tokens}
use Rattle.ks_rule.proofs.TokenLemmas.{closes_push, without_closes_push}

map_append : (xs ys : List (List ℕ)) → flat_map word_tokens (xs ++ ys) ≡ flat_map word_tokens xs ++ flat_map word_tokens ys
map_append [] ys = refl
map_append (x ∷ xs) ys = ap (λ l. word_tokens x ++ l) (map_append xs ys) ∙ sym (append_assoc (word_tokens x) (flat_map word_tokens xs) (flat_map word_tokens ys))

-- a text is never split into nothing
split_some : (text : List ℕ) → slice_split is_space text ≢ []
split_some text none = absurd (omega (arith, length-slice_split is_space text, ap length none))

first_append : (b : ℕ) (parts more : List (List ℕ)) → parts ≢ [] → onto_first b (parts ++ more) ≡ onto_first b parts ++ more
first_append b [] more some = absurd (some refl)
first_append b (part ∷ parts) more some = refl

-- white space parts tokens
split_space : (front : List ℕ) (s : ℕ) (behind : List ℕ) → is_space s ≡ true
    → slice_split is_space (front ++ s ∷ behind) ≡ slice_split is_space front ++ slice_split is_space behind
split_space [] s behind space = slice_split-cons_yes is_space s behind space
split_space (b ∷ front) s behind space =
    ap (λ l. cond (is_space b) ([] ∷ l) (onto_first b l)) (split_space front s behind space)
    ∙ by_space (is_space b)
  where
    by_space : (v : Bool) → cond v ([] ∷ (slice_split is_space front ++ slice_split is_space behind)) (onto_first b (slice_split is_space front ++ slice_split is_space behind))
        ≡ cond v ([] ∷ slice_split is_space front) (onto_first b (slice_split is_space front)) ++ slice_split is_space behind
    by_space true = refl
    by_space false = first_append b (slice_split is_space front) (slice_split is_space behind) (split_some front)

pub tokens_parted : (front : List ℕ) (s : ℕ) (behind : List ℕ) → is_space s ≡ true → tokens (front ++ s ∷ behind) ≡ tokens front ++ tokens behind
unfolding tokens
tokens_parted front s behind space =
    ap (flat_map word_tokens) (split_space front s behind space) ∙ map_append (slice_split is_space front) (slice_split is_space behind)

-- a ) behind a text is a token more
closed_push : (word : List ℕ) → closed_tokens (word ++ 41 ∷ []) ≡ closed_tokens word ++ closing ∷ []
closed_push word =
    ap (λ l. kept_tokens l ++ replicate (closes (word ++ 41 ∷ [])) closing) (without_closes_push word)
    ∙ (ap (λ n. kept_tokens (without_closes word) ++ replicate n closing) (closes_push word ∙ omega arith)
    ∙ (ap (λ l. kept_tokens (without_closes word) ++ l) (sym (replicate_more (closes word) closing))
    ∙ sym (append_assoc (kept_tokens (without_closes word)) (replicate (closes word) closing) (closing ∷ []))))

word_push_by : (b : ℕ) (word : List ℕ) (v : Bool) → word_tokens (word ++ 41 ∷ []) ≡ word_tokens word ++ closing ∷ []
    → cond v (opening ∷ word_tokens (word ++ 41 ∷ [])) (closed_tokens ((b ∷ word) ++ 41 ∷ []))
    ≡ cond v (opening ∷ word_tokens word) (closed_tokens (b ∷ word)) ++ closing ∷ []
word_push_by b word true more = ap (λ l. opening ∷ l) more
word_push_by b word false more = closed_push (b ∷ word)

word_push : (word : List ℕ) → word_tokens (word ++ 41 ∷ []) ≡ word_tokens word ++ closing ∷ []
word_push [] = refl
word_push (b ∷ word) = word_push_by b word (is_opening b) (word_push word)

abbrev onto_last : List (List ℕ) → List (List ℕ)
onto_last [] = []
onto_last (part ∷ []) = (part ++ 41 ∷ []) ∷ []
onto_last (part ∷ next ∷ parts) = part ∷ onto_last (next ∷ parts)

last_behind : (part : List ℕ) (parts : List (List ℕ)) → parts ≢ [] → part ∷ onto_last parts ≡ onto_last (part ∷ parts)
last_behind part [] some = absurd (some refl)
last_behind part (next ∷ parts) some = refl

first_last : (b : ℕ) (parts : List (List ℕ)) → parts ≢ [] → onto_first b (onto_last parts) ≡ onto_last (onto_first b parts)
first_last b [] some = absurd (some refl)
first_last b (part ∷ []) some = refl
first_last b (part ∷ next ∷ parts) some = refl

split_push : (text : List ℕ) → slice_split is_space (text ++ 41 ∷ []) ≡ onto_last (slice_split is_space text)
split_push [] = refl
split_push (b ∷ text) = ap (λ l. cond (is_space b) ([] ∷ l) (onto_first b l)) (split_push text) ∙ by_space (is_space b)
  where
    by_space : (v : Bool) → cond v ([] ∷ onto_last (slice_split is_space text)) (onto_first b (onto_last (slice_split is_space text)))
        ≡ onto_last (cond v ([] ∷ slice_split is_space text) (onto_first b (slice_split is_space text)))
    by_space true = last_behind [] (slice_split is_space text) (split_some text)
    by_space false = first_last b (slice_split is_space text) (split_some text)

last_push : (part : List ℕ) (parts : List (List ℕ)) → flat_map word_tokens (onto_last (part ∷ parts)) ≡ flat_map word_tokens (part ∷ parts) ++ closing ∷ []
last_push part [] = append-nil (word_tokens (part ++ 41 ∷ [])) ∙ (word_push part ∙ ap (λ l. l ++ closing ∷ []) (sym (append-nil (word_tokens part))))
last_push part (next ∷ parts) =
    ap (λ l. word_tokens part ++ l) (last_push next parts) ∙ sym (append_assoc (word_tokens part) (flat_map word_tokens (next ∷ parts)) (closing ∷ []))

each_push : (parts : List (List ℕ)) → parts ≢ [] → flat_map word_tokens (onto_last parts) ≡ flat_map word_tokens parts ++ closing ∷ []
each_push [] some = absurd (some refl)
each_push (part ∷ parts) some = last_push part parts

pub tokens_closed_by : (text : List ℕ) → tokens (text ++ 41 ∷ []) ≡ tokens text ++ closing ∷ []
unfolding tokens
tokens_closed_by text = ap (flat_map word_tokens) (split_push text) ∙ each_push (slice_split is_space text) (split_some text)

-- the text of a check is one token by itself
abbrev pub IsProper : Token → Type 0
IsProper (check text) = tokens text ≡ check text ∷ []
IsProper opening = Unit {0}
IsProper closing = Unit {0}
IsProper not_word = Unit {0}
IsProper and_word = Unit {0}
IsProper or_word = Unit {0}

abbrev pub AllProper : List Token → Type 0
AllProper = AllByRecursion IsProper

pub proper_append : (xs ys : List Token) → AllProper xs → AllProper ys → AllProper (xs ++ ys)
proper_append [] ys a b = b
proper_append (x ∷ xs) ys a b = (a.0, proper_append xs ys a.1 b)

pub proper_front : (xs ys : List Token) → AllProper (xs ++ ys) → AllProper xs
proper_front [] ys a = tt
proper_front (x ∷ xs) ys a = (a.0, proper_front xs ys a.1)

pub proper_behind : (xs ys : List Token) → AllProper (xs ++ ys) → AllProper ys
proper_behind [] ys a = a
proper_behind (x ∷ xs) ys a = proper_behind xs ys a.1

closings_proper : (n : ℕ) → AllProper (replicate n closing)
closings_proper zero = tt
closings_proper (suc n) = (tt, closings_proper n)

-- what was kept of a word ends in no )
kept_closes : (word : List ℕ) → 0 < length (without_closes word) → closes (without_closes word) ≡ 0
kept_closes word some =
    let n = closes word in
    let kept = length-take (length word - n) word in
    let inside : n < length (reverse word) = omega (arith, length-reverse word, suffix_len-le-length is_closing word) in
    let here : n < length word = omega (arith, length-reverse word) in
    let at : (length word - n) - 1 ≡ length word - 1 - n = omega arith in
    let other : is_closing (get_or word ((length word - n) - 1) 0) ≡ false =
    ap (λ k. is_closing (get_or word k 0)) at ∙ (ap is_closing (sym (get_or-reverse word n 0 here)) ∙ prefix_len_stops is_closing (reverse word) 0 inside) in
    suffix_len-take_no is_closing word (length word - n) 0 (omega (arith, here)) (omega arith) other

split_whole : (text : List ℕ) → list_any is_space text ≡ false → slice_split is_space text ≡ text ∷ []
split_whole [] none = refl
split_whole (b ∷ text) none =
    let both = or_parts (is_space b) (list_any is_space text) none in
    slice_split-cons_no is_space b text both.0 ∙ ap (onto_first b) (split_whole text both.1)

-- a text with no white space that begins with no ( and ends with no ) is one token
pub whole_token : (b : ℕ) (text : List ℕ) → list_any is_space (b ∷ text) ≡ false → is_opening b ≡ false → closes (b ∷ text) ≡ 0
    → tokens (b ∷ text) ≡ token_of (b ∷ text) ∷ []
unfolding tokens
whole_token b text no_space no_opening no_closes =
    let kept : without_closes (b ∷ text) ≡ b ∷ text = take_all (length (b ∷ text) - closes (b ∷ text)) (b ∷ text) (omega (arith, no_closes)) in
    ap (flat_map word_tokens) (split_whole (b ∷ text) no_space)
    ∙ (append-nil (word_tokens (b ∷ text))
    ∙ (ap (λ v. cond v (opening ∷ word_tokens text) (closed_tokens (b ∷ text))) no_opening
    ∙ (ap (λ l. kept_tokens l ++ replicate (closes (b ∷ text)) closing) kept
    ∙ ap (λ n. kept_tokens (b ∷ text) ++ replicate n closing) no_closes)))

proper_by : (a b c : Bool) (text : List ℕ) → tokens text ≡ cond a not_word (cond b and_word (cond c or_word (check text))) ∷ []
    → IsProper (cond a not_word (cond b and_word (cond c or_word (check text))))
proper_by true b c text e = tt
proper_by false true c text e = tt
proper_by false false true text e = tt
proper_by false false false text e = e

proper_token : (text : List ℕ) → tokens text ≡ token_of text ∷ [] → IsProper (token_of text)
proper_token text e = proper_by _ _ _ text e

none_taken : (n : ℕ) (text : List ℕ) → list_any is_space text ≡ false → list_any is_space (take n text) ≡ false
none_taken zero text none = refl
none_taken (suc n) [] none = refl
none_taken (suc n) (b ∷ text) none =
    let both = or_parts (is_space b) (list_any is_space text) none in
    ap (λ v. v || list_any is_space (take n text)) both.0 ∙ none_taken n text both.1

taken_proper : (n : ℕ) (b : ℕ) (word : List ℕ) → list_any is_space (b ∷ word) ≡ false → is_opening b ≡ false
    → (0 < length (take n (b ∷ word)) → closes (take n (b ∷ word)) ≡ 0) → AllProper (kept_tokens (take n (b ∷ word)))
taken_proper zero b word no_space no_opening no_closes = tt
taken_proper (suc n) b word no_space no_opening no_closes =
    let none = none_taken (suc n) (b ∷ word) no_space in
    (proper_token (b ∷ take n word) (whole_token b (take n word) none no_opening (no_closes (omega arith))), tt)

word_proper_by : (b : ℕ) (word : List ℕ) (v : Bool) → is_opening b ≡ v → list_any is_space (b ∷ word) ≡ false → AllProper (word_tokens word)
    → AllProper (cond v (opening ∷ word_tokens word) (closed_tokens (b ∷ word)))
word_proper_by b word true is no_space more = (tt, more)
word_proper_by b word false is no_space more =
    proper_append (kept_tokens (without_closes (b ∷ word))) (replicate (closes (b ∷ word)) closing)
    (taken_proper (length (b ∷ word) - closes (b ∷ word)) b word no_space is (kept_closes (b ∷ word))) (closings_proper (closes (b ∷ word)))

word_proper : (word : List ℕ) → list_any is_space word ≡ false → AllProper (word_tokens word)
word_proper [] none = tt
word_proper (b ∷ word) none =
    let both = or_parts (is_space b) (list_any is_space word) none in word_proper_by b word (is_opening b) refl none (word_proper word both.1)

first_none : (b : ℕ) (parts : List (List ℕ)) → is_space b ≡ false → AllByRecursion (λ part. list_any is_space part ≡ false) parts
    → AllByRecursion (λ part. list_any is_space part ≡ false) (onto_first b parts)
first_none b [] none all = (ap (λ v. v || false) none, tt)
first_none b (part ∷ parts) none all = (ap (λ v. v || list_any is_space part) none ∙ all.0, all.1)

parts_none_by : (b : ℕ) (parts : List (List ℕ)) (v : Bool) → is_space b ≡ v → AllByRecursion (λ part. list_any is_space part ≡ false) parts
    → AllByRecursion (λ part. list_any is_space part ≡ false) (cond v ([] ∷ parts) (onto_first b parts))
parts_none_by b parts true is all = (refl, all)
parts_none_by b parts false is all = first_none b parts is all

parts_none : (text : List ℕ) → AllByRecursion (λ part. list_any is_space part ≡ false) (slice_split is_space text)
parts_none [] = (refl, tt)
parts_none (b ∷ text) = parts_none_by b (slice_split is_space text) (is_space b) refl (parts_none text)

parts_proper : (parts : List (List ℕ)) → AllByRecursion (λ part. list_any is_space part ≡ false) parts → AllProper (flat_map word_tokens parts)
parts_proper [] all = tt
parts_proper (part ∷ parts) all = proper_append (word_tokens part) (flat_map word_tokens parts) (word_proper part all.0) (parts_proper parts all.1)

pub tokens_proper : (text : List ℕ) → AllProper (tokens text)
unfolding tokens
tokens_proper text = parts_proper (slice_split is_space text) (parts_none text)
