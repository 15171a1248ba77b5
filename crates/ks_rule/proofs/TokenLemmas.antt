-- The tokens at the front of a text.
use Rattle.std.proofs.Common.{◌≡◌, refl, sym, ap, ◌∙◌, subst, ℕ, zero, suc, ◌+◌, ◌-◌, ◌<◌, ◌≤◌, Bool, true, false, cond, not, List, [], ◌∷◌, ◌++◌, length, take, drop, get_or, append_assoc, arith, add-one, length-take, length-append, drop-cons, replicate}
use Rattle.std.specs.Prelude.{IsUtf8, flat_map, IsCharBoundary, nat_lt as ltb}
use Rattle.std.specs.List.{slice_split, onto_first, prefix_len, position_or_len, before_first, after_first}
use Rattle.std.proofs.lemmas.List.{reverse-append, take_all, drop_all, take_at, drop_at, get_or_at, take-append-le}
use Rattle.std.proofs.lemmas.List.Sums.{fails_before_first, passes_at_first, suffix_len-le-length, prefix_len-le-length}
use Rattle.std.proofs.lemmas.List.Splits.{slice_split-cons_yes, slice_split-cons_no, slice_split_first, slice_split_none}
use Rattle.std.proofs.lemmas.Str.{IsUtf8-take, IsUtf8-drop, IsCharBoundary-before_ascii, IsCharBoundary-after_ascii}
use Rattle.std.proofs.lemmas.Bool.Decides.{nat_tests}
use Rattle.std.proofs.lemmas.Grind.{common_steps}
use Rattle.ks_rule.specs.Tokens.{Token, opening, closing, token_of, is_space, is_opening, is_closing, kept_tokens, closes, without_closes, closed_tokens, word_tokens, tokens}

-- white space before a text makes no token
pub tokens_space : (b : ℕ) (text : List ℕ) → is_space b ≡ true → tokens (b ∷ text) ≡ tokens text
unfolding tokens
tokens_space b text space = ap (flat_map word_tokens) (slice_split-cons_yes is_space b text space)

-- a ( before a text is one
opens_first : (parts : List (List ℕ)) → flat_map word_tokens (onto_first 40 parts) ≡ opening ∷ flat_map word_tokens parts
opens_first [] = refl
opens_first (part ∷ parts) = refl

pub tokens_opening : (text : List ℕ) → tokens (40 ∷ text) ≡ opening ∷ tokens text
unfolding tokens
tokens_opening text = ap (flat_map word_tokens) (slice_split-cons_no is_space 40 text refl) ∙ opens_first (slice_split is_space text)

-- the first word of a text comes first
word_ends : (text : List ℕ) → position_or_len is_space text < length text
    → tokens text ≡ word_tokens (before_first is_space text) ++ tokens (drop (position_or_len is_space text) text)
unfolding tokens
word_ends text lt =
    let n = position_or_len is_space text in
    let behind : drop n text ≡ get_or text n 0 ∷ after_first is_space text = drop-cons text n 0 lt ∙ ap (λ k. get_or text n 0 ∷ drop k text) (sym (add-one n)) in
    let more : tokens (drop n text) ≡ tokens (after_first is_space text) = ap tokens behind ∙ tokens_space (get_or text n 0) (after_first is_space text) (passes_at_first is_space text 0 lt) in
    ap (flat_map word_tokens) (slice_split_first is_space text 0 lt) ∙ ap (λ l. word_tokens (before_first is_space text) ++ l) (sym more)

one_word : (text : List ℕ) → length text ≤ position_or_len is_space text → tokens text ≡ word_tokens text ++ []
unfolding tokens
one_word text le = ap (flat_map word_tokens) (slice_split_none is_space text (λ k d lt. grind (arith, common_steps, fails_before_first is_space text k d (omega arith))))

pub tokens_word : (text : List ℕ) → tokens text ≡ word_tokens (before_first is_space text) ++ tokens (drop (position_or_len is_space text) text)
unfolding tokens
tokens_word text = by_len (ltb (position_or_len is_space text) (length text)) refl
  where
    by_len : (b : Bool) → ltb (position_or_len is_space text) (length text) ≡ b
        → tokens text ≡ word_tokens (before_first is_space text) ++ tokens (drop (position_or_len is_space text) text)
    by_len true e = word_ends text (grind (arith, nat_tests))
    by_len false e =
        let le : length text ≤ position_or_len is_space text = grind (arith, nat_tests) in
        rw (take_all (position_or_len is_space text) text le, drop_all (position_or_len is_space text) text le) (one_word text le)

-- a word's last ) is a token
pub closes_push : (word : List ℕ) → closes (word ++ 41 ∷ []) ≡ 1 + closes word
closes_push word = ap (prefix_len is_closing) (reverse-append word (41 ∷ []))

pub without_closes_push : (word : List ℕ) → without_closes (word ++ 41 ∷ []) ≡ without_closes word
without_closes_push word =
    let le = suffix_len-le-length is_closing word in
    let n : length (word ++ 41 ∷ []) - closes (word ++ 41 ∷ []) ≡ length word - closes word = omega (arith, closes_push word, length-append word (41 ∷ [])) in
    ap (λ k. take k (word ++ 41 ∷ [])) n ∙ take-append-le (length word - closes word) word (41 ∷ []) (omega arith)

-- a text may be cut at an ASCII byte
pub utf8_front : (front behind : List ℕ) (b : ℕ) → IsUtf8 (front ++ b ∷ behind) → b < 128 → IsUtf8 front
utf8_front front behind b utf8 ascii =
    let at : get_or (front ++ b ∷ behind) (length front) 0 ≡ b = get_or_at front b behind 0 (length front) refl in
    let cut = IsUtf8-take (front ++ b ∷ behind) (length front) utf8 (IsCharBoundary-before_ascii (front ++ b ∷ behind) (length front) (omega (arith, length-append front (b ∷ behind))) (rw at ascii)) in
    subst IsUtf8 (take_at front (b ∷ behind) (length front) refl) cut

pub utf8_behind : (front behind : List ℕ) (b : ℕ) → IsUtf8 (front ++ b ∷ behind) → b < 128 → IsUtf8 behind
utf8_behind front behind b utf8 ascii =
    let at : get_or (front ++ b ∷ behind) (length front) 0 ≡ b = get_or_at front b behind 0 (length front) refl in
    let cut = IsUtf8-drop (front ++ b ∷ behind) (length front + 1) utf8 (IsCharBoundary-after_ascii (front ++ b ∷ behind) (length front) utf8 (omega (arith, length-append front (b ∷ behind))) (rw at ascii)) in
    subst IsUtf8 (ap (λ l. drop (length front + 1) l) (sym (append_assoc front (b ∷ []) behind)) ∙ drop_at (front ++ b ∷ []) behind (length front + 1) (length-append front (b ∷ []))) cut

space_is_ascii : (b : ℕ) → is_space b ≡ true → b < 128
space_is_ascii b e = grind (arith, nat_tests)

pub utf8_tail : (b : ℕ) (text : List ℕ) → is_space b ≡ true → IsUtf8 (b ∷ text) → IsUtf8 text
utf8_tail b text space utf8 = utf8_behind [] text b utf8 (space_is_ascii b space)

utf8_cut : (text : List ℕ) → IsCharBoundary text (position_or_len is_space text)
utf8_cut text = (
  prefix_len-le-length (λ x. not (is_space x)) text,
  λ lt high. absurd (omega (arith, space_is_ascii (get_or text (position_or_len is_space text) 0) (passes_at_first is_space text 0 lt))),
)

pub utf8_word : (text : List ℕ) → IsUtf8 text → IsUtf8 (take (position_or_len is_space text) text)
utf8_word text utf8 = IsUtf8-take text (position_or_len is_space text) utf8 (utf8_cut text)

pub utf8_rest : (text : List ℕ) → IsUtf8 text → IsUtf8 (drop (position_or_len is_space text) text)
utf8_rest text utf8 = IsUtf8-drop text (position_or_len is_space text) utf8 (utf8_cut text)

-- the first token of a word that begins otherwise than with a (
word_begins : (b : ℕ) (more : List ℕ) → is_space b ≡ false → (w : List ℕ) × (before_first is_space (b ∷ more) ≡ b ∷ w)
word_begins b more no_space =
    let n : position_or_len is_space (b ∷ more) ≡ suc (position_or_len is_space more) = ap (λ v. cond (not v) (1 + position_or_len is_space more) 0) no_space ∙ omega arith in
    (take (position_or_len is_space more) more, ap (λ k. take k (b ∷ more)) n)

opens_none : (b : ℕ) (word : List ℕ) → is_opening b ≡ false → word_tokens (b ∷ word) ≡ closed_tokens (b ∷ word)
opens_none b word no_opening = ap (λ v. cond v (opening ∷ word_tokens word) (closed_tokens (b ∷ word))) no_opening

-- a text is its first word, which begins otherwise than with a (, and what stands behind it
abbrev pub BeginsOtherwise : List ℕ → Type 0
BeginsOtherwise text = (b : ℕ) × (more : List ℕ) × (text ≡ b ∷ more) × (is_space b ≡ false) × (is_opening b ≡ false)

first_word : (text word behind : List ℕ) → BeginsOtherwise text → word ≡ before_first is_space text
    → behind ≡ drop (position_or_len is_space text) text → (0 < length word) × (tokens text ≡ closed_tokens word ++ tokens behind)
first_word text word behind (b, more, is, no_space, no_opening) w r =
    let begins = word_begins b more no_space in
    let word_is : word ≡ b ∷ begins.0 = w ∙ (ap (before_first is_space) is ∙ begins.1) in
    let of_word : word_tokens (before_first is_space text) ≡ closed_tokens word =
    ap word_tokens (sym w ∙ word_is) ∙ (opens_none b begins.0 no_opening ∙ ap closed_tokens (sym word_is)) in
    (rw word_is (omega arith), tokens_word text ∙ (ap (λ l. l ++ tokens (drop (position_or_len is_space text) text)) of_word ∙ ap (λ l. closed_tokens word ++ tokens l) (sym r)))

-- what is left of a text and of the word before
abbrev pub told : ℕ → List ℕ → List Token
told n rest = replicate n closing ++ tokens rest

nothing_kept : (word : List ℕ) → 0 < length word → without_closes word ≡ [] → closed_tokens word ≡ closing ∷ replicate (length word - 1) closing
nothing_kept word long none =
    let kept = length-take (length word - closes word) word in
    let all : closes word ≡ suc (length word - 1) = omega (arith, kept, ap length none, suffix_len-le-length is_closing word) in
    ap (λ l. kept_tokens l ++ replicate (closes word) closing) none ∙ ap (λ n. replicate n closing) all

something_kept : (word : List ℕ) (b : ℕ) (kept : List ℕ) → without_closes word ≡ b ∷ kept
    → closed_tokens word ≡ token_of (b ∷ kept) ∷ replicate (length word - length (b ∷ kept)) closing
something_kept word b kept some =
    let taken = length-take (length word - closes word) word in
    let left : closes word ≡ length word - length (b ∷ kept) = omega (arith, taken, ap length some, suffix_len-le-length is_closing word) in
    ap (λ l. kept_tokens l ++ replicate (closes word) closing) some ∙ ap (λ n. token_of (b ∷ kept) ∷ replicate n closing) left

pub next_closing : (text word behind kept : List ℕ) → BeginsOtherwise text → word ≡ before_first is_space text
    → behind ≡ drop (position_or_len is_space text) text → kept ≡ without_closes word → length kept ≡ 0
    → (0 < length word) × (tokens text ≡ closing ∷ told (length word - 1) behind)
next_closing text word behind [] begins w r k none =
    let first = first_word text word behind begins w r in
    (first.0, first.1 ∙ ap (λ l. l ++ tokens behind) (nothing_kept word first.0 (sym k)))
next_closing text word behind (b ∷ kept) begins w r k none = absurd (omega arith)

pub next_kept : (text word behind kept : List ℕ) (token : Token) → BeginsOtherwise text → word ≡ before_first is_space text
    → behind ≡ drop (position_or_len is_space text) text → kept ≡ without_closes word → 0 < length kept → token ≡ token_of kept
    → tokens text ≡ token ∷ told (length word - length kept) behind
next_kept text word behind [] token begins w r k some is = absurd (omega arith)
next_kept text word behind (b ∷ kept) token begins w r k some is =
    let first = first_word text word behind begins w r in
    first.1 ∙ (ap (λ l. l ++ tokens behind) (something_kept word b kept (sym k)) ∙ ap (λ t. t ∷ told (length word - length (b ∷ kept)) behind) (sym is))

-- where nothing is left of the word before
nothing_before : (n : ℕ) (rest skipped : List ℕ) (view : List Token) → told n rest ≡ view → n ≤ 0 → tokens skipped ≡ tokens rest → view ≡ tokens skipped
nothing_before zero rest skipped view is le same = sym is ∙ sym same
nothing_before (suc n) rest skipped view is le same = absurd (omega arith)

pub next_none : (n : ℕ) (rest skipped : List ℕ) (view : List Token) → told n rest ≡ view → n ≤ 0 → tokens skipped ≡ tokens rest → length skipped ≡ 0 → view ≡ []
unfolding tokens
next_none n rest [] view is le same none = nothing_before n rest [] view is le same
next_none n rest (b ∷ skipped) view is le same none = absurd (omega arith)

pub next_opening : (n : ℕ) (rest skipped : List ℕ) (view : List Token) → told n rest ≡ view → n ≤ 0 → tokens skipped ≡ tokens rest
    → (b : ℕ) (behind : List ℕ) → skipped ≡ b ∷ behind → b ≡ 40 → view ≡ opening ∷ told n behind
next_opening zero rest skipped view is le same b behind first opens =
    nothing_before zero rest skipped view is le same ∙ (ap tokens (first ∙ ap (λ x. x ∷ behind) opens) ∙ tokens_opening behind)
next_opening (suc n) rest skipped view is le same b behind first opens = absurd (omega arith)
