-- What is read as a key is a text of it, with a line feed behind it or without one.
use Rattle.std.proofs.Common.{◌≡◌, ◌≢◌, ◌↔◌, ℕ, ◌≤◌, List, [], ◌∷◌, ◌++◌, length, get_or, refl, sym, ap, ◌∙◌, arith, ne_eqb, inl, inr, Some, None, ◌==◌, true, false, not}
use Rattle.std.proofs.lemmas.Bool.{cases_order}
use Rattle.std.proofs.lemmas.List.{length-append, append-nil, get_or_past}
use Rattle.std.proofs.lemmas.List.Folds.{list_all_at}
use Rattle.std.specs.List.{list_all}
use Rattle.base64.specs.Rfc4648.{encode_symbols}
use Rattle.ks_base.specs.declared.key.Key.{Key}
use Rattle.ks_fernet.specs.Base64Url.{symbols, bare_text}
use Rattle.ks_fernet.specs.KeyText.{IsKeyText}
use Rattle.ks_fernet.proofs.KeyTexts.{key_of_spelled, key_texts, spelled_key}
use Rattle.ks_fernet.proofs.Spelling.{option_cases}
use Rattle.ks_keyfiles.specs.Folders.{line_of, key_in_file}
use Rattle.ks_keyfiles.specs.Laws.{IsKeyFile}
use Rattle.ks_keyfiles.proofs.FileLemmas.{key_too_long, key_in_short}
use Rattle.ks_keyfiles.proofs.LineLemmas.{line_cases, line_of_fed, line_of_unfed}

-- no byte is a line feed
abbrev NoFeeds : List ℕ → Type 0
NoFeeds [] = Unit {0}
NoFeeds (byte ∷ bytes) = (byte ≢ 10) × NoFeeds bytes

line_of_same : (line : List ℕ) → NoFeeds line → line_of line ≡ line
unfolding line_of
line_of_same [] none = refl
line_of_same (byte ∷ []) none = let no = ne_eqb byte 10 none.0 in rw no refl
line_of_same (byte ∷ next ∷ more) none = ap (λ xs. byte ∷ xs) (line_of_same (next ∷ more) none.1)

symbols_test : list_all (λ c. not (c == 10)) symbols ≡ true
symbols_test = refl

past_no_feed : (k : ℕ) → 64 ≤ k → get_or symbols k 0 ≢ 10
past_no_feed k past = λ e. cc (sym (get_or_past symbols k 0 past) ∙ e)

symbol_no_feed : (k : ℕ) → get_or symbols k 0 ≢ 10
symbol_no_feed k = elim (cases_order k 64) [
  | inl same ↦ past_no_feed k (omega (arith, same))
  | inr (inl under) ↦ λ e.
      let no : not (get_or symbols k 0 == 10) ≡ false = ap (λ n. not (n == 10)) e in
      cc (sym symbols_test ∙ list_all_at (λ c. not (c == 10)) symbols k 0 under no)
  | inr (inr over) ↦ past_no_feed k (omega (arith, over))
]

no_feeds_encoded : (table bytes : List ℕ) → ((k : ℕ) → get_or table k 0 ≢ 10) → NoFeeds (encode_symbols table bytes)
unfolding encode_symbols
no_feeds_encoded table [] none = tt
no_feeds_encoded table (a ∷ []) none = (none _, (none _, tt))
no_feeds_encoded table (a ∷ b ∷ []) none = (none _, (none _, (none _, tt)))
no_feeds_encoded table (a ∷ b ∷ c ∷ rest) none = (none _, (none _, (none _, (none _, no_feeds_encoded table rest none))))

line_of_bare : (bytes : List ℕ) → line_of (bare_text bytes) ≡ bare_text bytes
unfolding bare_text
line_of_bare bytes = rw append-nil (line_of_same (encode_symbols symbols bytes) (no_feeds_encoded symbols bytes symbol_no_feed))

-- a text of a key has no line feed at its end, and at most 44 characters
record IsLine (text : List ℕ) : Type 0 where
  whole : line_of text ≡ text
  short : length text ≤ 44

key_text_line : (text : List ℕ) (key : Key) → IsKeyText text key → IsLine text
key_text_line text key is =
    let texts = key_texts text key is in
    let bare : List ℕ = bare_text (key.signing ++ key.encryption) in
    elim texts.1 [
      | inl same ↦ record { whole = rw same (line_of_bare (key.signing ++ key.encryption)); short = omega (arith, ap length same, texts.0) }
      | inr padded ↦ record {
        whole = rw padded (line_of_unfed bare 61 (λ e. absurd (omega (arith, e))));
        short = omega (arith, ap length padded, length-append bare (61 ∷ []), texts.0);
      }
    ]

pub file_is_read : (content : List ℕ) (key : Key) → IsKeyFile content key → key_in_file content ≡ Some key
file_is_read content key is =
    let line = key_text_line is.0 key is.1 in
    elim is.2 [
      | inl same ↦
          let short : length content ≤ 64 = omega (arith, ap length same, line.short) in
          key_in_short content short ∙ rw (same, line.whole) (key_of_spelled is.0 key is.1)
      | inr fed ↦
          let short : length content ≤ 64 = omega (arith, ap length fed, length-append is.0 (10 ∷ []), line.short) in
          key_in_short content short ∙ rw (fed, line_of_fed is.0) (key_of_spelled is.0 key is.1)
    ]

read_is_file : (content : List ℕ) (key : Key) → key_in_file content ≡ Some key → IsKeyFile content key
read_is_file content key found = elim (cases_order (length content) 64) [
  | inl same ↦ of_line content key (omega (arith, same)) found
  | inr (inl under) ↦ of_line content key (omega (arith, under)) found
  | inr (inr over) ↦ cc (sym (key_too_long content over) ∙ found)
]
  where
    of_line : (content : List ℕ) (key : Key) → length content ≤ 64 → key_in_file content ≡ Some key → IsKeyFile content key
    of_line content key short found =
        (line_of content, spelled_key (line_of content) key (sym (key_in_short content short) ∙ found), line_cases content)

pub file_iff : (content : List ℕ) (key : Key) → (key_in_file content ≡ Some key) ↔ IsKeyFile content key
file_iff content key = (read_is_file content key, file_is_read content key)

pub no_file_iff : (content : List ℕ) → (key_in_file content ≡ None) ↔ ((key : Key) → ¬ IsKeyFile content key)
no_file_iff content = (
  λ none key is. cc (sym none ∙ file_is_read content key is),
  λ no. elim (option_cases (key_in_file content)) [
    | inl found ↦ absurd (no found.0 (read_is_file content found.0 found.1))
    | inr missing ↦ missing
  ],
)
