-- How the text of a rule is cut into tokens.
-- Source: oslo.policy, narrowed.
use Rattle.std.specs.Prelude.{ℕ, ◌-◌, Bool, ◌||◌, ◌==◌, if◌then◌else◌, List, [], ◌∷◌, ◌++◌, length, take, replicate, flat_map, codes}
use Rattle.std.specs.List.{slice_split, suffix_len}
use Rattle.std.specs.Str.{str_eq_ignore_ascii_case}

-- a token: a parenthesis, an operator, or else a check
pub data Token : Type 0 where
  opening : Token
  closing : Token
  not_word : Token
  and_word : Token
  or_word : Token
  check : (text : List ℕ) → Token

-- space, tab, CR and LF
abbrev pub is_space : ℕ → Bool
is_space b = (b == 32) || ((b == 9) || ((b == 13) || (b == 10)))

-- ( and )
abbrev pub is_opening : ℕ → Bool
is_opening b = b == 40

abbrev pub is_closing : ℕ → Bool
is_closing b = b == 41

-- an operator, in letters of either case, or else a check
abbrev pub token_of : List ℕ → Token
token_of text =
    if str_eq_ignore_ascii_case text (codes "not") then not_word
    else (if str_eq_ignore_ascii_case text (codes "and") then and_word
    else (if str_eq_ignore_ascii_case text (codes "or") then or_word else check text))

-- what is left of a word is one token, if it isn't empty
abbrev pub kept_tokens : List ℕ → List Token
kept_tokens [] = []
kept_tokens (b ∷ text) = token_of (b ∷ text) ∷ []

-- each trailing ) is a token
abbrev pub closes : List ℕ → ℕ
closes word = suffix_len is_closing word

abbrev pub without_closes : List ℕ → List ℕ
without_closes word = take (length word - closes word) word

abbrev pub closed_tokens : List ℕ → List Token
closed_tokens word = kept_tokens (without_closes word) ++ replicate (closes word) closing

-- each leading ( is a token
abbrev pub word_tokens : List ℕ → List Token
word_tokens [] = []
word_tokens (b ∷ word) = if is_opening b then opening ∷ word_tokens word else closed_tokens (b ∷ word)

-- the tokens of a text: the words between its white space, of which leading and trailing parentheses are tokens of their own
unfoldable pub tokens : List ℕ → List Token
tokens text = flat_map word_tokens (slice_split is_space text)
