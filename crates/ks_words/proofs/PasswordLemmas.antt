-- The words that give `password`.
use Rattle.std.proofs.Common.{◌≡◌, ℕ, ◌≤◌, arith, true, false, List, [], ◌∷◌, Option, Some, None, refl, ap, subst, ◌∙◌, codes}
use Rattle.std.specs.Option.{option_map_or}
use Rattle.clap.specs.Words.{Row, fault_of, first_of, matches_of}
use Rattle.clap.proofs.OnLiterals.{clap_on_literals}
use Rattle.ks_words.specs.declared.words.Places.{Places}
use Rattle.ks_words.specs.declared.words.Words.TheVariants.{Password, Usage}
use Rattle.ks_words.specs.Words.{IsInRange, derived_by, password, password_app, read_by, rounds_said, rows_read, words_of}
use Rattle.ks_words.proofs.NameLemmas.{named_password}
use Rattle.ks_words.proofs.NumberLemmas.{number_within}
use Rattle.ks_words.proofs.ReadLemmas.{read_some}
use Rattle.ks_words.proofs.ServeLemmas.{IsOther}

rounds_within : (said : Option (List ℕ)) (rounds : ℕ) → rounds_said said ≡ Some rounds → (1 ≤ rounds) × (rounds ≤ 100000)
rounds_within None rounds is =
    let default : 10000 ≡ rounds = cc in
    subst (λ n. (1 ≤ n) × (n ≤ 100000)) default (omega arith, omega arith)
rounds_within (Some word) rounds is = number_within 1 100000 word rounds is

derived_within : (said : Option ℕ) → ((rounds : ℕ) → said ≡ Some rounds → (1 ≤ rounds) × (rounds ≤ 100000)) → IsInRange (derived_by said)
derived_within None within = tt
derived_within (Some rounds) within = within rounds refl

password_range : (found : Option (List Row)) → IsInRange (option_map_or password.meaning found Usage)
password_range None = tt
password_range (Some rows) = derived_within (rounds_said (first_of (codes "rounds") rows)) (rounds_within (first_of (codes "rounds") rows))

pub password_in_range : (words : List (List ℕ)) → IsInRange (read_by password words)
unfolding read_by
password_in_range words = password_range (rows_read password_app words)

-- it gives none of the commands that have laws of their own

derived_is_other : (said : Option ℕ) (places : Places) → IsOther places (derived_by said)
derived_is_other None places = (λ e. cc, λ e. cc, λ e. cc)
derived_is_other (Some rounds) places = (λ e. cc, λ e. cc, λ e. cc)

pub password_is_other : (found : Option (List Row)) (places : Places) → IsOther places (option_map_or password.meaning found Usage)
password_is_other None places = (λ e. cc, λ e. cc, λ e. cc)
password_is_other (Some rows) places = derived_is_other (rounds_said (first_of (codes "rounds") rows)) places

-- the word alone

word_taken : (name : List ℕ) → fault_of password_app (name ∷ []) ≡ []
unfolding clap_on_literals
word_taken name = refl

no_rounds_said : (name : List ℕ) → first_of (codes "rounds") (matches_of password_app (name ∷ [])) ≡ None
unfolding clap_on_literals
no_rounds_said name = refl

password_given : (name : List ℕ) → read_by password (name ∷ []) ≡ Password 10000
unfolding read_by
password_given name =
    ap (λ found. option_map_or password.meaning found Usage) (read_some password_app (name ∷ []) refl (word_taken name))
    ∙ ap (λ said. derived_by (rounds_said said)) (no_rounds_said name)

pub password_word_gives : words_of (codes "password" ∷ []) ≡ Password 10000
password_word_gives =
    named_password (codes "password" ∷ []) (codes "password") false false false false false true refl refl refl refl refl refl refl refl refl refl refl refl refl
    ∙ password_given (codes "password")
