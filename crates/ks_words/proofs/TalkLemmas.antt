-- The words that give each command.
use Rattle.std.proofs.Common.{◌≡◌, ℕ, true, false, List, [], ◌∷◌, Option, Some, None, refl, ap, ap₂, sym, ◌∙◌, inl, inr, codes}
use Rattle.std.specs.List.{list_all}
use Rattle.std.specs.Option.{option_map_or}
use Rattle.std.specs.Str.{bytes_eq}
use Rattle.std.proofs.lemmas.Bool.{cases_Bool, and_parts}
use Rattle.clap.specs.Words.{Row, first_of, matches_of}
use Rattle.ks_words.specs.declared.words.Places.{Places}
use Rattle.ks_words.specs.declared.words.Words.{Words}
use Rattle.ks_words.specs.declared.words.Words.TheVariants.{Check, Talk, Usage}
use Rattle.ks_words.specs.Words.{check, check_app, drill, drill_app, is_dashed, is_open, max_said, names_option, password, password_app, read_by, rotate, rotate_app, rotated_with, rows_read, serve, serve_app, setup, setup_app, talk, talk_app, talk_places, words_of}
use Rattle.ks_words.proofs.DrillLemmas.{drill_is_other}
use Rattle.ks_words.proofs.NameLemmas.{check_name, is_name, not_named, other_name, talk_name}
use Rattle.ks_words.proofs.PasswordLemmas.{password_is_other}
use Rattle.ks_words.proofs.ReadLemmas.{read_fault, read_none, read_some}
use Rattle.ks_words.proofs.ServeLemmas.{serve_is_other}
use Rattle.ks_words.proofs.WordLemmas.{check_word_taken, check_words_fault, file_is_first, folder_is_second, no_word_fault, one_word_fault, three_words_fault, two_words_taken}
use Rattle.ks_words.proofs.FolderLemmas.{plain_from}

-- no argument of the two commands has a long name
talk_plain : (word : List ℕ) → is_open talk_app.top.rules word ≡ true → is_dashed word ≡ false
unfolding is_open names_option
talk_plain word h = plain_from (is_dashed word) h

check_plain : (word : List ℕ) → is_open check_app.top.rules word ≡ true → is_dashed word ≡ false
unfolding is_open names_option
check_plain word h = plain_from (is_dashed word) h

abbrev pub OfTalk : List (List ℕ) → Places → Type 0
OfTalk words places = (file folder : List ℕ) × (is_dashed file ≡ false) × (is_dashed folder ≡ false)
    × (words ≡ file ∷ folder ∷ []) × (places ≡ talk_places (Some file) (Some folder))

meaning_is : (rows : List Row) (file folder : List ℕ) → first_of (codes "file") rows ≡ Some file → first_of (codes "folder") rows ≡ Some folder
    → talk.meaning rows ≡ Talk (talk_places (Some file) (Some folder))
meaning_is rows file folder p q = rw (p, q) refl

talk_usage : (words : List (List ℕ)) → rows_read talk_app words ≡ None → read_by talk words ≡ Usage
unfolding read_by
talk_usage words none = rw none refl

open_two : (file folder : List ℕ) → is_dashed file ≡ false → is_dashed folder ≡ false → list_all (is_open talk_app.top.rules) (file ∷ folder ∷ []) ≡ true
unfolding is_open names_option
open_two file folder p q = rw (p, q) refl

pub talk_given : (name file folder : List ℕ) → is_dashed file ≡ false → is_dashed folder ≡ false
    → read_by talk (name ∷ file ∷ folder ∷ []) ≡ Talk (talk_places (Some file) (Some folder))
unfolding read_by
talk_given name file folder p q =
    ap (λ found. option_map_or talk.meaning found Usage)
    (read_some talk_app (name ∷ file ∷ folder ∷ []) (open_two file folder p q) (two_words_taken name file folder p q))
    ∙ meaning_is (matches_of talk_app (name ∷ file ∷ folder ∷ [])) file folder (file_is_first name file folder p q) (folder_is_second name file folder p q)

refused : {A : Type 0} (words : Words) (places : Places) → words ≡ Usage → words ≡ Talk places → A
refused words places usage given = cc (sym usage ∙ given)

talk_same : (places other : Places) (words : Words) → words ≡ Talk other → words ≡ Talk places → places ≡ other
talk_same places other words a b = cc (sym b ∙ a)

talk_open : (name : List ℕ) (rest : List (List ℕ)) (places : Places) → list_all (is_open talk_app.top.rules) rest ≡ true
    → read_by talk (name ∷ rest) ≡ Talk places → OfTalk rest places
talk_open name [] places h e = refused _ places (talk_usage _ (read_fault talk_app _ (no_word_fault name))) e
talk_open name (file ∷ []) places h e =
    let p = talk_plain file (and_parts _ _ h).0 in
    refused _ places (talk_usage _ (read_fault talk_app _ (one_word_fault name file p))) e
talk_open name (file ∷ folder ∷ []) places h e =
    let all = and_parts _ _ h in
    let p = talk_plain file all.0 in
    let q = talk_plain folder (and_parts _ _ all.1).0 in
    (file, folder, p, q, refl, talk_same places _ _ (talk_given name file folder p q) e)
talk_open name (file ∷ folder ∷ more ∷ words) places h e =
    let all = and_parts _ _ h in
    let next = and_parts _ _ all.1 in
    let p = talk_plain file all.0 in
    let q = talk_plain folder next.0 in
    let r = talk_plain more (and_parts _ _ next.1).0 in
    refused _ places (talk_usage _ (read_fault talk_app _ (three_words_fault name file folder more words p q r))) e

pub talk_only : (name : List ℕ) (rest : List (List ℕ)) (places : Places) → read_by talk (name ∷ rest) ≡ Talk places → OfTalk rest places
talk_only name rest places e = elim (cases_Bool (list_all (is_open talk_app.top.rules) rest)) [
  | inl h ↦ talk_open name rest places h e
  | inr h ↦ refused _ places (talk_usage _ (read_none talk_app (name ∷ rest) h)) e
]

check_found : (found : Option (List Row)) (places : Places) → option_map_or check.meaning found Usage ≡ Talk places → ⊥
check_found None places e = cc
check_found (Some rows) places e = cc

pub check_is_not_talk : (words : List (List ℕ)) (places : Places) → read_by check words ≡ Talk places → ⊥
unfolding read_by
check_is_not_talk words places e = check_found (rows_read check_app words) places e

talk_found : (found : Option (List Row)) → option_map_or talk.meaning found Usage ≡ Check → ⊥
talk_found None e = cc
talk_found (Some rows) e = cc

pub talk_is_not_check : (words : List (List ℕ)) → read_by talk words ≡ Check → ⊥
unfolding read_by
talk_is_not_check words e = talk_found (rows_read talk_app words) e

check_usage : (words : List (List ℕ)) → rows_read check_app words ≡ None → read_by check words ≡ Usage
unfolding read_by
check_usage words none = rw none refl

pub check_given : (name : List ℕ) → read_by check (name ∷ []) ≡ Check
unfolding read_by
check_given name = rw (read_some check_app (name ∷ []) refl (check_word_taken name)) refl

not_usage : {A : Type 0} (words : Words) → words ≡ Usage → words ≡ Check → A
not_usage words usage given = cc (sym usage ∙ given)

pub check_only : (name : List ℕ) (rest : List (List ℕ)) → read_by check (name ∷ rest) ≡ Check → rest ≡ []
check_only name [] e = refl
check_only name (word ∷ words) e = elim (cases_Bool (list_all (is_open check_app.top.rules) (word ∷ words))) [
  | inl h ↦ not_usage _ (check_usage _ (read_fault check_app _ (check_words_fault name word words (check_plain word (and_parts _ _ h).0)))) e
  | inr h ↦ not_usage _ (check_usage _ (read_none check_app (name ∷ word ∷ words) h)) e
]

-- what each command needs of its words; the other commands give neither of these two
setup_found : (found : Option (List Row)) (places : Places) → (option_map_or setup.meaning found Usage ≡ Check → ⊥) × (option_map_or setup.meaning found Usage ≡ Talk places → ⊥)
setup_found None places = (λ e. cc, λ e. cc)
setup_found (Some rows) places = (λ e. cc, λ e. cc)

rotated_is : (folder : Option (List ℕ)) (max : Option ℕ) (places : Places) → (rotated_with folder max ≡ Check → ⊥) × (rotated_with folder max ≡ Talk places → ⊥)
rotated_is folder None places = (λ e. cc, λ e. cc)
rotated_is folder (Some max) places = (λ e. cc, λ e. cc)

rotate_found : (found : Option (List Row)) (places : Places) → (option_map_or rotate.meaning found Usage ≡ Check → ⊥) × (option_map_or rotate.meaning found Usage ≡ Talk places → ⊥)
rotate_found None places = (λ e. cc, λ e. cc)
rotate_found (Some rows) places = rotated_is (first_of (codes "folder") rows) (max_said (first_of (codes "max") rows)) places

abbrev IsNeither : Places → Words → Type 0
IsNeither places words = (words ≡ Check → ⊥) × (words ≡ Talk places → ⊥)

serve_is_neither : (found : Option (List Row)) (places : Places) → IsNeither places (option_map_or serve.meaning found Usage)
serve_is_neither found places =
    let other = serve_is_other found places in
    (other.0, other.1)

password_is_neither : (found : Option (List Row)) (places : Places) → IsNeither places (option_map_or password.meaning found Usage)
password_is_neither found places =
    let other = password_is_other found places in
    (other.0, other.1)

drill_is_neither : (found : Option (List Row)) (places : Places) → IsNeither places (option_map_or drill.meaning found Usage)
drill_is_neither found places =
    let other = drill_is_other found places in
    (other.0, other.1)

other_is_neither : (name : List ℕ) (rest : List (List ℕ)) (places : Places) → bytes_eq name (codes "check") ≡ false → bytes_eq name (codes "talk") ≡ false
    → IsNeither places (words_of (name ∷ rest))
unfolding read_by
other_is_neither name rest places h g =
    other_name (IsNeither places) name rest h g (λ e. setup_found (rows_read setup_app (name ∷ rest)) places) (rotate_found (rows_read rotate_app (name ∷ rest)) places)
    (serve_is_neither (rows_read serve_app (name ∷ rest)) places) (password_is_neither (rows_read password_app (name ∷ rest)) places)
    (drill_is_neither (rows_read drill_app (name ∷ rest)) places) (λ e. cc, λ e. cc)

pub check_words_are : (words : List (List ℕ)) → words_of words ≡ Check → words ≡ codes "check" ∷ []
check_words_are [] e = not_usage _ (not_named [] refl) e
check_words_are (name ∷ rest) e = elim (cases_Bool (bytes_eq name (codes "check"))) [
  | inl h ↦ ap₂ (λ a b. a ∷ b) (is_name name (codes "check") h) (check_only name rest (sym (check_name name rest h) ∙ e))
  | inr h ↦ elim (cases_Bool (bytes_eq name (codes "talk"))) [
    | inl g ↦ absurd (talk_is_not_check (name ∷ rest) (sym (talk_name name rest h g) ∙ e))
    | inr g ↦ absurd ((other_is_neither name rest (talk_places None None) h g).0 e)
  ]
]

pub check_words_give : (words : List (List ℕ)) → words ≡ codes "check" ∷ [] → words_of words ≡ Check
check_words_give words e = ap words_of e ∙ check_name (codes "check") [] refl ∙ check_given (codes "check")

pub talk_words_give : (file folder : List ℕ) → is_dashed file ≡ false → is_dashed folder ≡ false
    → words_of (codes "talk" ∷ file ∷ folder ∷ []) ≡ Talk (talk_places (Some file) (Some folder))
talk_words_give file folder p q = talk_name (codes "talk") (file ∷ folder ∷ []) refl refl ∙ talk_given (codes "talk") file folder p q

abbrev pub AreTalk : List (List ℕ) → Places → Type 0
AreTalk words places = (file folder : List ℕ) × (is_dashed file ≡ false) × (is_dashed folder ≡ false)
    × (words ≡ codes "talk" ∷ file ∷ folder ∷ []) × (places ≡ talk_places (Some file) (Some folder))

talk_rest : (name : List ℕ) (rest : List (List ℕ)) (places : Places) → name ≡ codes "talk" → OfTalk rest places → AreTalk (name ∷ rest) places
talk_rest name rest places is h = (h.0, h.1, h.2, h.3, ap₂ (λ a b. a ∷ b) is h.4, h.5)

pub talk_words_are : (words : List (List ℕ)) (places : Places) → words_of words ≡ Talk places → AreTalk words places
talk_words_are [] places e = refused _ places (not_named [] refl) e
talk_words_are (name ∷ rest) places e = elim (cases_Bool (bytes_eq name (codes "check"))) [
  | inl h ↦ absurd (check_is_not_talk (name ∷ rest) places (sym (check_name name rest h) ∙ e))
  | inr h ↦ elim (cases_Bool (bytes_eq name (codes "talk"))) [
    | inl g ↦ talk_rest name rest places (is_name name (codes "talk") g) (talk_only name rest places (sym (talk_name name rest h g) ∙ e))
    | inr g ↦ absurd ((other_is_neither name rest places h g).1 e)
  ]
]

pub talk_meant : (file folder : Option (List ℕ)) (rows : List Row) → file ≡ first_of (codes "file") rows → folder ≡ first_of (codes "folder") rows
    → Talk (talk_places file folder) ≡ talk.meaning rows
talk_meant file folder rows p q = rw (p, q) refl
