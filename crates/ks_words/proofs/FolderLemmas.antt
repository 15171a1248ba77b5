-- The words that give the commands on a folder of keys.
use Rattle.std.proofs.Common.{◌≡◌, ℕ, ◌≤◌, arith, Bool, true, false, not, ◌||◌, List, [], ◌∷◌, Option, Some, None, Result, Ok, Err, IfOk, refl, ap, ap₂, sym, subst, ◌∙◌, inl, inr, codes}
use Rattle.ks_base.specs.declared.memory.Memory.{Memory}
use Rattle.std.specs.List.{list_all}
use Rattle.std.specs.Option.{option_map_or}
use Rattle.std.proofs.lemmas.Bool.{cases_Bool, and_parts}
use Rattle.clap.specs.Words.{Row, first_of, matches_of}
use Rattle.ks_words.specs.declared.words.Places.{Places}
use Rattle.ks_words.specs.declared.words.Words.{Words}
use Rattle.ks_words.specs.declared.words.Words.TheVariants.{Setup, Rotate, Usage}
use Rattle.ks_words.specs.Words.{Form, IsInRange, check, check_app, drill_app, folder_places, is_dashed, is_open, max_said, names_option, password_app, read_by, rotate, rotate_app, rotated_with, rows_read, serve_app, setup, setup_app, talk, talk_app, words_of}
use Rattle.ks_words.proofs.DrillLemmas.{drill_is_other}
use Rattle.ks_words.proofs.FolderWordLemmas.{folder_is_first, folder_is_rotated, folder_rotated, folder_taken, no_folder_fault, no_max_is_said, two_folders_fault}
use Rattle.ks_words.proofs.NameLemmas.{any_name, is_name, named_rotate, named_setup, not_named}
use Rattle.ks_words.proofs.NumberLemmas.{number_within}
use Rattle.ks_words.proofs.PasswordLemmas.{password_is_other}
use Rattle.ks_words.proofs.ReadLemmas.{read_fault, read_none, read_some}
use Rattle.ks_words.proofs.ServeLemmas.{serve_is_other}

-- the numbers that a command is told, and the most that a rotation leaves

said_within : (said : Option (List ℕ)) (max : ℕ) → max_said said ≡ Some max → (2 ≤ max) × (max ≤ 32)
said_within None max is =
    let three : 3 ≡ max = cc in
    subst (λ n. (2 ≤ n) × (n ≤ 32)) three (omega arith, omega arith)
said_within (Some word) max is = number_within 2 32 word max is

rotated_within : (folder : Option (List ℕ)) (said : Option ℕ) → ((max : ℕ) → said ≡ Some max → (2 ≤ max) × (max ≤ 32)) → IsInRange (rotated_with folder said)
rotated_within folder None within = tt
rotated_within folder (Some max) within = within max refl

rotate_range : (found : Option (List Row)) → IsInRange (option_map_or rotate.meaning found Usage)
rotate_range None = tt
rotate_range (Some rows) = rotated_within (first_of (codes "folder") rows) (max_said (first_of (codes "max") rows)) (said_within (first_of (codes "max") rows))

check_range : (found : Option (List Row)) → IsInRange (option_map_or check.meaning found Usage)
check_range None = tt
check_range (Some rows) = tt

talk_range : (found : Option (List Row)) → IsInRange (option_map_or talk.meaning found Usage)
talk_range None = tt
talk_range (Some rows) = tt

setup_range : (found : Option (List Row)) → IsInRange (option_map_or setup.meaning found Usage)
setup_range None = tt
setup_range (Some rows) = tt

pub check_in_range : (words : List (List ℕ)) → IsInRange (read_by check words)
unfolding read_by
check_in_range words = check_range (rows_read check_app words)

pub talk_in_range : (words : List (List ℕ)) → IsInRange (read_by talk words)
unfolding read_by
talk_in_range words = talk_range (rows_read talk_app words)

pub setup_in_range : (words : List (List ℕ)) → IsInRange (read_by setup words)
unfolding read_by
setup_in_range words = setup_range (rows_read setup_app words)

pub rotate_in_range : (words : List (List ℕ)) → IsInRange (read_by rotate words)
unfolding read_by
rotate_in_range words = rotate_range (rows_read rotate_app words)

pub read_in_range : (form : Form) (r : Result Words Memory) (words : List (List ℕ)) → ((words : List (List ℕ)) → IsInRange (read_by form words))
    → IfOk r (λ read. read ≡ read_by form words) → IfOk r IsInRange
read_in_range form (Ok read) words has is = subst IsInRange (sym is) (has words)
read_in_range form (Err fault) words has is = tt

-- `setup`

pub plain_from : (dashed : Bool) → (not dashed || false) ≡ true → dashed ≡ false
plain_from true h = cc
plain_from false h = refl

setup_plain : (word : List ℕ) → is_open setup_app.top.rules word ≡ true → is_dashed word ≡ false
unfolding is_open names_option
setup_plain word h = plain_from (is_dashed word) h

setup_usage : (words : List (List ℕ)) → rows_read setup_app words ≡ None → read_by setup words ≡ Usage
unfolding read_by
setup_usage words none = rw none refl

open_one : (folder : List ℕ) → is_dashed folder ≡ false → list_all (is_open setup_app.top.rules) (folder ∷ []) ≡ true
unfolding is_open names_option
open_one folder p = rw p refl

setup_meaning : (rows : List Row) (folder : List ℕ) → first_of (codes "folder") rows ≡ Some folder → setup.meaning rows ≡ Setup (folder_places (Some folder))
setup_meaning rows folder p = rw p refl

setup_given : (name folder : List ℕ) → is_dashed folder ≡ false → read_by setup (name ∷ folder ∷ []) ≡ Setup (folder_places (Some folder))
unfolding read_by
setup_given name folder p =
    ap (λ found. option_map_or setup.meaning found Usage) (read_some setup_app (name ∷ folder ∷ []) (open_one folder p) (folder_taken name folder p))
    ∙ setup_meaning (matches_of setup_app (name ∷ folder ∷ [])) folder (folder_is_first name folder p)

refused : {A : Type 0} (words : Words) (places : Places) → words ≡ Usage → words ≡ Setup places → A
refused words places usage given = cc (sym usage ∙ given)

setup_same : (places other : Places) (words : Words) → words ≡ Setup other → words ≡ Setup places → places ≡ other
setup_same places other words a b = cc (sym b ∙ a)

abbrev OfSetup : List (List ℕ) → Places → Type 0
OfSetup words places = (folder : List ℕ) × (is_dashed folder ≡ false) × (words ≡ folder ∷ []) × (places ≡ folder_places (Some folder))

setup_open : (name : List ℕ) (rest : List (List ℕ)) (places : Places) → list_all (is_open setup_app.top.rules) rest ≡ true
    → read_by setup (name ∷ rest) ≡ Setup places → OfSetup rest places
setup_open name [] places h e = refused _ places (setup_usage _ (read_fault setup_app _ (no_folder_fault name))) e
setup_open name (folder ∷ []) places h e =
    let p = setup_plain folder (and_parts _ _ h).0 in
    (folder, p, refl, setup_same places _ _ (setup_given name folder p) e)
setup_open name (folder ∷ more ∷ words) places h e =
    let all = and_parts _ _ h in
    let p = setup_plain folder all.0 in
    let q = setup_plain more (and_parts _ _ all.1).0 in
    refused _ places (setup_usage _ (read_fault setup_app _ (two_folders_fault name folder more words p q))) e

setup_only : (name : List ℕ) (rest : List (List ℕ)) (places : Places) → read_by setup (name ∷ rest) ≡ Setup places → OfSetup rest places
setup_only name rest places e = elim (cases_Bool (list_all (is_open setup_app.top.rules) rest)) [
  | inl h ↦ setup_open name rest places h e
  | inr h ↦ refused _ places (setup_usage _ (read_none setup_app (name ∷ rest) h)) e
]

check_is_not : (found : Option (List Row)) (places : Places) → option_map_or check.meaning found Usage ≡ Setup places → ⊥
check_is_not None places e = cc
check_is_not (Some rows) places e = cc

talk_is_not : (found : Option (List Row)) (places : Places) → option_map_or talk.meaning found Usage ≡ Setup places → ⊥
talk_is_not None places e = cc
talk_is_not (Some rows) places e = cc

rotated_is_not : (folder : Option (List ℕ)) (max : Option ℕ) (places : Places) → rotated_with folder max ≡ Setup places → ⊥
rotated_is_not folder None places e = cc
rotated_is_not folder (Some max) places e = cc

rotate_is_not : (found : Option (List Row)) (places : Places) → option_map_or rotate.meaning found Usage ≡ Setup places → ⊥
rotate_is_not None places e = cc
rotate_is_not (Some rows) places e = rotated_is_not (first_of (codes "folder") rows) (max_said (first_of (codes "max") rows)) places e

abbrev pub AreSetup : List (List ℕ) → Places → Type 0
AreSetup words places = (folder : List ℕ) × (is_dashed folder ≡ false) × (words ≡ codes "setup" ∷ folder ∷ []) × (places ≡ folder_places (Some folder))

setup_rest : (name : List ℕ) (rest : List (List ℕ)) (places : Places) → name ≡ codes "setup" → OfSetup rest places → AreSetup (name ∷ rest) places
setup_rest name rest places is h = (h.0, h.1, ap₂ (λ a b. a ∷ b) is h.2, h.3)

pub setup_words_are : (words : List (List ℕ)) (places : Places) → words_of words ≡ Setup places → AreSetup words places
unfolding read_by
setup_words_are [] places = λ e. refused _ places (not_named [] refl) e
setup_words_are (name ∷ rest) places =
    any_name (λ (read : Words). read ≡ Setup places → AreSetup (name ∷ rest) places) name rest
    (λ e. absurd (check_is_not (rows_read check_app (name ∷ rest)) places e))
    (λ e. absurd (talk_is_not (rows_read talk_app (name ∷ rest)) places e))
    (λ is e. setup_rest name rest places (is_name name (codes "setup") is) (setup_only name rest places e))
    (λ e. absurd (rotate_is_not (rows_read rotate_app (name ∷ rest)) places e))
    (λ e. absurd ((serve_is_other (rows_read serve_app (name ∷ rest)) places).2 e))
    (λ e. absurd ((password_is_other (rows_read password_app (name ∷ rest)) places).2 e))
    (λ e. absurd ((drill_is_other (rows_read drill_app (name ∷ rest)) places).2 e))
    (λ e. cc)

pub setup_words_give : (folder : List ℕ) → is_dashed folder ≡ false → words_of (codes "setup" ∷ folder ∷ []) ≡ Setup (folder_places (Some folder))
setup_words_give folder p =
    named_setup (codes "setup" ∷ folder ∷ []) (codes "setup") false false true refl refl refl refl refl refl refl ∙ setup_given (codes "setup") folder p

-- `rotate`

open_rotate : (folder : List ℕ) → is_dashed folder ≡ false → list_all (is_open rotate_app.top.rules) (folder ∷ []) ≡ true
unfolding is_open names_option
open_rotate folder p = rw p refl

rotate_meaning : (rows : List Row) (folder : List ℕ) → first_of (codes "folder") rows ≡ Some folder → first_of (codes "max") rows ≡ None
    → rotate.meaning rows ≡ Rotate (folder_places (Some folder)) 3
rotate_meaning rows folder p q = rw (p, q) refl

rotate_given : (name folder : List ℕ) → is_dashed folder ≡ false → read_by rotate (name ∷ folder ∷ []) ≡ Rotate (folder_places (Some folder)) 3
unfolding read_by
rotate_given name folder p =
    ap (λ found. option_map_or rotate.meaning found Usage) (read_some rotate_app (name ∷ folder ∷ []) (open_rotate folder p) (folder_rotated name folder p))
    ∙ rotate_meaning (matches_of rotate_app (name ∷ folder ∷ [])) folder (folder_is_rotated name folder p) (no_max_is_said name folder p)

pub rotate_words_give : (folder : List ℕ) → is_dashed folder ≡ false → words_of (codes "rotate" ∷ folder ∷ []) ≡ Rotate (folder_places (Some folder)) 3
rotate_words_give folder p =
    named_rotate (codes "rotate" ∷ folder ∷ []) (codes "rotate") false false false true refl refl refl refl refl refl refl refl refl
    ∙ rotate_given (codes "rotate") folder p
