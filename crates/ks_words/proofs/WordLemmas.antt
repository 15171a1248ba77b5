-- What clap makes of the words of each command.
use Rattle.std.proofs.Common.{◌≡◌, ℕ, false, List, [], ◌∷◌, Some, refl, ap, ◌∙◌, codes}
use Rattle.clap.specs.Walk.{Held, Rule, Walk, finished, nothing_held, walk, walk_from, walked}
use Rattle.clap.specs.Words.{App, built, fault_of, first_of, matches_of}
use Rattle.clap.specs.Faults.{walk_fault}
use Rattle.clap.specs.declared.error.kind.ErrorKind.TheVariants.{UnknownArgument}
use Rattle.clap.proofs.OnLiterals.{clap_on_literals}
use Rattle.ks_words.specs.Words.{check_app, has_none, is_dashed, talk_app}
use Rattle.ks_words.proofs.WalkLemmas.{at_place, behind_word, fault_from, fault_is, fault_of_word, no_fault_of_none, walked_word}

-- `check` takes no word

pub check_word_taken : (name : List ℕ) → fault_of check_app (name ∷ []) ≡ []
unfolding clap_on_literals
check_word_taken name = refl

abbrev check_built : App
check_built = built check_app

stray_check : (word : List ℕ) (words : List (List ℕ)) → is_dashed word ≡ false → walk_fault check_built.top [] (walk_from nothing_held) (word ∷ words) ≡ UnknownArgument ∷ []
stray_check word words p = fault_of_word check_built.top word words nothing_held 1 p

pub check_words_fault : (name word : List ℕ) (words : List (List ℕ)) → is_dashed word ≡ false → has_none (fault_of check_app (name ∷ word ∷ words)) ≡ false
check_words_fault name word words p = ap has_none (fault_is check_built nothing_held (word ∷ words) (UnknownArgument ∷ []) _ (stray_check word words p) refl)

-- `talk` takes two

abbrev talk_built : App
talk_built = built talk_app

abbrev rules : List Rule
rules = talk_built.top.rules

abbrev file_held : List ℕ → Held
file_held file = (behind_word rules file nothing_held 1).held

abbrev both_held : List ℕ → List ℕ → Held
both_held file folder = (behind_word rules folder (file_held file) 2).held

pub no_word_fault : (name : List ℕ) → has_none (fault_of talk_app (name ∷ [])) ≡ false
unfolding clap_on_literals
no_word_fault name = refl

one_fault : (file : List ℕ) (rest : List (List ℕ)) → is_dashed file ≡ false
    → walk_fault talk_built.top [] (walk_from nothing_held) (file ∷ rest) ≡ walk_fault talk_built.top [] (at_place (file_held file) 2) rest
one_fault file rest p = fault_of_word talk_built.top file rest nothing_held 1 p

two_fault : (file folder : List ℕ) (rest : List (List ℕ)) → is_dashed file ≡ false → is_dashed folder ≡ false
    → walk_fault talk_built.top [] (walk_from nothing_held) (file ∷ folder ∷ rest) ≡ walk_fault talk_built.top [] (at_place (both_held file folder) 3) rest
two_fault file folder rest p q = one_fault file (folder ∷ rest) p ∙ fault_of_word talk_built.top folder rest (file_held file) 2 q

three_fault : (file folder more : List ℕ) (rest : List (List ℕ)) → is_dashed file ≡ false → is_dashed folder ≡ false → is_dashed more ≡ false
    → walk_fault talk_built.top [] (walk_from nothing_held) (file ∷ folder ∷ more ∷ rest) ≡ UnknownArgument ∷ []
three_fault file folder more rest p q r = two_fault file folder (more ∷ rest) p q ∙ fault_of_word talk_built.top more rest (both_held file folder) 3 r

one_walk : (file : List ℕ) → is_dashed file ≡ false → walk rules [] nothing_held (file ∷ []) ≡ at_place (file_held file) 2
one_walk file p = walked_word rules file nothing_held 1 p

two_walk : (file folder : List ℕ) → is_dashed file ≡ false → is_dashed folder ≡ false → walk rules [] nothing_held (file ∷ folder ∷ []) ≡ at_place (both_held file folder) 3
two_walk file folder p q = ap (λ w. walked rules [] w folder) (walked_word rules file nothing_held 1 p) ∙ walked_word rules folder (file_held file) 2 q

one_word : (file : List ℕ) → has_none (fault_from talk_built [] (at_place (file_held file) 2)) ≡ false
unfolding clap_on_literals
one_word file = refl

pub one_word_fault : (name file : List ℕ) → is_dashed file ≡ false → has_none (fault_of talk_app (name ∷ file ∷ [])) ≡ false
one_word_fault name file p =
    ap has_none (fault_is talk_built nothing_held (file ∷ []) [] (at_place (file_held file) 2) (one_fault file [] p ∙ no_fault_of_none _ _) (one_walk file p))
    ∙ one_word file

two_words : (file folder : List ℕ) → fault_from talk_built [] (at_place (both_held file folder) 3) ≡ []
unfolding clap_on_literals
two_words file folder = refl

pub two_words_taken : (name file folder : List ℕ) → is_dashed file ≡ false → is_dashed folder ≡ false → fault_of talk_app (name ∷ file ∷ folder ∷ []) ≡ []
two_words_taken name file folder p q =
    fault_is talk_built nothing_held (file ∷ folder ∷ []) [] (at_place (both_held file folder) 3) (two_fault file folder [] p q ∙ no_fault_of_none _ _) (two_walk file folder p q)
    ∙ two_words file folder

pub three_words_fault : (name file folder more : List ℕ) (words : List (List ℕ)) → is_dashed file ≡ false → is_dashed folder ≡ false → is_dashed more ≡ false
    → has_none (fault_of talk_app (name ∷ file ∷ folder ∷ more ∷ words)) ≡ false
three_words_fault name file folder more words p q r =
    ap has_none (fault_is talk_built nothing_held (file ∷ folder ∷ more ∷ words) (UnknownArgument ∷ []) _ (three_fault file folder more words p q r) refl)

two_matches : (name file folder : List ℕ) → is_dashed file ≡ false → is_dashed folder ≡ false
    → matches_of talk_app (name ∷ file ∷ folder ∷ []) ≡ finished rules (both_held file folder)
two_matches name file folder p q = ap (λ (w : Walk). finished rules w.held) (two_walk file folder p q)

file_first : (file folder : List ℕ) → first_of (codes "file") (finished rules (both_held file folder)) ≡ Some file
unfolding clap_on_literals
file_first file folder = refl

folder_second : (file folder : List ℕ) → first_of (codes "folder") (finished rules (both_held file folder)) ≡ Some folder
unfolding clap_on_literals
folder_second file folder = refl

pub file_is_first : (name file folder : List ℕ) → is_dashed file ≡ false → is_dashed folder ≡ false
    → first_of (codes "file") (matches_of talk_app (name ∷ file ∷ folder ∷ [])) ≡ Some file
file_is_first name file folder p q = ap (first_of (codes "file")) (two_matches name file folder p q) ∙ file_first file folder

pub folder_is_second : (name file folder : List ℕ) → is_dashed file ≡ false → is_dashed folder ≡ false
    → first_of (codes "folder") (matches_of talk_app (name ∷ file ∷ folder ∷ [])) ≡ Some folder
folder_is_second name file folder p q = ap (first_of (codes "folder")) (two_matches name file folder p q) ∙ folder_second file folder
