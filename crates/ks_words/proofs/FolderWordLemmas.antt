-- What clap makes of the words of the commands on a folder of keys.
use Rattle.std.proofs.Common.{◌≡◌, ℕ, false, List, [], ◌∷◌, Some, None, refl, ap, ◌∙◌, codes}
use Rattle.clap.specs.Walk.{Held, Rule, Walk, finished, nothing_held, walk, walk_from}
use Rattle.clap.specs.Words.{App, built, fault_of, first_of, matches_of}
use Rattle.clap.specs.Faults.{walk_fault}
use Rattle.clap.specs.declared.error.kind.ErrorKind.TheVariants.{UnknownArgument}
use Rattle.clap.proofs.OnLiterals.{clap_on_literals}
use Rattle.ks_words.specs.Words.{has_none, is_dashed, rotate_app, setup_app}
use Rattle.ks_words.proofs.WalkLemmas.{at_place, behind_word, fault_from, fault_is, fault_of_word, no_fault_of_none, walked_word}

-- `setup` takes one word

abbrev setup_built : App
setup_built = built setup_app

abbrev setup_rules : List Rule
setup_rules = setup_built.top.rules

abbrev setup_held : List ℕ → Held
setup_held folder = (behind_word setup_rules folder nothing_held 1).held

pub no_folder_fault : (name : List ℕ) → has_none (fault_of setup_app (name ∷ [])) ≡ false
unfolding clap_on_literals
no_folder_fault name = refl

one_fault : (folder : List ℕ) (rest : List (List ℕ)) → is_dashed folder ≡ false
    → walk_fault setup_built.top [] (walk_from nothing_held) (folder ∷ rest) ≡ walk_fault setup_built.top [] (at_place (setup_held folder) 2) rest
one_fault folder rest p = fault_of_word setup_built.top folder rest nothing_held 1 p

two_fault : (folder more : List ℕ) (rest : List (List ℕ)) → is_dashed folder ≡ false → is_dashed more ≡ false
    → walk_fault setup_built.top [] (walk_from nothing_held) (folder ∷ more ∷ rest) ≡ UnknownArgument ∷ []
two_fault folder more rest p q = one_fault folder (more ∷ rest) p ∙ fault_of_word setup_built.top more rest (setup_held folder) 2 q

one_walk : (folder : List ℕ) → is_dashed folder ≡ false → walk setup_rules [] nothing_held (folder ∷ []) ≡ at_place (setup_held folder) 2
one_walk folder p = walked_word setup_rules folder nothing_held 1 p

one_word : (folder : List ℕ) → fault_from setup_built [] (at_place (setup_held folder) 2) ≡ []
unfolding clap_on_literals
one_word folder = refl

pub folder_taken : (name folder : List ℕ) → is_dashed folder ≡ false → fault_of setup_app (name ∷ folder ∷ []) ≡ []
folder_taken name folder p =
    fault_is setup_built nothing_held (folder ∷ []) [] (at_place (setup_held folder) 2) (one_fault folder [] p ∙ no_fault_of_none _ _) (one_walk folder p)
    ∙ one_word folder

pub two_folders_fault : (name folder more : List ℕ) (words : List (List ℕ)) → is_dashed folder ≡ false → is_dashed more ≡ false
    → has_none (fault_of setup_app (name ∷ folder ∷ more ∷ words)) ≡ false
two_folders_fault name folder more words p q =
    ap has_none (fault_is setup_built nothing_held (folder ∷ more ∷ words) (UnknownArgument ∷ []) _ (two_fault folder more words p q) refl)

folder_first : (folder : List ℕ) → first_of (codes "folder") (finished setup_rules (setup_held folder)) ≡ Some folder
unfolding clap_on_literals
folder_first folder = refl

pub folder_is_first : (name folder : List ℕ) → is_dashed folder ≡ false → first_of (codes "folder") (matches_of setup_app (name ∷ folder ∷ [])) ≡ Some folder
folder_is_first name folder p =
    ap (λ (w : Walk). first_of (codes "folder") (finished setup_rules w.held)) (one_walk folder p) ∙ folder_first folder

-- `rotate` takes one word and an option

abbrev rotate_built : App
rotate_built = built rotate_app

abbrev rotate_rules : List Rule
rotate_rules = rotate_built.top.rules

abbrev rotate_held : List ℕ → Held
rotate_held folder = (behind_word rotate_rules folder nothing_held 1).held

rotate_fault : (folder : List ℕ) (rest : List (List ℕ)) → is_dashed folder ≡ false
    → walk_fault rotate_built.top [] (walk_from nothing_held) (folder ∷ rest) ≡ walk_fault rotate_built.top [] (at_place (rotate_held folder) 2) rest
rotate_fault folder rest p = fault_of_word rotate_built.top folder rest nothing_held 1 p

rotate_walk : (folder : List ℕ) → is_dashed folder ≡ false → walk rotate_rules [] nothing_held (folder ∷ []) ≡ at_place (rotate_held folder) 2
rotate_walk folder p = walked_word rotate_rules folder nothing_held 1 p

rotate_word : (folder : List ℕ) → fault_from rotate_built [] (at_place (rotate_held folder) 2) ≡ []
unfolding clap_on_literals
rotate_word folder = refl

pub folder_rotated : (name folder : List ℕ) → is_dashed folder ≡ false → fault_of rotate_app (name ∷ folder ∷ []) ≡ []
folder_rotated name folder p =
    fault_is rotate_built nothing_held (folder ∷ []) [] (at_place (rotate_held folder) 2) (rotate_fault folder [] p ∙ no_fault_of_none _ _) (rotate_walk folder p)
    ∙ rotate_word folder

rotate_first : (folder : List ℕ) → first_of (codes "folder") (finished rotate_rules (rotate_held folder)) ≡ Some folder
unfolding clap_on_literals
rotate_first folder = refl

no_max_first : (folder : List ℕ) → first_of (codes "max") (finished rotate_rules (rotate_held folder)) ≡ None
unfolding clap_on_literals
no_max_first folder = refl

pub folder_is_rotated : (name folder : List ℕ) → is_dashed folder ≡ false → first_of (codes "folder") (matches_of rotate_app (name ∷ folder ∷ [])) ≡ Some folder
folder_is_rotated name folder p =
    ap (λ (w : Walk). first_of (codes "folder") (finished rotate_rules w.held)) (rotate_walk folder p) ∙ rotate_first folder

pub no_max_is_said : (name folder : List ℕ) → is_dashed folder ≡ false → first_of (codes "max") (matches_of rotate_app (name ∷ folder ∷ [])) ≡ None
no_max_is_said name folder p =
    ap (λ (w : Walk). first_of (codes "max") (finished rotate_rules w.held)) (rotate_walk folder p) ∙ no_max_first folder
