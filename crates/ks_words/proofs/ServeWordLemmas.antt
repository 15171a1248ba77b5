-- What clap makes of the words of `serve`, which takes three words and three options.
use Rattle.std.proofs.Common.{◌≡◌, ℕ, false, List, [], ◌∷◌, Some, None, refl, ap, ◌∙◌, codes}
use Rattle.clap.specs.Walk.{Held, Rule, Walk, finished, nothing_held, walk, walk_from, walked}
use Rattle.clap.specs.Words.{App, Row, built, fault_of, first_of, matches_of}
use Rattle.clap.specs.Faults.{walk_fault}
use Rattle.clap.proofs.OnLiterals.{clap_on_literals}
use Rattle.ks_words.specs.Words.{is_dashed, serve_app}
use Rattle.ks_words.proofs.WalkLemmas.{at_place, behind_word, fault_from, fault_is, fault_of_word, no_fault_of_none, walked_word}

abbrev serve_built : App
serve_built = built serve_app

abbrev rules : List Rule
rules = serve_built.top.rules

abbrev file_held : List ℕ → Held
file_held file = (behind_word rules file nothing_held 1).held

abbrev folder_held : List ℕ → List ℕ → Held
folder_held file folder = (behind_word rules folder (file_held file) 2).held

abbrev address_held : List ℕ → List ℕ → List ℕ → Held
address_held file folder address = (behind_word rules address (folder_held file folder) 3).held

one_fault : (file : List ℕ) (rest : List (List ℕ)) → is_dashed file ≡ false
    → walk_fault serve_built.top [] (walk_from nothing_held) (file ∷ rest) ≡ walk_fault serve_built.top [] (at_place (file_held file) 2) rest
one_fault file rest p = fault_of_word serve_built.top file rest nothing_held 1 p

two_fault : (file folder : List ℕ) (rest : List (List ℕ)) → is_dashed file ≡ false → is_dashed folder ≡ false
    → walk_fault serve_built.top [] (walk_from nothing_held) (file ∷ folder ∷ rest) ≡ walk_fault serve_built.top [] (at_place (folder_held file folder) 3) rest
two_fault file folder rest p q = one_fault file (folder ∷ rest) p ∙ fault_of_word serve_built.top folder rest (file_held file) 2 q

three_fault : (file folder address : List ℕ) (rest : List (List ℕ)) → is_dashed file ≡ false → is_dashed folder ≡ false → is_dashed address ≡ false
    → walk_fault serve_built.top [] (walk_from nothing_held) (file ∷ folder ∷ address ∷ rest)
    ≡ walk_fault serve_built.top [] (at_place (address_held file folder address) 4) rest
three_fault file folder address rest p q r =
    two_fault file folder (address ∷ rest) p q ∙ fault_of_word serve_built.top address rest (folder_held file folder) 3 r

two_walk : (file folder : List ℕ) → is_dashed file ≡ false → is_dashed folder ≡ false
    → walk rules [] nothing_held (file ∷ folder ∷ []) ≡ at_place (folder_held file folder) 3
two_walk file folder p q = ap (λ w. walked rules [] w folder) (walked_word rules file nothing_held 1 p) ∙ walked_word rules folder (file_held file) 2 q

three_walk : (file folder address : List ℕ) → is_dashed file ≡ false → is_dashed folder ≡ false → is_dashed address ≡ false
    → walk rules [] nothing_held (file ∷ folder ∷ address ∷ []) ≡ at_place (address_held file folder address) 4
three_walk file folder address p q r =
    ap (λ w. walked rules [] w address) (two_walk file folder p q) ∙ walked_word rules address (folder_held file folder) 3 r

three_words : (file folder address : List ℕ) → fault_from serve_built [] (at_place (address_held file folder address) 4) ≡ []
unfolding clap_on_literals
three_words file folder address = refl

pub words_served : (name file folder address : List ℕ) → is_dashed file ≡ false → is_dashed folder ≡ false → is_dashed address ≡ false
    → fault_of serve_app (name ∷ file ∷ folder ∷ address ∷ []) ≡ []
words_served name file folder address p q r =
    fault_is serve_built nothing_held (file ∷ folder ∷ address ∷ []) [] (at_place (address_held file folder address) 4)
    (three_fault file folder address [] p q r ∙ no_fault_of_none _ _) (three_walk file folder address p q r)
    ∙ three_words file folder address

-- what is found: the three words, and none of the options
pub record Found (rows : List Row) (file folder address : List ℕ) : Type 0 where
  pub file_found : first_of (codes "file") rows ≡ Some file
  pub folder_found : first_of (codes "folder") rows ≡ Some folder
  pub address_found : first_of (codes "address") rows ≡ Some address
  pub workers_found : first_of (codes "workers") rows ≡ None
  pub connections_found : first_of (codes "connections") rows ≡ None
  pub log_found : first_of (codes "log") rows ≡ None

finds : (file folder address : List ℕ) → Found (finished rules (address_held file folder address)) file folder address
unfolding clap_on_literals
finds file folder address = record { file_found = refl; folder_found = refl; address_found = refl; workers_found = refl; connections_found = refl; log_found = refl }

served_rows : (name file folder address : List ℕ) → is_dashed file ≡ false → is_dashed folder ≡ false → is_dashed address ≡ false
    → matches_of serve_app (name ∷ file ∷ folder ∷ address ∷ []) ≡ finished rules (address_held file folder address)
served_rows name file folder address p q r = ap (λ (w : Walk). finished rules w.held) (three_walk file folder address p q r)

pub words_found : (name file folder address : List ℕ) → is_dashed file ≡ false → is_dashed folder ≡ false → is_dashed address ≡ false
    → Found (matches_of serve_app (name ∷ file ∷ folder ∷ address ∷ [])) file folder address
words_found name file folder address p q r =
    let rows = served_rows name file folder address p q r in
    let found = finds file folder address in
    record {
      file_found = ap (first_of (codes "file")) rows ∙ found.file_found;
      folder_found = ap (first_of (codes "folder")) rows ∙ found.folder_found;
      address_found = ap (first_of (codes "address")) rows ∙ found.address_found;
      workers_found = ap (first_of (codes "workers")) rows ∙ found.workers_found;
      connections_found = ap (first_of (codes "connections")) rows ∙ found.connections_found;
      log_found = ap (first_of (codes "log")) rows ∙ found.log_found;
    }
