-- The words that give `serve`.
use Rattle.std.proofs.Common.{◌≡◌, ℕ, ◌≤◌, arith, true, false, List, [], ◌∷◌, Option, Some, None, refl, ap, subst, ◌∙◌, codes}
use Rattle.std.specs.List.{list_all}
use Rattle.std.specs.Option.{option_map_or}
use Rattle.clap.specs.Words.{Row, first_of, matches_of}
use Rattle.ks_words.specs.declared.words.Places.{Places}
use Rattle.ks_words.specs.declared.words.Words.{Words}
use Rattle.ks_words.specs.declared.words.Words.TheVariants.{Check, Talk, Serve, Setup, Usage}
use Rattle.ks_words.specs.Words.{IsInRange, connections_said, is_dashed, is_open, names_option, read_by, rows_read, serve, serve_app, serve_places, served_with, words_of, workers_said}
use Rattle.ks_words.proofs.NameLemmas.{named_serve}
use Rattle.ks_words.proofs.NumberLemmas.{number_within}
use Rattle.ks_words.proofs.ReadLemmas.{read_some}
use Rattle.ks_words.proofs.ServeWordLemmas.{Found, words_found, words_served}

-- the numbers that it is told

workers_within : (said : Option (List ℕ)) (workers : ℕ) → workers_said said ≡ Some workers → (1 ≤ workers) × (workers ≤ 32)
workers_within None workers is =
    let four : 4 ≡ workers = cc in
    subst (λ n. (1 ≤ n) × (n ≤ 32)) four (omega arith, omega arith)
workers_within (Some word) workers is = number_within 1 32 word workers is

connections_within : (said : Option (List ℕ)) (connections : ℕ) → connections_said said ≡ Some connections → connections ≤ 1000000
connections_within None connections is =
    let zero : 0 ≡ connections = cc in
    subst (λ n. n ≤ 1000000) zero (omega arith)
connections_within (Some word) connections is = (number_within 0 1000000 word connections is).1

served_within : (file folder address log : Option (List ℕ)) (workers connections : Option ℕ) → ((n : ℕ) → workers ≡ Some n → (1 ≤ n) × (n ≤ 32))
    → ((n : ℕ) → connections ≡ Some n → n ≤ 1000000) → IsInRange (served_with (serve_places file folder address log) workers connections)
served_within file folder address log None connections from to = tt
served_within file folder address log (Some workers) None from to = tt
served_within file folder address log (Some workers) (Some connections) from to =
    let within = from workers refl in
    (within.0, within.1, to connections refl)

serve_range : (found : Option (List Row)) → IsInRange (option_map_or serve.meaning found Usage)
serve_range None = tt
serve_range (Some rows) =
    served_within (first_of (codes "file") rows) (first_of (codes "folder") rows) (first_of (codes "address") rows) (first_of (codes "log") rows)
    (workers_said (first_of (codes "workers") rows)) (connections_said (first_of (codes "connections") rows))
    (workers_within (first_of (codes "workers") rows)) (connections_within (first_of (codes "connections") rows))

pub serve_in_range : (words : List (List ℕ)) → IsInRange (read_by serve words)
unfolding read_by
serve_in_range words = serve_range (rows_read serve_app words)

-- it gives none of the commands that have laws of their own
abbrev pub IsOther : Places → Words → Type 0
IsOther places words = (words ≡ Check → ⊥) × (words ≡ Talk places → ⊥) × (words ≡ Setup places → ⊥)

served_is_other : (given : ℕ → Places) (workers connections : Option ℕ) (places : Places) → IsOther places (served_with given workers connections)
served_is_other given None connections places = (λ e. cc, λ e. cc, λ e. cc)
served_is_other given (Some workers) None places = (λ e. cc, λ e. cc, λ e. cc)
served_is_other given (Some workers) (Some connections) places = (λ e. cc, λ e. cc, λ e. cc)

pub serve_is_other : (found : Option (List Row)) (places : Places) → IsOther places (option_map_or serve.meaning found Usage)
serve_is_other None places = (λ e. cc, λ e. cc, λ e. cc)
serve_is_other (Some rows) places =
    served_is_other (serve_places (first_of (codes "file") rows) (first_of (codes "folder") rows) (first_of (codes "address") rows) (first_of (codes "log") rows))
    (workers_said (first_of (codes "workers") rows)) (connections_said (first_of (codes "connections") rows)) places

-- what it means, by what is found

pub no_workers : (rows : List Row) → workers_said (first_of (codes "workers") rows) ≡ None → Usage ≡ serve.meaning rows
no_workers rows p = rw p refl

pub no_connections : (rows : List Row) (workers : ℕ) → workers_said (first_of (codes "workers") rows) ≡ Some workers
    → connections_said (first_of (codes "connections") rows) ≡ None → Usage ≡ serve.meaning rows
no_connections rows workers p q = rw (p, q) refl

pub served_is : (rows : List Row) (workers connections : ℕ) → workers_said (first_of (codes "workers") rows) ≡ Some workers
    → connections_said (first_of (codes "connections") rows) ≡ Some connections
    → Serve (serve_places (first_of (codes "file") rows) (first_of (codes "folder") rows) (first_of (codes "address") rows) (first_of (codes "log") rows) workers) connections
    ≡ serve.meaning rows
served_is rows workers connections p q = rw (p, q) refl

pub same_places : (file folder address log read_file read_folder read_address read_log : Option (List ℕ)) (workers : ℕ)
    → file ≡ read_file → folder ≡ read_folder → address ≡ read_address → log ≡ read_log
    → serve_places file folder address log workers ≡ serve_places read_file read_folder read_address read_log workers
same_places file folder address log read_file read_folder read_address read_log workers p q r s = rw (p, q, r, s) refl

-- the three words alone

open_three : (file folder address : List ℕ) → is_dashed file ≡ false → is_dashed folder ≡ false → is_dashed address ≡ false
    → list_all (is_open serve_app.top.rules) (file ∷ folder ∷ address ∷ []) ≡ true
unfolding is_open names_option
open_three file folder address p q r = rw (p, q, r) refl

serve_meaning : (rows : List Row) (file folder address : List ℕ) → Found rows file folder address
    → serve.meaning rows ≡ Serve (serve_places (Some file) (Some folder) (Some address) None 4) 0
serve_meaning rows file folder address found =
    rw (found.file_found, found.folder_found, found.address_found, found.workers_found, found.connections_found, found.log_found) refl

serve_given : (name file folder address : List ℕ) → is_dashed file ≡ false → is_dashed folder ≡ false → is_dashed address ≡ false
    → read_by serve (name ∷ file ∷ folder ∷ address ∷ []) ≡ Serve (serve_places (Some file) (Some folder) (Some address) None 4) 0
unfolding read_by
serve_given name file folder address p q r =
    ap (λ found. option_map_or serve.meaning found Usage)
    (read_some serve_app (name ∷ file ∷ folder ∷ address ∷ []) (open_three file folder address p q r) (words_served name file folder address p q r))
    ∙ serve_meaning (matches_of serve_app (name ∷ file ∷ folder ∷ address ∷ [])) file folder address (words_found name file folder address p q r)

pub serve_words_give : (file folder address : List ℕ) → is_dashed file ≡ false → is_dashed folder ≡ false → is_dashed address ≡ false
    → words_of (codes "serve" ∷ file ∷ folder ∷ address ∷ []) ≡ Serve (serve_places (Some file) (Some folder) (Some address) None 4) 0
serve_words_give file folder address p q r =
    named_serve (codes "serve" ∷ file ∷ folder ∷ address ∷ []) (codes "serve") false false false false true refl refl refl refl refl refl refl refl refl refl refl
    ∙ serve_given (codes "serve") file folder address p q r
