-- The words that give `drill`.
use Rattle.std.proofs.Common.{◌≡◌, ℕ, ◌≤◌, true, false, List, [], ◌∷◌, Option, Some, None, refl, ap, ◌∙◌, codes}
use Rattle.std.specs.List.{list_all}
use Rattle.std.specs.Option.{option_map_or}
use Rattle.clap.specs.Walk.{Held, Rule, finished, nothing_held, walk, walk_from, walked}
use Rattle.clap.specs.Words.{App, Row, built, fault_of, first_of, matches_of}
use Rattle.clap.specs.Faults.{walk_fault}
use Rattle.clap.proofs.OnLiterals.{clap_on_literals}
use Rattle.ks_words.specs.declared.words.Places.{Places}
use Rattle.ks_words.specs.declared.words.Words.TheVariants.{Drill, Usage}
use Rattle.ks_words.specs.Words.{IsInRange, drill, drill_app, drilled_with, is_dashed, is_open, names_option, number_between, number_said, read_by, rows_read, words_of}
use Rattle.ks_words.proofs.NameLemmas.{named_drill}
use Rattle.ks_words.proofs.NumberLemmas.{number_within}
use Rattle.ks_words.proofs.ReadLemmas.{read_some}
use Rattle.ks_words.proofs.ServeLemmas.{IsOther}
use Rattle.ks_words.proofs.WalkLemmas.{at_place, behind_word, fault_from, fault_is, fault_of_word, no_fault_of_none, walked_word}

-- the numbers that it is told

said_within : (least most : ℕ) (said : Option (List ℕ)) (number : ℕ) → number_said least most said ≡ Some number → (least ≤ number) × (number ≤ most)
said_within least most None number is = cc
said_within least most (Some word) number is = number_within least most word number is

drilled_within : (start count : Option ℕ) → ((n : ℕ) → start ≡ Some n → (0 ≤ n) × (n ≤ 1000000)) → ((n : ℕ) → count ≡ Some n → (1 ≤ n) × (n ≤ 2000))
    → IsInRange (drilled_with start count)
drilled_within None count low high = tt
drilled_within (Some start) None low high = tt
drilled_within (Some start) (Some count) low high =
    let within = high count refl in
    ((low start refl).1, within.0, within.1)

drill_range : (found : Option (List Row)) → IsInRange (option_map_or drill.meaning found Usage)
drill_range None = tt
drill_range (Some rows) =
    drilled_within (number_said 0 1000000 (first_of (codes "start") rows)) (number_said 1 2000 (first_of (codes "count") rows))
    (said_within 0 1000000 (first_of (codes "start") rows)) (said_within 1 2000 (first_of (codes "count") rows))

pub drill_in_range : (words : List (List ℕ)) → IsInRange (read_by drill words)
unfolding read_by
drill_in_range words = drill_range (rows_read drill_app words)

-- it gives none of the commands that have laws of their own

drilled_is_other : (start count : Option ℕ) (places : Places) → IsOther places (drilled_with start count)
drilled_is_other None count places = (λ e. cc, λ e. cc, λ e. cc)
drilled_is_other (Some start) None places = (λ e. cc, λ e. cc, λ e. cc)
drilled_is_other (Some start) (Some count) places = (λ e. cc, λ e. cc, λ e. cc)

pub drill_is_other : (found : Option (List Row)) (places : Places) → IsOther places (option_map_or drill.meaning found Usage)
drill_is_other None places = (λ e. cc, λ e. cc, λ e. cc)
drill_is_other (Some rows) places =
    drilled_is_other (number_said 0 1000000 (first_of (codes "start") rows)) (number_said 1 2000 (first_of (codes "count") rows)) places

-- what it means, by what is found

pub no_start : (rows : List Row) → number_said 0 1000000 (first_of (codes "start") rows) ≡ None → Usage ≡ drill.meaning rows
no_start rows p = rw p refl

pub no_count : (rows : List Row) (start : ℕ) → number_said 0 1000000 (first_of (codes "start") rows) ≡ Some start
    → number_said 1 2000 (first_of (codes "count") rows) ≡ None → Usage ≡ drill.meaning rows
no_count rows start p q = rw (p, q) refl

pub drilled_is : (rows : List Row) (start count : ℕ) → number_said 0 1000000 (first_of (codes "start") rows) ≡ Some start
    → number_said 1 2000 (first_of (codes "count") rows) ≡ Some count → Drill start count ≡ drill.meaning rows
drilled_is rows start count p q = rw (p, q) refl

-- its two words

abbrev drill_built : App
drill_built = built drill_app

abbrev drill_rules : List Rule
drill_rules = drill_built.top.rules

abbrev start_held : List ℕ → Held
start_held start = (behind_word drill_rules start nothing_held 1).held

abbrev drill_held : List ℕ → List ℕ → Held
drill_held start count = (behind_word drill_rules count (start_held start) 2).held

one_fault : (start : List ℕ) (rest : List (List ℕ)) → is_dashed start ≡ false
    → walk_fault drill_built.top [] (walk_from nothing_held) (start ∷ rest) ≡ walk_fault drill_built.top [] (at_place (start_held start) 2) rest
one_fault start rest p = fault_of_word drill_built.top start rest nothing_held 1 p

two_fault : (start count : List ℕ) (rest : List (List ℕ)) → is_dashed start ≡ false → is_dashed count ≡ false
    → walk_fault drill_built.top [] (walk_from nothing_held) (start ∷ count ∷ rest) ≡ walk_fault drill_built.top [] (at_place (drill_held start count) 3) rest
two_fault start count rest p q = one_fault start (count ∷ rest) p ∙ fault_of_word drill_built.top count rest (start_held start) 2 q

two_walk : (start count : List ℕ) → is_dashed start ≡ false → is_dashed count ≡ false
    → walk drill_rules [] nothing_held (start ∷ count ∷ []) ≡ at_place (drill_held start count) 3
two_walk start count p q = ap (λ w. walked drill_rules [] w count) (walked_word drill_rules start nothing_held 1 p) ∙ walked_word drill_rules count (start_held start) 2 q

two_words : (start count : List ℕ) → fault_from drill_built [] (at_place (drill_held start count) 3) ≡ []
unfolding clap_on_literals
two_words start count = refl

words_taken : (name start count : List ℕ) → is_dashed start ≡ false → is_dashed count ≡ false → fault_of drill_app (name ∷ start ∷ count ∷ []) ≡ []
words_taken name start count p q =
    fault_is drill_built nothing_held (start ∷ count ∷ []) [] (at_place (drill_held start count) 3) (two_fault start count [] p q ∙ no_fault_of_none _ _) (two_walk start count p q)
    ∙ two_words start count

start_found : (start count : List ℕ) → first_of (codes "start") (finished drill_rules (drill_held start count)) ≡ Some start
unfolding clap_on_literals
start_found start count = refl

count_found : (start count : List ℕ) → first_of (codes "count") (finished drill_rules (drill_held start count)) ≡ Some count
unfolding clap_on_literals
count_found start count = refl

drill_rows : (name start count : List ℕ) → is_dashed start ≡ false → is_dashed count ≡ false
    → matches_of drill_app (name ∷ start ∷ count ∷ []) ≡ finished drill_rules (drill_held start count)
drill_rows name start count p q = ap (λ w. finished drill_rules w.held) (two_walk start count p q)

open_two : (start count : List ℕ) → is_dashed start ≡ false → is_dashed count ≡ false → list_all (is_open drill_app.top.rules) (start ∷ count ∷ []) ≡ true
unfolding is_open names_option
open_two start count p q = rw (p, q) refl

drill_meaning : (rows : List Row) (start count : List ℕ) → first_of (codes "start") rows ≡ Some start → first_of (codes "count") rows ≡ Some count
    → drill.meaning rows ≡ drilled_with (number_between 0 1000000 start) (number_between 1 2000 count)
drill_meaning rows start count p q = rw (p, q) refl

drill_given : (name start count : List ℕ) → is_dashed start ≡ false → is_dashed count ≡ false
    → read_by drill (name ∷ start ∷ count ∷ []) ≡ drilled_with (number_between 0 1000000 start) (number_between 1 2000 count)
unfolding read_by
drill_given name start count p q =
    let rows = drill_rows name start count p q in
    ap (λ found. option_map_or drill.meaning found Usage)
    (read_some drill_app (name ∷ start ∷ count ∷ []) (open_two start count p q) (words_taken name start count p q))
    ∙ drill_meaning (matches_of drill_app (name ∷ start ∷ count ∷ [])) start count
    (ap (first_of (codes "start")) rows ∙ start_found start count) (ap (first_of (codes "count")) rows ∙ count_found start count)

pub drill_words_give : (start count : List ℕ) → is_dashed start ≡ false → is_dashed count ≡ false
    → words_of (codes "drill" ∷ start ∷ count ∷ []) ≡ drilled_with (number_between 0 1000000 start) (number_between 1 2000 count)
drill_words_give start count p q =
    named_drill (codes "drill" ∷ start ∷ count ∷ []) (codes "drill") false false false false false false true
    refl refl refl refl refl refl refl refl refl refl refl refl refl refl refl
    ∙ drill_given (codes "drill") start count p q
