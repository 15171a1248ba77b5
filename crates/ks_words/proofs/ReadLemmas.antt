-- What a command of clap finds in words.
use Rattle.std.proofs.Common.{◌≡◌, ℕ, Bool, true, false, ◌&&◌, if◌then◌else◌, List, [], ◌∷◌, drop, Option, Some, None, refl, ap, sym, ◌∙◌, inl, inr, ◌⊎◌}
use Rattle.std.specs.Borrow.{Bor}
use Rattle.std.specs.Prelude.{◌≢◌, map, option_map}
use Rattle.std.proofs.lemmas.List.{drop-map}
use Rattle.std.proofs.lemmas.List.Folds.{list_all-map}
use Rattle.std.proofs.lemmas.Bool.{and_parts}
use Rattle.std.specs.List.{list_all}
use Rattle.clap.specs.Kinds.{IsAmong, Kinds}
use Rattle.clap.specs.Faults.{is_free_app}
use Rattle.clap.specs.Words.{App, Row, built, fault_of, is_simple, is_simple_and_free, matches_of}
use Rattle.clap.specs.declared.error.kind.ErrorKind.{ErrorKind}
use Rattle.clap.specs.declared.error.kind.ErrorKind.TheVariants as kind
use Rattle.std.specs.Option.{option_map_or}
use Rattle.ks_words.specs.declared.words.Words.TheVariants.{Usage}
use Rattle.ks_words.specs.Words.{Form, has_none, is_open, read_by, rows_read}

not_both : (a : Bool) (rows : List Row) → (if a && false then Some rows else None) ≡ None
not_both true rows = refl
not_both false rows = refl

pub read_none : (app : App) (words : List (List ℕ)) → list_all (is_open app.top.rules) (drop 1 words) ≡ false → rows_read app words ≡ None
unfolding rows_read
read_none app words closed = rw closed refl

pub read_fault : (app : App) (words : List (List ℕ)) → has_none (fault_of app words) ≡ false → rows_read app words ≡ None
unfolding rows_read
read_fault app words fault = rw fault (not_both (list_all (is_open app.top.rules) (drop 1 words)) (matches_of app words))

pub read_some : (app : App) (words : List (List ℕ)) → list_all (is_open app.top.rules) (drop 1 words) ≡ true → fault_of app words ≡ []
    → rows_read app words ≡ Some (matches_of app words)
unfolding rows_read
read_some app words all_open faultless = rw (all_open, faultless) refl

-- an error that is not want of memory has a cause in the words
has_fault : (kinds : Kinds) (k : ErrorKind) → k ≢ kind.OutOfMemory → (k ≡ kind.OutOfMemory) ⊎ IsAmong k kinds → has_none kinds ≡ false
has_fault [] k other h = elim h [ inl e ↦ absurd (other e) | inr never ↦ absurd never ]
has_fault (x ∷ xs) k other h = refl

pub read_refused : (app : App) (words : List (List ℕ)) (k : ErrorKind) → k ≢ kind.OutOfMemory → (k ≡ kind.OutOfMemory) ⊎ IsAmong k (fault_of app words)
    → rows_read app words ≡ None
read_refused app words k other h = read_fault app words (has_fault (fault_of app words) k other h)

pub read_taken : {X : Type 0} (app : App) (words : List (List ℕ)) (rows : List Row) → is_simple_and_free app ≡ true
    → list_all (is_open app.top.rules) (drop 1 words) ≡ true → (is_simple app ≡ true → (rows ≡ matches_of app words) × X) → fault_of app words ≡ []
    → Some rows ≡ rows_read app words
read_taken app words rows free all_open found faultless =
    ap Some (found (and_parts (is_simple app) (is_free_app (built app)) free).0).0 ∙ sym (read_some app words all_open faultless)

-- the words, as they were lent
open_lent : (app : App) (words : List (Bor (List ℕ))) → list_all (is_open app.top.rules) (drop 1 (map (λ word. word.now) words))
    ≡ list_all (λ word. is_open app.top.rules word.now) (drop 1 words)
open_lent app words = ap (list_all (is_open app.top.rules)) (drop-map (λ word. word.now) 1 words) ∙ list_all-map (is_open app.top.rules) (λ word. word.now) (drop 1 words)

pub closed_words : (app : App) (words : List (Bor (List ℕ))) (b : Bool) → b ≡ list_all (λ word. is_open app.top.rules word.now) (drop 1 words) → b ≡ false
    → None ≡ rows_read app (map (λ word. word.now) words)
closed_words app words b is h = sym (read_none app (map (λ word. word.now) words) (open_lent app words ∙ sym is ∙ h))

pub open_words : (app : App) (words : List (Bor (List ℕ))) (b : Bool) → b ≡ list_all (λ word. is_open app.top.rules word.now) (drop 1 words) → b ≡ true
    → list_all (is_open app.top.rules) (drop 1 (map (λ word. word.now) words)) ≡ true
open_words app words b is h = open_lent app words ∙ sym is ∙ h

pub found_some : {X : Type 0} (rows_in : X → List Row) (found : Option X) (x : X) (read : Option (List Row)) → found ≡ Some x → option_map rows_in found ≡ read → Some (rows_in x) ≡ read
found_some rows_in found x read is e = ap (option_map rows_in) (sym is) ∙ e

pub found_none : {X : Type 0} (rows_in : X → List Row) (found : Option X) (read : Option (List Row)) → found ≡ None → option_map rows_in found ≡ read → None ≡ read
found_none rows_in found read is e = ap (option_map rows_in) (sym is) ∙ e

-- what a form means by what its command found
pub read_by_some : (form : Form) (app : App) (words : List (List ℕ)) (rows : List Row) → app ≡ form.app → Some rows ≡ rows_read app words → form.meaning rows ≡ read_by form words
unfolding read_by
read_by_some form app words rows is found = ap (λ read. option_map_or form.meaning read Usage) (found ∙ ap (λ a. rows_read a words) is)

pub read_by_none : (form : Form) (app : App) (words : List (List ℕ)) → app ≡ form.app → None ≡ rows_read app words → Usage ≡ read_by form words
unfolding read_by
read_by_none form app words is found = ap (λ read. option_map_or form.meaning read Usage) (found ∙ ap (λ a. rows_read a words) is)
