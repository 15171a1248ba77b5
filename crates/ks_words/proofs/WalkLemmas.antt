-- How clap walks over words that do not begin with `-`, where the command has no subcommand.
use Rattle.std.proofs.Common.{◌≡◌, ℕ, false, if◌then◌else◌, List, [], ◌∷◌, None, refl, ap, ap₂, ◌∙◌}
use Rattle.std.specs.Prelude.{is_some}
use Rattle.std.specs.Option.{option_map_or}
use Rattle.std.specs.Str.{bytes_eq}
use Rattle.clap.specs.Lexer.{long_of, short_of}
use Rattle.clap.specs.Walk.{Held, Rule, Step, Walk, after_step, arg_by_index, finished, idle, long_or_other, settled, short_or_plain, to_positional, trailing, value, walk, walk_from, walked, word_met}
use Rattle.clap.specs.Simple.{App, Shape, entered, names_of}
use Rattle.clap.specs.Kinds.{Kinds, or_else}
use Rattle.clap.specs.Faults.{built_fault, bundle_fault, check_fault, defaults_fault, entered_fault, flag_word_fault, settle_fault, step_fault, turn_fault, walk_fault, word_fault}
use Rattle.ks_words.specs.Words.{is_dashed}

not_dashes : (word : List ℕ) → is_dashed word ≡ false → bytes_eq word (45 ∷ 45 ∷ []) ≡ false
not_dashes [] p = refl
not_dashes (w ∷ word) p = rw p refl

not_long : (word : List ℕ) → is_dashed word ≡ false → long_of word ≡ None
not_long [] p = refl
not_long (w ∷ word) p = rw p refl

not_short : (word : List ℕ) → is_dashed word ≡ false → short_of word ≡ None
not_short [] p = refl
not_short (w ∷ word) p = rw p refl

-- where the walk stands before a word that may go to the positional at this place
abbrev pub at_place : Held → ℕ → Walk
at_place held place = record { held = held; waiting = idle; position = place; is_trailing = false; stopped = None }

word_is_value : (rules : List Rule) (word : List ℕ) (held : Held) (place : ℕ) → is_dashed word ≡ false → word_met rules [] false idle place word held ≡ (held, value)
word_is_value rules word held place p =
    ap (λ b. if b then (held, trailing place) else long_or_other rules idle word (long_of word) held) (not_dashes word p)
    ∙ ap (λ found. long_or_other rules idle word found held) (not_long word p)
    ∙ ap (λ flags. short_or_plain rules idle word flags held) (not_short word p)

word_passes : (shape : Shape) (word : List ℕ) (held : Held) → is_dashed word ≡ false → word_fault shape [] false idle word held ≡ []
word_passes shape word held p =
    ap (λ b. if b then [] else flag_word_fault shape.rules shape.args_override_self (long_of word) word held) (not_dashes word p)
    ∙ ap (λ found. flag_word_fault shape.rules shape.args_override_self found word held) (not_long word p)
    ∙ ap (λ found. option_map_or (λ flags. bundle_fault shape.rules shape.args_override_self flags held) found []) (not_short word p)

-- the walk behind such a word
abbrev pub behind_word : List Rule → List ℕ → Held → ℕ → Walk
behind_word rules word held place = to_positional rules (arg_by_index rules place) word (at_place held place) held

pub walked_word : (rules : List Rule) (word : List ℕ) (held : Held) (place : ℕ) → is_dashed word ≡ false
    → walked rules [] (at_place held place) word ≡ behind_word rules word held place
unfolding walked
walked_word rules word held place p =
    ap (λ (met : Held × Step). after_step rules word (at_place held place) met.0 met.1) (word_is_value rules word held place p)

turn_of_word : (shape : Shape) (word : List ℕ) (held : Held) (place : ℕ) → is_dashed word ≡ false
    → turn_fault shape [] (at_place held place) word ≡ step_fault shape place held value
turn_of_word shape word held place p =
    ap₂ (λ (kinds : Kinds) (met : Held × Step). or_else kinds (step_fault shape place met.0 met.1)) (word_passes shape word held p) (word_is_value shape.rules word held place p)

pub fault_of_word : (shape : Shape) (word : List ℕ) (rest : List (List ℕ)) (held : Held) (place : ℕ) → is_dashed word ≡ false
    → walk_fault shape [] (at_place held place) (word ∷ rest)
    ≡ or_else (step_fault shape place held value) (walk_fault shape [] (behind_word shape.rules word held place) rest)
unfolding walk_fault
fault_of_word shape word rest held place p =
    ap₂ (λ (kinds : Kinds) (w : Walk). or_else kinds (walk_fault shape [] w rest)) (turn_of_word shape word held place p) (walked_word shape.rules word held place p)

pub no_fault_of_none : (shape : Shape) (w : Walk) → walk_fault shape [] w [] ≡ []
unfolding walk_fault
no_fault_of_none shape w = refl

-- the faults of a parse, by those of its walk and where that ends
abbrev pub fault_from : App → Kinds → Walk → Kinds
fault_from app kinds end =
    or_else kinds
    (or_else (entered_fault app end.stopped)
    (or_else (settle_fault app.top.rules app.top.args_override_self end.held)
    (or_else (defaults_fault (settled app.top.rules end.held).rows app.top.rules)
    (check_fault app.top (finished app.top.rules end.held) (is_some (entered app end.stopped))))))

pub fault_is : (app : App) (held : Held) (words : List (List ℕ)) (kinds : Kinds) (end : Walk) → walk_fault app.top (names_of app) (walk_from held) words ≡ kinds
    → walk app.top.rules (names_of app) held words ≡ end → built_fault app held words ≡ fault_from app kinds end
fault_is app held words kinds end e g = ap₂ (fault_from app) e g
