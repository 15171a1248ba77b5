-- The commands of the program, and the words that give them.
use Rattle.std.specs.Prelude.{ℕ, ◌≤◌, Bool, true, false, not, ◌&&◌, ◌||◌, ◌==◌, nat_lt, nat_le, List, [], ◌∷◌, ◌++◌, length, drop, find, Option, Some, None, option_and_then, if◌then◌else◌, codes}
use Rattle.std.specs.List.{list_all, list_any}
use Rattle.std.specs.Option.{option_map_or}
use Rattle.std.specs.Char.{is_digit}
use Rattle.std.specs.Str.{bytes_eq}
use Rattle.std.specs.Str.Parse.{digits_value, without_leading_plus}
use Rattle.clap.specs.Kinds.{Kinds}
use Rattle.clap.specs.Words.{App, Row, Rule, fault_of, first_of, matches_of, new_app, new_rule, with_rule}
use Rattle.ks_base.specs.declared.limits.TheConstants.{KEYS, FEWEST_KEYS, DEFAULT_KEYS, WORKERS, DEFAULT_WORKERS, CONNECTIONS, ROUNDS, DEFAULT_ROUNDS, DRILL_START, DRILL_MEMBERS}
use Rattle.ks_words.specs.declared.words.Places.{Places}
use Rattle.ks_words.specs.declared.words.Words.{Words}
use Rattle.ks_words.specs.declared.words.Words.TheVariants.{Check, Talk, Serve, Setup, Rotate, Password, Drill, Usage}

-- the word begins with `-`
abbrev pub is_dashed : List ℕ → Bool
is_dashed [] = false
is_dashed (b ∷ word) = b == 45

-- what follows the front in a text that begins with it
unfoldable pub behind : List ℕ → List ℕ → Option (List ℕ)
behind [] text = Some text
behind (b ∷ front) [] = None
behind (b ∷ front) (c ∷ text) = if c == b then behind front text else None

-- nothing follows, or what follows begins with `=`
abbrev pub is_value : Option (List ℕ) → Bool
is_value (Some []) = true
is_value (Some (b ∷ rest)) = b == 61
is_value None = false

-- the word is `--name` or begins with `--name=`, for the argument's long name
unfoldable pub names_option : List ℕ → Rule → Bool
names_option word rule = is_value (option_and_then (λ name. behind (codes "--" ++ name) word) rule.long)

-- the word does not begin with `-`, or names an option of the command
unfoldable pub is_open : List Rule → List ℕ → Bool
is_open rules word = not (is_dashed word) || list_any (names_option word) rules

-- no step of the parse fails
abbrev pub has_none : Kinds → Bool
has_none [] = true
has_none (kind ∷ kinds) = false

-- what a command of clap finds in the words, the first of which is its name, where it takes them
unfoldable pub rows_read : App → List (List ℕ) → Option (List Row)
rows_read app words =
    if list_all (is_open app.top.rules) (drop 1 words) && has_none (fault_of app words)
    then Some (matches_of app words) else None

-- a command of the program: its command of clap, and what is meant by what that finds
pub record Form : Type 0 where
  pub app : App
  pub meaning : List Row → Words

-- a word that has to be there
abbrev pub required_word : List ℕ → Rule
required_word id = record (new_rule id) { required = true }

abbrev pub check_app : App
check_app = new_app (codes "check")

abbrev pub check : Form
check = record { app = check_app; meaning = λ rows. Check }

abbrev pub talk_app : App
talk_app = with_rule (with_rule (new_app (codes "talk")) (required_word (codes "file"))) (required_word (codes "folder"))

-- what one connection is served with, by one desk
abbrev pub talk_places : Option (List ℕ) → Option (List ℕ) → Places
talk_places file folder = record { file = file; folder = folder; address = None; workers = 1; log = None }

abbrev pub talk : Form
talk = record {
  app = talk_app;
  meaning = λ rows. Talk (talk_places (first_of (codes "file") rows) (first_of (codes "folder") rows));
}

abbrev pub setup_app : App
setup_app = with_rule (new_app (codes "setup")) (required_word (codes "folder"))

-- what a command works on that makes or rotates the keys of a folder
abbrev pub folder_places : Option (List ℕ) → Places
folder_places folder = record { file = None; folder = folder; address = None; workers = 1; log = None }

-- the command that sets a folder up
abbrev pub setup : Form
setup = record { app = setup_app; meaning = λ rows. Setup (folder_places (first_of (codes "folder") rows)) }

-- one digit or more, and nothing else
abbrev pub is_numeral : List ℕ → Bool
is_numeral digits = nat_lt 0 (length digits) && list_all (λ c. is_digit c 10) digits

abbrev pub digits_between : ℕ → ℕ → List ℕ → Option ℕ
digits_between least most digits =
    if is_numeral digits && (nat_le least (digits_value 10 digits) && nat_le (digits_value 10 digits) most)
    then Some (digits_value 10 digits) else None

-- the number within these bounds that a word of digits writes, which may have a plus before them
unfoldable pub number_between : ℕ → ℕ → List ℕ → Option ℕ
number_between least most word = digits_between least most (without_leading_plus word)

-- an option with a value
abbrev pub valued_word : List ℕ → Rule
valued_word id = record (new_rule id) { long = Some id }

abbrev pub rotate_app : App
rotate_app = with_rule (with_rule (new_app (codes "rotate")) (required_word (codes "folder"))) (valued_word (codes "max"))

-- | how many keys a rotation leaves: 3 where nothing is said
abbrev pub max_said : Option (List ℕ) → Option ℕ
max_said None = Some DEFAULT_KEYS
max_said (Some word) = number_between FEWEST_KEYS KEYS word

-- `serve` without its options
abbrev pub places_app : App
places_app = with_rule (with_rule (with_rule (new_app (codes "serve")) (required_word (codes "file"))) (required_word (codes "folder"))) (required_word (codes "address"))

abbrev pub serve_app : App
serve_app = with_rule (with_rule (with_rule places_app (valued_word (codes "workers"))) (valued_word (codes "connections"))) (valued_word (codes "log"))

-- | what so many workers serve with; the address stays a text, of which the program makes a socket, and so does the path of the log
abbrev pub serve_places : Option (List ℕ) → Option (List ℕ) → Option (List ℕ) → Option (List ℕ) → ℕ → Places
serve_places file folder address log workers = record { file = file; folder = folder; address = address; workers = workers; log = log }

-- | how many workers serve: 4 where nothing is said
abbrev pub workers_said : Option (List ℕ) → Option ℕ
workers_said None = Some DEFAULT_WORKERS
workers_said (Some word) = number_between 1 WORKERS word

-- | how many connections each serves: 0, by which they are not counted, where nothing is said
abbrev pub connections_said : Option (List ℕ) → Option ℕ
connections_said None = Some 0
connections_said (Some word) = number_between 0 CONNECTIONS word

-- the words of `password`
abbrev pub password_app : App
password_app = with_rule (new_app (codes "password")) (valued_word (codes "rounds"))

-- | by how many rounds a password is derived: 10,000 where nothing is said
abbrev pub rounds_said : Option (List ℕ) → Option ℕ
rounds_said None = Some DEFAULT_ROUNDS
rounds_said (Some word) = number_between 1 ROUNDS word

-- the words of `drill`
abbrev pub drill_app : App
drill_app = with_rule (with_rule (new_app (codes "drill")) (required_word (codes "start"))) (required_word (codes "count"))

-- | the number within these bounds, where a word was said
abbrev pub number_said : ℕ → ℕ → Option (List ℕ) → Option ℕ
number_said least most None = None
number_said least most (Some word) = number_between least most word

-- the numbers that a command was told: a rotation leaves from 2 to 32 keys; from 1 to 32 workers serve, and
-- each is told of at most 1,000,000 connections; a password is derived by 1 to 100,000 rounds; a drill starts at
-- 1,000,000 at most, and has from 1 to 2,000 members
abbrev pub IsInRange : Words → Type 0
IsInRange (Rotate places max) = (FEWEST_KEYS ≤ max) × (max ≤ KEYS)
IsInRange (Serve places connections) = (1 ≤ places.workers) × (places.workers ≤ WORKERS) × (connections ≤ CONNECTIONS)
IsInRange Check = Unit {0}
IsInRange (Talk places) = Unit {0}
IsInRange (Setup places) = Unit {0}
IsInRange (Password rounds) = (1 ≤ rounds) × (rounds ≤ ROUNDS)
IsInRange (Drill start count) = (start ≤ DRILL_START) × (1 ≤ count) × (count ≤ DRILL_MEMBERS)
IsInRange Usage = Unit {0}

-- the path of the opening file that a command names
abbrev pub file_in : Words → Option (List ℕ)
file_in Check = None
file_in (Talk places) = places.file
file_in (Serve places connections) = places.file
file_in (Setup places) = None
file_in (Rotate places max) = None
file_in (Password rounds) = None
file_in (Drill start count) = None
file_in Usage = None

-- the path of the folder that a command names
abbrev pub folder_in : Words → Option (List ℕ)
folder_in Check = None
folder_in (Talk places) = places.folder
folder_in (Serve places connections) = places.folder
folder_in (Setup places) = places.folder
folder_in (Rotate places max) = places.folder
folder_in (Password rounds) = None
folder_in (Drill start count) = None
folder_in Usage = None

-- what a command serves connections with that listens at an address
abbrev pub serving_in : Words → Option Places
serving_in Check = None
serving_in (Talk places) = None
serving_in (Serve places connections) = Some places
serving_in (Setup places) = None
serving_in (Rotate places max) = None
serving_in (Password rounds) = None
serving_in (Drill start count) = None
serving_in Usage = None

-- the address to listen at that a command names
abbrev pub address_in : Words → Option (List ℕ)
address_in words = option_and_then (λ places. places.address) (serving_in words)

-- the path of the log of requests that a command names
abbrev pub log_in : Words → Option (List ℕ)
log_in words = option_and_then (λ places. places.log) (serving_in words)

-- what the words of a command mean, one command after the other
abbrev pub rotated_with : Option (List ℕ) → Option ℕ → Words
rotated_with folder None = Usage
rotated_with folder (Some max) = Rotate (folder_places folder) max

abbrev pub rotate : Form
rotate = record {
  app = rotate_app;
  meaning = λ rows. rotated_with (first_of (codes "folder") rows) (max_said (first_of (codes "max") rows));
}

abbrev pub served_with : (ℕ → Places) → Option ℕ → Option ℕ → Words
served_with places None connections = Usage
served_with places (Some workers) None = Usage
served_with places (Some workers) (Some connections) = Serve (places workers) connections

abbrev pub serve : Form
serve = record {
  app = serve_app;
  meaning = λ rows. served_with (serve_places (first_of (codes "file") rows) (first_of (codes "folder") rows) (first_of (codes "address") rows) (first_of (codes "log") rows))
      (workers_said (first_of (codes "workers") rows)) (connections_said (first_of (codes "connections") rows));
}

abbrev pub derived_by : Option ℕ → Words
derived_by None = Usage
derived_by (Some rounds) = Password rounds

abbrev pub password : Form
password = record { app = password_app; meaning = λ rows. derived_by (rounds_said (first_of (codes "rounds") rows)) }

-- | a drill by two such numbers, or no command
abbrev pub drilled_with : Option ℕ → Option ℕ → Words
drilled_with None count = Usage
drilled_with (Some start) None = Usage
drilled_with (Some start) (Some count) = Drill start count

-- the command of a drill, and all commands
abbrev pub drill : Form
drill = record {
  app = drill_app;
  meaning = λ rows. drilled_with (number_said 0 DRILL_START (first_of (codes "start") rows)) (number_said 1 DRILL_MEMBERS (first_of (codes "count") rows));
}

abbrev pub forms : List Form
forms = check ∷ talk ∷ setup ∷ rotate ∷ serve ∷ password ∷ drill ∷ []

-- what the words of a command mean
unfoldable pub read_by : Form → List (List ℕ) → Words
read_by form words = option_map_or form.meaning (rows_read form.app words) Usage

-- the command whose name is the first word, where its command of `clap` takes the rest; no word may begin with a dash but as an option of
-- that command
unfoldable pub words_of : List (List ℕ) → Words
words_of [] = Usage
words_of (name ∷ words) =
    option_map_or (λ form. read_by form (name ∷ words)) (find (λ form. bytes_eq name form.app.top.name) forms) Usage
