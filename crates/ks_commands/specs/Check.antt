-- What `check` writes for its input, and how it ends.
use Rattle.std.specs.Prelude.{false, ℕ, ◌+◌, ◌==◌, nat_lt, nat_le, ◌||◌, if◌then◌else◌, List, [], ◌∷◌, ◌++◌, length, Option, Some, None, Result, Ok, Err, codes}
use Rattle.std.specs.Option.{option_map}
use Rattle.hex.specs.Hex.{encode_lower}
use Rattle.ks_base.specs.declared.key.Key.{Key}
use Rattle.ks_base.specs.declared.limits.TheConstants.{CHECK_LINES, CHECK_LINE_BYTES, DEFAULT_LIFE}
use Rattle.ks_fernet.specs.KeyText.{key_of}
use Rattle.ks_machine.specs.declared.lines.ReadToken.{ReadToken}
use Rattle.ks_machine.specs.declared.why.Why.{Why}
use Rattle.ks_machine.specs.Moment.{moment_of}
use Rattle.ks_machine.specs.Names.{name_of}
use Rattle.ks_machine.specs.TokenLines.{first_opened, token_lines}
use Rattle.ks_commands.specs.declared.checker.CheckPlace.{CheckPlace}
use Rattle.ks_commands.specs.Lines.{lines_of, TokenLine, token_line_of}

-- at the end of the input, or at a line that is not in the grammar, counted from 1
pub data End : Type 0 where
  Whole : End
  BadLine : ℕ → End

pub record Checked : Type 0 where
  pub output : List ℕ
  pub end : End

-- what a line writes, and where the check stands behind it
pub record Step : Type 0 where
  pub output : List ℕ
  pub place : CheckPlace

-- a check's tokens may live for an hour
abbrev pub life : ℕ
life = DEFAULT_LIFE

-- the line that answers a token: what it holds, in lower hex, or why it is refused
abbrev pub answer_line : Result ReadToken Why → List ℕ
answer_line (Ok held) = codes "valid " ++ (encode_lower held.plain ++ codes "\n")
answer_line (Err why) = codes "refused " ++ (name_of why ++ codes "\n")

-- the line that answers a token: the one key is tried, and then the lines of the token's validity that need no tables
abbrev pub answer_of : Key → ℕ → List ℕ → List ℕ
answer_of key moment token = answer_line (token_lines life moment false (first_opened (key ∷ []) token))

abbrev pub behind : CheckPlace → Key → ℕ → List ℕ → Step
behind place key moment output = record { output = output; place = record { lines = place.lines + 1; key = Some key; moment = moment } }

-- a token is judged at the highest reading so far
abbrev pub token_step : CheckPlace → Key → TokenLine → Step
token_step place key line =
    let moment = moment_of place.moment line.reading in behind place key moment (answer_of key moment line.token)

-- line 1 is a key, and each later line a reading, one space and a token
abbrev pub keyed_step : CheckPlace → Option Key → List ℕ → Option Step
keyed_step place None line = option_map (λ key. behind place key place.moment []) (key_of line)
keyed_step place (Some key) line = option_map (token_step place key) (token_line_of line)

-- a line has at most 1,100 bytes, and there are at most 1,048,576 lines
unfoldable pub step_of : CheckPlace → List ℕ → Option Step
step_of place line = if nat_lt CHECK_LINE_BYTES (length line) || nat_le CHECK_LINES place.lines then None else keyed_step place place.key line

abbrev pub onto : List ℕ → Checked → Checked
onto output checked = record { output = output ++ checked.output; end = checked.end }

abbrev pub bad_line : ℕ → Checked
bad_line n = record { output = []; end = BadLine n }

abbrev pub go_on : Option Step → ℕ → (CheckPlace → Checked) → Checked
go_on None lines rest = bad_line (lines + 1)
go_on (Some step) lines rest = onto step.output (rest step.place)

-- an input with no line at all lacks its first
unfoldable pub steps_of : CheckPlace → List (List ℕ) → Checked
steps_of place [] = if place.lines == 0 then bad_line 1 else record { output = []; end = Whole }
steps_of place (line ∷ lines) = go_on (step_of place line) place.lines (λ next. steps_of next lines)

abbrev pub check_from : CheckPlace → List ℕ → Checked
check_from place text = steps_of place (lines_of text)

-- | what `check` writes for an input, and how it ends
abbrev pub check_of : List ℕ → Checked
check_of input = check_from (record { lines = 0; key = None; moment = 0 }) input
