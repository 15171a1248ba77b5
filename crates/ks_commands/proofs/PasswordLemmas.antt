-- The password that an input gives, and how `password` ends.
use Rattle.std.proofs.Common.{◌≡◌, ℕ, suc, ◌+◌, ◌<◌, ◌≤◌, ◌==◌, Bool, true, false, not, ◌&&◌, ◌||◌, if◌then◌else◌, List, [], ◌∷◌, ◌++◌, length, take, Option, Some, None, Ok, Err, IfErr, IfOk, IfSome, refl, sym, ap, subst, ◌∙◌, inl, inr, arith, append-nil, length-append}
use Rattle.std.specs.Prelude.{IfNone, Result, nat_le}
use Rattle.std.specs.List.{list_all, list_any}
use Rattle.std.specs.Str.{IsUtf8, is_utf8}
use Rattle.std.proofs.lemmas.Bool.{cases_Bool}
use Rattle.std.proofs.lemmas.Bool.Decides.{nat_tests}
use Rattle.std.proofs.lemmas.List.{length-take}
use Rattle.std.proofs.lemmas.Str.{is_utf8-from_IsUtf8, IsUtf8-from_is_utf8}
use Rattle.ks_base.specs.declared.limits.TheConstants.{PASSWORD_BYTES}
use Rattle.ks_base.specs.declared.memory.Memory.{Memory}
use Rattle.ks_base.specs.declared.users.PasswordRow.{PasswordRow}
use Rattle.ks_outside.specs.Desks.{DeskState}
use Rattle.ks_outside.specs.Streams.{StreamState, Takes}
use Rattle.ks_setup.specs.Openings.{Drew, derived_row}
use Rattle.ks_written.specs.Records.{record_text}
use Rattle.ks_commands.specs.declared.fault.Fault.{Fault}
use Rattle.ks_commands.specs.declared.fault.Fault.TheVariants as fault
use Rattle.ks_commands.specs.Lines.{IsInLine}
use Rattle.ks_commands.specs.Passwords.{DrawsOnce, EndsPassword, IsPasswordFault, ReadsFront, first_line_of, password_in, password_of, record_line}
use Rattle.ks_commands.specs.steps.KeyCalls.{IsSayingFault, Says}
use Rattle.ks_commands.specs.steps.Openings.{HasRead, IsReadFault}
use Rattle.ks_commands.specs.steps.PasswordReads.{Gives, GivesAlike, IsRecordFault, LacksPassword, StopsPassword}
use Rattle.ks_commands.proofs.OpeningLemmas.{drew_none, read_more}

-- the first line

abbrev feed : ℕ → Bool
feed b = b == 10

more_step : (t any : Bool) (b : ℕ) (more less : List ℕ) → (any ≡ true → more ≡ less) → (t || any) ≡ true
    → (if t then [] else b ∷ more) ≡ (if t then [] else b ∷ less)
more_step true any b more less rest h = refl
more_step false any b more less rest h = ap (λ l. b ∷ l) (rest h)

-- what follows a line feed does not count
first_more : (xs ys : List ℕ) → list_any feed xs ≡ true → first_line_of (xs ++ ys) ≡ first_line_of xs
unfolding first_line_of
first_more [] ys h = cc h
first_more (b ∷ xs) ys h = more_step (b == 10) (list_any feed xs) b (first_line_of (xs ++ ys)) (first_line_of xs) (first_more xs ys) h

long_step : (t any : Bool) (b n : ℕ) (more : List ℕ) → (any ≡ false → n ≤ length more) → (t || any) ≡ false → suc n ≤ length (if t then [] else b ∷ more)
long_step true any b n more rest h = cc h
long_step false any b n more rest h = let le = rest h in omega arith

-- a line goes on as far as no line feed has come
first_long : (xs ys : List ℕ) → list_any feed xs ≡ false → length xs ≤ length (first_line_of (xs ++ ys))
unfolding first_line_of
first_long [] ys h = omega arith
first_long (b ∷ xs) ys h = long_step (b == 10) (list_any feed xs) b (length xs) (first_line_of (xs ++ ys)) (first_long xs ys) h

line_step : (t all : Bool) (b : ℕ) (more line : List ℕ) → (all ≡ true → more ≡ line) → (not t && all) ≡ true → (if t then [] else b ∷ more) ≡ b ∷ line
line_step true all b more line rest h = cc h
line_step false all b more line rest h = ap (λ l. b ∷ l) (rest h)

line_cut : (line rest : List ℕ) → IsInLine line → first_line_of (line ++ 10 ∷ rest) ≡ line
unfolding first_line_of
line_cut [] rest is = refl
line_cut (b ∷ line) rest is = line_step (b == 10) (list_all (λ c. not (c == 10)) line) b (first_line_of (line ++ 10 ∷ rest)) line (line_cut line rest) is

line_whole : (line : List ℕ) → IsInLine line → first_line_of line ≡ line
unfolding first_line_of
line_whole [] is = refl
line_whole (b ∷ line) is = line_step (b == 10) (list_all (λ c. not (c == 10)) line) b (first_line_of line) line (line_whole line) is

pub line_before : (text line rest : List ℕ) → IsInLine line → text ≡ line ++ 10 ∷ rest → line ≡ first_line_of text
line_before text line rest is cut = sym (ap first_line_of cut ∙ line_cut line rest is)

pub line_alone : (text : List ℕ) → IsInLine text → text ≡ first_line_of text
line_alone text is = sym (line_whole text is)

-- the password

none_beside : (a u : Bool) (line : List ℕ) → (if (a && false) && u then Some line else None) ≡ None
none_beside true u line = refl
none_beside false u line = refl

long_test : (n : ℕ) → PASSWORD_BYTES < n → nat_le n PASSWORD_BYTES ≡ false
long_test n long = grind (arith, nat_tests)

pub too_long : (line : List ℕ) → PASSWORD_BYTES < length line → password_in line ≡ None
too_long line long = rw (long_test (length line) long) (none_beside (nat_le 1 (length line)) (is_utf8 line) line)

pub too_short : (line : List ℕ) → length line ≡ 0 → password_in line ≡ None
too_short line none = rw none refl

from_test : (n : ℕ) → 1 ≤ n → nat_le 1 n ≡ true
from_test n some = grind (arith, nat_tests)

to_test : (n : ℕ) → n ≤ PASSWORD_BYTES → nat_le n PASSWORD_BYTES ≡ true
to_test n few = grind (arith, nat_tests)

no_text : (line : List ℕ) (t : Bool) → is_utf8 line ≡ t → (IsUtf8 line → ⊥) → (if t then Some line else None) ≡ None
no_text line true is none = absurd (none (IsUtf8-from_is_utf8 line is))
no_text line false is none = refl

-- a line of the right size, as it is read
pub read_is : (line : List ℕ) (read : Option (List ℕ)) → 1 ≤ length line → length line ≤ PASSWORD_BYTES
    → IfSome read (λ text. (text ≡ line) × IsUtf8 line) → IfNone read (IsUtf8 line → ⊥) → read ≡ password_in line
read_is line (Some text) some few is none =
    rw (from_test (length line) some, to_test (length line) few, is_utf8-from_IsUtf8 line is.1) (ap Some is.0)
read_is line None some few is none =
    rw (from_test (length line) some, to_test (length line) few)
    (sym (no_text line (is_utf8 line) refl none))

pub read_gives : (r : Result (Option (List ℕ)) Memory) (line text : List ℕ) → line ≡ first_line_of text → 1 ≤ length line → length line ≤ PASSWORD_BYTES
    → IfOk r (λ read. IfSome read (λ found. (found ≡ line) × IsUtf8 line)) → IfOk r (λ read. IfNone read (IsUtf8 line → ⊥)) → IfOk r (λ read. read ≡ password_of text)
read_gives (Ok read) line text is some few found none = read_is line read some few found none ∙ ap password_in is
read_gives (Err memory) line text is some few found none = tt

-- the bytes that were read give the password of the whole input

pub alike_line : (told text rest : List ℕ) → told ≡ text ++ rest → list_any (λ b. b == 10) text ≡ true → password_of text ≡ password_of told
alike_line told text rest is any = ap password_in (sym (first_more text rest any)) ∙ ap password_of (sym is)

pub alike_long : (told text rest : List ℕ) → told ≡ text ++ rest → PASSWORD_BYTES < length text → password_of text ≡ password_of told
alike_long told text rest is long = elim (cases_Bool (list_any feed text)) [
  | inl any ↦ alike_line told text rest is any
  | inr none ↦
      let here = first_long text [] none in
      let there = first_long text rest none in
      let same : length (first_line_of (text ++ [])) ≡ length (first_line_of text) = ap (λ l. length (first_line_of l)) (append-nil text) in
      too_long (first_line_of text) (omega (arith, here, same, long))
      ∙ sym (too_long (first_line_of (text ++ rest)) (omega (arith, there, long)))
      ∙ ap password_of (sym is)
]

-- how far it was read

pub reached_front : (told text : List ℕ) (left : Option (List ℕ)) → length text ≤ PASSWORD_BYTES + PASSWORD_BYTES → HasRead told text left → ReadsFront told left
reached_front told text left short read = record { front = text; rest = read.0; input_is = read.1; short = short; left_is = read.2 }

pub reached_piece : (told text piece : List ℕ) (n : ℕ) (before left : Option (List ℕ)) → length text ≤ PASSWORD_BYTES → n ≤ PASSWORD_BYTES
    → (read : HasRead told text before) → Takes read.0 left piece n → ReadsFront told left
reached_piece told text piece n before left short few read takes =
    let size = length-append text (take n piece) in
    let part = length-take n piece in
    reached_front told (text ++ take n piece) left (omega (arith, size, part, short, few)) (read_more told text piece read.0 n left read.1 takes)

-- how it ends

pub unread_is : (f : Fault) (input : StreamState) → StopsPassword input f → IsPasswordFault f
unread_is fault.Read input stops = tt
unread_is fault.Memory input stops = tt
unread_is fault.BadPassword input stops = tt
unread_is fault.Usage input stops = absurd stops
unread_is fault.Write input stops = absurd stops
unread_is (fault.BadLine n) input stops = absurd stops
unread_is (fault.Opening reason) input stops = absurd stops
unread_is (fault.State reason) input stops = absurd stops
unread_is (fault.Keeper why) input stops = absurd stops
unread_is fault.OtherOpening input stops = absurd stops
unread_is (fault.BadEntry n) input stops = absurd stops
unread_is fault.Folder input stops = absurd stops
unread_is (fault.Keys reason) input stops = absurd stops
unread_is fault.Desk input stops = absurd stops

pub drew_nothing_once : {Link : Type 0} (desk : DeskState Link) → DrawsOnce desk desk
drew_nothing_once desk = ([], 0, omega arith, drew_none desk)

pub unread_ends : {Link : Type 0} (f : Fault) (rounds : ℕ) (input : StreamState) (text before : List ℕ) (desk : DeskState Link) (written : Option (List ℕ))
    → StopsPassword input f → input.left ≡ Some text → written ≡ Some before → EndsPassword rounds text before desk desk written (Err f)
unread_ends fault.Read rounds input text before desk written stops left stood = (refl, stood)
unread_ends fault.Memory rounds input text before desk written stops left stood = (drew_nothing_once desk, stood)
unread_ends fault.BadPassword rounds input text before desk written stops left stood = (stops text left, refl, stood)
unread_ends fault.Usage rounds input text before desk written stops left stood = absurd stops
unread_ends fault.Write rounds input text before desk written stops left stood = absurd stops
unread_ends (fault.BadLine n) rounds input text before desk written stops left stood = absurd stops
unread_ends (fault.Opening reason) rounds input text before desk written stops left stood = absurd stops
unread_ends (fault.State reason) rounds input text before desk written stops left stood = absurd stops
unread_ends (fault.Keeper why) rounds input text before desk written stops left stood = absurd stops
unread_ends fault.OtherOpening rounds input text before desk written stops left stood = absurd stops
unread_ends (fault.BadEntry n) rounds input text before desk written stops left stood = absurd stops
unread_ends fault.Folder rounds input text before desk written stops left stood = absurd stops
unread_ends (fault.Keys reason) rounds input text before desk written stops left stood = absurd stops
unread_ends fault.Desk rounds input text before desk written stops left stood = absurd stops

pub drew_salt : {Link : Type 0} (old new : DeskState Link) (salt : List ℕ) → length salt ≡ 16 → Drew old new salt 0 → DrawsOnce old new
drew_salt old new salt long drew = (salt, 0, omega (arith, long), drew)

pub drew_no_salt : {Link : Type 0} (old new : DeskState Link) → Drew old new [] 1 → DrawsOnce old new
drew_no_salt old new drew = ([], 1, omega arith, drew)

pub said_is : (r : Result (Unit {0}) Fault) → IfErr r IsSayingFault → IfErr r IsRecordFault
said_is (Ok done) is = tt
said_is (Err fault.Read) is = absurd is
said_is (Err fault.Write) is = tt
said_is (Err fault.Memory) is = tt
said_is (Err fault.BadPassword) is = absurd is
said_is (Err fault.Desk) is = absurd is
said_is (Err fault.Usage) is = absurd is
said_is (Err (fault.BadLine n)) is = absurd is
said_is (Err (fault.Opening reason)) is = absurd is
said_is (Err (fault.State reason)) is = absurd is
said_is (Err (fault.Keeper why)) is = absurd is
said_is (Err fault.OtherOpening) is = absurd is
said_is (Err (fault.BadEntry n)) is = absurd is
said_is (Err fault.Folder) is = absurd is
said_is (Err (fault.Keys reason)) is = absurd is

pub record_is : (r : Result (Unit {0}) Fault) → IfErr r IsRecordFault → IfErr r IsPasswordFault
record_is (Ok done) is = tt
record_is (Err fault.Read) is = absurd is
record_is (Err fault.Write) is = tt
record_is (Err fault.Memory) is = tt
record_is (Err fault.BadPassword) is = absurd is
record_is (Err fault.Desk) is = tt
record_is (Err fault.Usage) is = absurd is
record_is (Err (fault.BadLine n)) is = absurd is
record_is (Err (fault.Opening reason)) is = absurd is
record_is (Err (fault.State reason)) is = absurd is
record_is (Err (fault.Keeper why)) is = absurd is
record_is (Err fault.OtherOpening) is = absurd is
record_is (Err (fault.BadEntry n)) is = absurd is
record_is (Err fault.Folder) is = absurd is
record_is (Err (fault.Keys reason)) is = absurd is

-- a result that is this fault has what each of its faults has
pub of_fault : {A : Type 0} (P : Fault → Type 0) (r : Result A Fault) (f : Fault) → IfErr r P → r ≡ Err f → P f
of_fault P r f is same = subst (λ q. IfErr q P) same is

-- what the bytes that were read give, the whole input gives

pub given_by : (r : Result (List ℕ) Fault) (input : StreamState) (bytes : List ℕ) → IfOk r (λ password. password_of bytes ≡ Some password) → GivesAlike input bytes
    → IfOk r (Gives input)
given_by (Ok password) input bytes given alike = λ told left. sym (alike told left) ∙ given
given_by (Err reason) input bytes given alike = tt

pub stops_by : (r : Result (List ℕ) Fault) (input : StreamState) (bytes : List ℕ) → IfErr r (LacksPassword bytes) → GivesAlike input bytes
    → IfErr r (StopsPassword input)
stops_by (Ok password) input bytes is alike = tt
stops_by (Err fault.BadPassword) input bytes is alike = λ told left. sym (alike told left) ∙ is
stops_by (Err fault.Memory) input bytes is alike = tt
stops_by (Err fault.Read) input bytes is alike = absurd is
stops_by (Err fault.Write) input bytes is alike = absurd is
stops_by (Err fault.Desk) input bytes is alike = absurd is
stops_by (Err fault.Usage) input bytes is alike = absurd is
stops_by (Err (fault.BadLine n)) input bytes is alike = absurd is
stops_by (Err (fault.Opening reason)) input bytes is alike = absurd is
stops_by (Err (fault.State reason)) input bytes is alike = absurd is
stops_by (Err (fault.Keeper why)) input bytes is alike = absurd is
stops_by (Err fault.OtherOpening) input bytes is alike = absurd is
stops_by (Err (fault.BadEntry n)) input bytes is alike = absurd is
stops_by (Err fault.Folder) input bytes is alike = absurd is
stops_by (Err (fault.Keys reason)) input bytes is alike = absurd is

pub stops_unread : (f : Fault) (input : StreamState) → IsReadFault f → StopsPassword input f
stops_unread fault.Read input is = tt
stops_unread fault.Memory input is = tt
stops_unread fault.Write input is = absurd is
stops_unread fault.BadPassword input is = absurd is
stops_unread fault.Desk input is = absurd is
stops_unread fault.Usage input is = absurd is
stops_unread (fault.BadLine n) input is = absurd is
stops_unread (fault.Opening reason) input is = absurd is
stops_unread (fault.State reason) input is = absurd is
stops_unread (fault.Keeper why) input is = absurd is
stops_unread fault.OtherOpening input is = absurd is
stops_unread (fault.BadEntry n) input is = absurd is
stops_unread fault.Folder input is = absurd is
stops_unread (fault.Keys reason) input is = absurd is

-- the row that was derived, as the line that is said of it
line_same : (row : PasswordRow) (rounds : ℕ) (password salt : List ℕ) → row ≡ derived_row rounds password salt → record_text row ++ 10 ∷ [] ≡ record_line rounds password salt
line_same row rounds password salt is = ap (λ r. record_text r ++ 10 ∷ []) is

pub said_ends : {Link : Type 0} (r : Result (Unit {0}) Fault) (rounds : ℕ) (text before password salt : List ℕ) (row : PasswordRow) (old new : DeskState Link) (written : Option (List ℕ))
    → password_of text ≡ Some password → length salt ≡ 16 → row ≡ derived_row rounds password salt → Drew old new salt 0
    → Says (record_text row ++ 10 ∷ []) before written r → EndsPassword rounds text before old new written r
said_ends (Ok done) rounds text before password salt row old new written given long is drew says =
    (_, record { password = password; given = given; salt = salt; long = long; drew = drew; line_is = line_same row rounds password salt is }, says)
said_ends (Err fault.Write) rounds text before password salt row old new written given long is drew says =
    (_, record { password = password; given = given; salt = salt; long = long; drew = drew; line_is = line_same row rounds password salt is }, says)
said_ends (Err fault.Memory) rounds text before password salt row old new written given long is drew says = (drew_salt old new salt long drew, says)
said_ends (Err fault.Read) rounds text before password salt row old new written given long is drew says = absurd says
said_ends (Err fault.BadPassword) rounds text before password salt row old new written given long is drew says = absurd says
said_ends (Err fault.Usage) rounds text before password salt row old new written given long is drew says = absurd says
said_ends (Err (fault.BadLine n)) rounds text before password salt row old new written given long is drew says = absurd says
said_ends (Err (fault.Opening reason)) rounds text before password salt row old new written given long is drew says = absurd says
said_ends (Err (fault.State reason)) rounds text before password salt row old new written given long is drew says = absurd says
said_ends (Err (fault.Keeper why)) rounds text before password salt row old new written given long is drew says = absurd says
said_ends (Err fault.OtherOpening) rounds text before password salt row old new written given long is drew says = absurd says
said_ends (Err (fault.BadEntry n)) rounds text before password salt row old new written given long is drew says = absurd says
said_ends (Err fault.Folder) rounds text before password salt row old new written given long is drew says = absurd says
said_ends (Err (fault.Keys reason)) rounds text before password salt row old new written given long is drew says = absurd says
said_ends (Err fault.Desk) rounds text before password salt row old new written given long is drew says = absurd says
