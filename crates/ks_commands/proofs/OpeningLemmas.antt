-- How an opening is read: the text of the file, the keys of the folder, and what is refused.
use Rattle.std.proofs.Common.{◌≡◌, ℕ, ◌<◌, ◌≤◌, ◌+◌, Bool, true, false, List, [], ◌++◌, length, take, drop, Option, Some, None, Ok, Err, refl, sym, ap, ◌∙◌, arith, inl, inr, ⊎_elim, append_assoc, length-append}
use Rattle.std.proofs.lemmas.List.{length-take, take-append-drop}
use Rattle.std.specs.Prelude.{Result, nat_le}
use Rattle.std.proofs.lemmas.Bool.Decides.{nat_tests}
use Rattle.std.proofs.lemmas.Option.{same_Some}
use Rattle.ks_base.specs.declared.faults.KeysFault.{KeysFault}
use Rattle.ks_base.specs.declared.faults.KeysFault.TheVariants as keys
use Rattle.ks_base.specs.declared.key.Key.{Key}
use Rattle.ks_base.specs.declared.limits.TheConstants.{OPENING_BYTES}
use Rattle.ks_base.specs.declared.shapes.ShapeFault.{ShapeFault}
use Rattle.ks_base.specs.declared.shapes.ShapeFault.TheVariants as shape
use Rattle.ks_machine.specs.Openings.{PlainOpening}
use Rattle.ks_outside.proofs.CallLemmas.{makes_none}
use Rattle.ks_outside.specs.Desks.{DeskState}
use Rattle.ks_outside.specs.Files.{DirState}
use Rattle.ks_outside.specs.Streams.{StreamState, Takes}
use Rattle.ks_policy.specs.declared.opening.Opening.{Opening}
use Rattle.ks_policy.specs.Openings.{plain}
use Rattle.ks_setup.specs.declared.opening.OpeningFault.{OpeningFault}
use Rattle.ks_setup.specs.declared.opening.OpeningFault.TheVariants as refusal
use Rattle.ks_written.specs.declared.written.Written.{Written}
use Rattle.ks_setup.specs.Openings.{AnswersOpening, Drew, Opens}
use Rattle.ks_written.specs.Written.{document_of, file_of, folder_wanted}
use Rattle.ks_commands.specs.declared.fault.Fault.{Fault}
use Rattle.ks_commands.specs.declared.fault.Fault.TheVariants as fault
use Rattle.ks_commands.specs.Opened.{AreHeld, IsOpening, IsText, ReadsFile, RefusesFolder, RefusesForm, StopsOpening}
use Rattle.ks_commands.specs.steps.Openings.{HasRead, IsRead, IsWhole, RefusesKeys, StopsHeld, of_opening}

-- a desk from which nothing was drawn
pub drew_none : {Link : Type 0} (desk : DeskState Link) → Drew desk desk [] 0
drew_none desk = record { told = λ bytes is. (bytes, refl, is); kept = refl; count = omega arith; salts = 0; whole = refl; calls = makes_none desk.calls }

-- reading the file

pub read_none : (told : List ℕ) (left : Option (List ℕ)) → left ≡ Some told → HasRead told [] left
read_none told left is = (told, refl, is)

pub read_more : (told text piece rest : List ℕ) (n : ℕ) (left : Option (List ℕ)) → told ≡ text ++ rest → Takes rest left piece n → HasRead told (text ++ take n piece) left
read_more told text piece rest n left is takes =
    (drop n rest, is ∙ ap (λ xs. text ++ xs) (sym (take-append-drop n rest)) ∙ sym (append_assoc text (take n rest) (drop n rest)) ∙ ap (λ xs. (text ++ xs) ++ drop n rest) (sym takes.given), takes.rest)

-- how far it was read

pub reached : (told text : List ℕ) (left : Option (List ℕ)) → length text ≤ 16842752 → HasRead told text left → ReadsFile told left
reached told text left short read = record { text = text; rest = read.0; told_is = read.1; short = short; left_is = read.2 }

pub reached_none : (told : List ℕ) (left : Option (List ℕ)) → left ≡ Some told → ReadsFile told left
reached_none told left is = reached told [] left (omega arith) (read_none told left is)

pub reached_piece : (told text piece : List ℕ) (n : ℕ) (before left : Option (List ℕ)) → length text ≤ 16777216 → n ≤ 65536
    → (read : HasRead told text before) → Takes read.0 left piece n → ReadsFile told left
reached_piece told text piece n before left short few read takes =
    let size = length-append text (take n piece) in
    let part = length-take n piece in
    reached told (text ++ take n piece) left (omega (arith, size, part, short, few)) (read_more told text piece read.0 n left read.1 takes)

-- a file that is longer than an opening file may be is refused as such

long_test : (n : ℕ) → OPENING_BYTES < n → nat_le n OPENING_BYTES ≡ false
long_test n long = grind (arith, nat_tests)

document_long : (text : List ℕ) → OPENING_BYTES < length text → document_of text ≡ Err (shape.Range [])
unfolding document_of
document_long text long = rw (long_test (length text) long) refl

file_long : (text : List ℕ) → OPENING_BYTES < length text → file_of text ≡ Err (shape.Range [])
unfolding file_of
file_long text long = rw (document_long text long) refl

formed_short : (text : List ℕ) (written : Written) → file_of text ≡ Ok written → (OPENING_BYTES < length text) → ⊥
formed_short text written formed long = absurd (cc (sym formed ∙ file_long text long))

pub longer : (told text rest : List ℕ) → told ≡ text ++ rest → OPENING_BYTES < length text → OPENING_BYTES < length told
longer told text rest is long =
    let count : length told ≡ length text + length rest = ap length is ∙ length-append text rest in
    omega (arith, count, long)

-- a text of the right form was read whole
pub formed_text : (file : StreamState) (text : List ℕ) (written : Written) → IsRead file text → file_of text ≡ Ok written → IsText text file
formed_text file text written read formed told left =
    ⊎_elim (λ same. same) (λ more. absurd (formed_short text written formed more.0)) (read told left)

-- and where a form is refused, the whole text is refused for the same

same_reason : (a b : ShapeFault) (text other : List ℕ) → file_of text ≡ Err a → file_of text ≡ Err b → file_of other ≡ Err b → file_of other ≡ Err a
same_reason a b text other one two three = three ∙ (sym two ∙ one)

refused_whole : (file : StreamState) (text told : List ℕ) (reason : ShapeFault) → file.left ≡ Some told → IsWhole told text → file_of text ≡ Err reason → RefusesForm file reason
refused_whole file text told reason left (inl same) refused = record {
  text = text;
  is_text = λ other is. same_Some other told (sym is ∙ left) ∙ same;
  refused = refused;
}
refused_whole file text told reason left (inr (long, (rest, is))) refused = record {
  text = told;
  is_text = λ other is. same_Some other told (sym is ∙ left);
  refused = same_reason reason (shape.Range []) text told refused (file_long text long) (file_long told (longer told text rest is long));
}

refused_by : (file : StreamState) (left : Option (List ℕ)) → file.left ≡ left → (text : List ℕ) (reason : ShapeFault) → IsRead file text → file_of text ≡ Err reason → RefusesForm file reason
refused_by file None left text reason read refused = record { text = text; is_text = λ told is. absurd (cc (sym left ∙ is)); refused = refused }
refused_by file (Some told) left text reason read refused = refused_whole file text told reason left (read told left) refused

pub refuses_form : (file : StreamState) (text : List ℕ) (reason : ShapeFault) → IsRead file text → file_of text ≡ Err reason → RefusesForm file reason
refuses_form file text reason read refused = refused_by file file.left refl text reason read refused

-- whether the folder is wanted

formed_by : (text : List ℕ) (wanted : Bool) (r : Result Written ShapeFault) → file_of text ≡ r → folder_wanted text ≡ Ok wanted → (written : Written) × (file_of text ≡ Ok written)
unfolding folder_wanted
formed_by text wanted (Ok written) is h = (written, is)
formed_by text wanted (Err reason) is h = absurd (cc (rw is at h))

pub formed : (text : List ℕ) (wanted : Bool) → folder_wanted text ≡ Ok wanted → (written : Written) × (file_of text ≡ Ok written)
formed text wanted h = formed_by text wanted (file_of text) refl h

unformed_by : (text : List ℕ) (reason : ShapeFault) (r : Result Written ShapeFault) → file_of text ≡ r → folder_wanted text ≡ Err reason → file_of text ≡ Err reason
unfolding folder_wanted
unformed_by text reason (Ok written) is h = absurd (cc (rw is at h))
unformed_by text reason (Err other) is h = let same : other ≡ reason = cc (rw is at h) in is ∙ ap Err same

pub unformed : (text : List ℕ) (reason : ShapeFault) → folder_wanted text ≡ Err reason → file_of text ≡ Err reason
unformed text reason h = unformed_by text reason (file_of text) refl h

-- what is held beside a text that was read: the text is the whole
text_held : (file : StreamState) (dir : DirState) (text : List ℕ) (held : List (ℕ × Key)) (wanted : Result Bool ShapeFault) → folder_wanted text ≡ wanted
    → IsRead file text → AreHeld wanted dir held → IsText text file
text_held file dir text held (Ok true) is read are = let f = formed text true is in formed_text file text f.0 read f.1
text_held file dir text held (Ok false) is read are = let f = formed text false is in formed_text file text f.0 read f.1
text_held file dir text held (Err reason) is read are = absurd are

pub whole_text : (file : StreamState) (dir : DirState) (text : List ℕ) (held : List (ℕ × Key)) → IsRead file text → AreHeld (folder_wanted text) dir held → IsText text file
whole_text file dir text held read are = text_held file dir text held (folder_wanted text) refl read are

-- what stops an opening

refuses_keys : (file : StreamState) (dir : DirState) (text : List ℕ) (reason : KeysFault) → IsRead file text → RefusesKeys text dir reason → RefusesFolder file dir reason
refuses_keys file dir text reason read refuses =
    let f = formed text true refuses.0 in record { text = text; is_text = formed_text file text f.0 read f.1; wanted = refuses.0; told = refuses.1 }

pub held_stops : {Link : Type 0} (file : StreamState) (dir : DirState) (desk : DeskState Link) (text : List ℕ) (f : Fault) → IsRead file text → StopsHeld text dir f → StopsOpening file dir desk desk f
held_stops file dir desk text fault.Memory read stops = ([], drew_none desk)
held_stops file dir desk text (fault.Opening (refusal.Shape reason)) read stops = (refuses_form file text reason read (unformed text reason stops), refl)
held_stops file dir desk text (fault.Opening (refusal.Policy reason)) read stops = absurd stops
held_stops file dir desk text (fault.Opening (refusal.BadKey path)) read stops = absurd stops
held_stops file dir desk text (fault.Opening refusal.Random) read stops = absurd stops
held_stops file dir desk text (fault.Opening refusal.Memory) read stops = absurd stops
held_stops file dir desk text fault.Folder read stops =
    let f = formed text true stops in (record { text = text; is_text = formed_text file text f.0 read f.1; wanted = stops }, refl)
held_stops file dir desk text (fault.Keys keys.NoKeys) read stops = (refuses_keys file dir text keys.NoKeys read stops, refl)
held_stops file dir desk text (fault.Keys (keys.BadKey index)) read stops = (refuses_keys file dir text (keys.BadKey index) read stops, refl)
held_stops file dir desk text (fault.Keys keys.TooMany) read stops = (refuses_keys file dir text keys.TooMany read stops, refl)
held_stops file dir desk text (fault.Keys keys.Failed) read stops = absurd stops
held_stops file dir desk text (fault.Keys keys.AlreadySet) read stops = absurd stops
held_stops file dir desk text (fault.Keys keys.IndexEnd) read stops = absurd stops
held_stops file dir desk text (fault.Keys keys.Memory) read stops = absurd stops
held_stops file dir desk text fault.Usage read stops = absurd stops
held_stops file dir desk text fault.BadPassword read stops = absurd stops
held_stops file dir desk text fault.Read read stops = absurd stops
held_stops file dir desk text fault.Write read stops = absurd stops
held_stops file dir desk text (fault.BadLine n) read stops = absurd stops
held_stops file dir desk text (fault.State reason) read stops = absurd stops
held_stops file dir desk text (fault.Keeper why) read stops = absurd stops
held_stops file dir desk text fault.OtherOpening read stops = absurd stops
held_stops file dir desk text (fault.BadEntry n) read stops = absurd stops
held_stops file dir desk text fault.Desk read stops = absurd stops

-- the file, read before, is refused
pub opening_stops : {Link : Type 0} (file : StreamState) (dir : DirState) (old new : DeskState Link) (text : List ℕ) (held : List (ℕ × Key)) (f : OpeningFault) → IsRead file text
    → AreHeld (folder_wanted text) dir held → AnswersOpening text held old new (Err f) → StopsOpening file dir old new (of_opening f)
opening_stops file dir old new text held (refusal.Shape reason) read are answers = (refuses_form file text reason read answers.0, answers.1)
opening_stops file dir old new text held (refusal.Policy reason) read are answers =
    record { text = text; held = held; is_text = whole_text file dir text held read are; are_held = are; refused = answers }
opening_stops file dir old new text held (refusal.BadKey path) read are answers =
    record { text = text; held = held; is_text = whole_text file dir text held read are; are_held = are; refused = answers }
opening_stops file dir old new text held refusal.Random read are answers =
    record { text = text; held = held; is_text = whole_text file dir text held read are; are_held = are; refused = answers }
opening_stops file dir old new text held refusal.Memory read are answers = answers

-- a server opens with what was read, held and drawn
pub is_opening : {Link : Type 0} (file : StreamState) (dir : DirState) (old new : DeskState Link) (text : List ℕ) (held : List (ℕ × Key)) (drawn : List ℕ) (opening : PlainOpening)
    → IsRead file text → AreHeld (folder_wanted text) dir held → Opens text held drawn opening → Drew old new drawn 0 → IsOpening file dir old new opening
is_opening file dir old new text held drawn opening read are opens drew = record {
  text = text;
  held = held;
  drawn = drawn;
  is_text = whole_text file dir text held read are;
  are_held = are;
  opens = opens;
  drew = drew;
}

pub opens : {Link : Type 0} (file : StreamState) (dir : DirState) (old new : DeskState Link) (text : List ℕ) (held : List (ℕ × Key)) (opening : Opening) → IsRead file text
    → AreHeld (folder_wanted text) dir held → AnswersOpening text held old new (Ok opening) → IsOpening file dir old new (plain opening)
opens file dir old new text held opening read are answers =
    is_opening file dir old new text held answers.0 (plain opening) read are answers.1 answers.2
