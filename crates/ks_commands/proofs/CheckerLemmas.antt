-- How the checker's calls move a check that stands.
use Rattle.std.proofs.Common.{◌≡◌, ℕ, ◌+◌, ◌<◌, ◌≤◌, filter, List, [], ◌∷◌, ◌++◌, length, Bool, true, false, ◌-◌, ◌≢◌, take, drop, ◌==◌, inl, inr, Option, Some, Result, Ok, Err, OnOk, refl, sym, ap, ◌∙◌, subst, arith, length-append, append_assoc, append-nil}
use Rattle.std.proofs.lemmas.Bool.Decides.{nat_tests}
use Rattle.std.proofs.lemmas.List.{length-take, take-append-drop}
use Rattle.std.proofs.lemmas.List.Elements.{filter-append}
use Rattle.ks_commands.specs.declared.fault.Fault.{Fault}
use Rattle.ks_commands.specs.declared.fault.Fault.TheVariants as fault
use Rattle.ks_commands.specs.declared.checker.CheckPlace.{CheckPlace}
use Rattle.ks_commands.specs.declared.checker.Checker.{Checker}
use Rattle.ks_commands.specs.Lines.{IsInLine, line_feeds, lines_of}
use Rattle.ks_commands.specs.Check.{End, Checked, check_of, Whole, BadLine, steps_of, check_from, bad_line, onto, go_on}
use Rattle.ks_commands.specs.steps.Progress.{Holds, EndsLine, WritesOut, Stands, StandsAtBadLine, StandsAtEnd, HasLines, HoldsFront, Moves, Flushes, Finishes, IsAtStart, IsReading, StoppedReading, ReadsAll}
use Rattle.ks_commands.specs.Ending.{IsCutShort, EndsCheck, ReadsToLine}
use Rattle.ks_outside.specs.declared.failed.Failed.{Failed}
use Rattle.ks_outside.specs.Streams.{Begins}
use Rattle.ks_outside.specs.Streams as streams
use Rattle.ks_commands.proofs.CheckLemmas.{no_line_feed, step_of-long, check_long, check_line, check_last}

pub held_ends : (f : Fault) (bytes : List ℕ) (old new : Checker) → Holds bytes old new (Err f) → EndsLine bytes old new (Err f)
held_ends (fault.BadLine n) bytes old new h = ((step_of-long old.place _ h.0, h.1, h.2), tt)
held_ends fault.Memory bytes old new h = (h, tt)
held_ends fault.Usage bytes old new h = absurd h
held_ends fault.BadPassword bytes old new h = absurd h
held_ends fault.Folder bytes old new h = absurd h
held_ends (fault.Keys reason) bytes old new h = absurd h
held_ends (fault.Opening reason) bytes old new h = absurd h
held_ends (fault.State reason) bytes old new h = absurd h
held_ends (fault.Keeper why) bytes old new h = absurd h
held_ends fault.OtherOpening bytes old new h = absurd h
held_ends (fault.BadEntry n) bytes old new h = absurd h
held_ends fault.Desk bytes old new h = absurd h
held_ends fault.Read bytes old new h = absurd h
held_ends fault.Write bytes old new h = absurd h

onto-onto : (a b : List ℕ) (c : Checked) → onto a (onto b c) ≡ onto (a ++ b) c
onto-onto a b c = ap (λ out. record { output = out; end = c.end }) (sym (append_assoc a b c.output))

-- the front of what is in hand, behind what was written, is the front of the whole
pub front_more : (so_far part rest answers output : List ℕ) → part ++ rest ≡ answers → (so_far ++ part) ++ (rest ++ output) ≡ (so_far ++ answers) ++ output
front_more so_far part rest answers output e =
    append_assoc so_far part (rest ++ output) ∙ ap (λ l. so_far ++ l) (sym (append_assoc part rest output) ∙ ap (λ l. l ++ output) e) ∙ sym (append_assoc so_far answers output)

pub holds_front : (whole : List ℕ → Checked) (rest : List ℕ) (checker new : Checker) (written : Option (List ℕ)) (before : List ℕ) →
    Stands whole rest checker written before → new.answers.items ≡ checker.answers.items → HoldsFront whole new written before
holds_front whole rest checker new written before h e = record {
  so_far = h.so_far;
  written_is = h.written_is;
  front = λ more. let X = check_from checker.place (checker.line.items ++ (rest ++ more)) in
      (X.output, ap (λ a. (h.so_far ++ a) ++ X.output) e ∙ sym (ap (λ (c : Checked). c.output) (h.same more)));
}

pub stands_line : (result : Result (Unit {0}) Fault) (whole : List ℕ → Checked) (last rest : List ℕ) (old new : Checker) (written : Option (List ℕ)) (before : List ℕ) →
    Stands whole (last ++ 10 ∷ rest) old written before → IsInLine (old.line.items ++ last) → EndsLine last old new result → Moves whole rest result new written before
stands_line (Ok done) whole last rest old new written before h inside ends = record {
  so_far = h.so_far;
  written_is = h.written_is;
  same = λ more.
      let step = ends.0 in
      let cut : old.line.items ++ ((last ++ 10 ∷ rest) ++ more) ≡ (old.line.items ++ last) ++ 10 ∷ (rest ++ more)
      = ap (λ l. old.line.items ++ l) (append_assoc last (10 ∷ rest) more) ∙ sym (append_assoc old.line.items last (10 ∷ (rest ++ more))) in
      h.same more
      ∙ ap (λ text. onto (h.so_far ++ old.answers.items) (check_from old.place text)) cut
      ∙ ap (onto (h.so_far ++ old.answers.items)) (check_line old.place (old.line.items ++ last) (rest ++ more) inside)
      ∙ ap (λ s. onto (h.so_far ++ old.answers.items) (go_on s old.place.lines (λ next. check_from next (rest ++ more)))) step.1
      ∙ onto-onto (h.so_far ++ old.answers.items) step.0 (check_from new.place (rest ++ more))
      ∙ ap (λ out. onto out (check_from new.place (rest ++ more))) (append_assoc h.so_far old.answers.items step.0 ∙ ap (λ a. h.so_far ++ a) (sym step.2))
      ∙ ap (λ l. onto (h.so_far ++ new.answers.items) (check_from new.place (l ++ (rest ++ more)))) (sym ends.1);
}
stands_line (Err (fault.BadLine n)) whole last rest old new written before h inside ends = record {
  so_far = h.so_far;
  written_is = h.written_is;
  same = λ more.
      let step = ends.0 in
      let cut : old.line.items ++ ((last ++ 10 ∷ rest) ++ more) ≡ (old.line.items ++ last) ++ 10 ∷ (rest ++ more)
      = ap (λ l. old.line.items ++ l) (append_assoc last (10 ∷ rest) more) ∙ sym (append_assoc old.line.items last (10 ∷ (rest ++ more))) in
      h.same more
      ∙ ap (λ text. onto (h.so_far ++ old.answers.items) (check_from old.place text)) cut
      ∙ ap (onto (h.so_far ++ old.answers.items)) (check_line old.place (old.line.items ++ last) (rest ++ more) inside)
      ∙ ap (λ s. onto (h.so_far ++ old.answers.items) (go_on s old.place.lines (λ next. check_from next (rest ++ more)))) step.0
      ∙ ap (λ m. onto (h.so_far ++ old.answers.items) (bad_line m)) (sym step.1)
      ∙ ap (λ a. onto (h.so_far ++ a) (bad_line n)) (sym step.2);
}
stands_line (Err fault.Memory) whole last rest old new written before h inside ends = holds_front whole (last ++ 10 ∷ rest) old new written before h ends.0
stands_line (Err fault.Usage) whole last rest old new written before h inside ends = absurd ends.0
stands_line (Err fault.BadPassword) whole last rest old new written before h inside ends = absurd ends.0
stands_line (Err fault.Folder) whole last rest old new written before h inside ends = absurd ends.0
stands_line (Err (fault.Keys reason)) whole last rest old new written before h inside ends = absurd ends.0
stands_line (Err (fault.Opening reason)) whole last rest old new written before h inside ends = absurd ends.0
stands_line (Err (fault.State reason)) whole last rest old new written before h inside ends = absurd ends.0
stands_line (Err (fault.Keeper why)) whole last rest old new written before h inside ends = absurd ends.0
stands_line (Err fault.OtherOpening) whole last rest old new written before h inside ends = absurd ends.0
stands_line (Err (fault.BadEntry n)) whole last rest old new written before h inside ends = absurd ends.0
stands_line (Err fault.Desk) whole last rest old new written before h inside ends = absurd ends.0
stands_line (Err fault.Read) whole last rest old new written before h inside ends = absurd ends.0
stands_line (Err fault.Write) whole last rest old new written before h inside ends = absurd ends.0

pub stands_hold : (result : Result (Unit {0}) Fault) (whole : List ℕ → Checked) (bytes : List ℕ) (old new : Checker) (written : Option (List ℕ)) (before : List ℕ) →
    Stands whole bytes old written before → IsInLine (old.line.items ++ bytes) → Holds bytes old new result → Moves whole [] result new written before
stands_hold (Ok done) whole bytes old new written before h inside held = record {
  so_far = h.so_far;
  written_is = h.written_is;
  same = λ more. h.same more
      ∙ ap (λ text. onto (h.so_far ++ old.answers.items) (check_from old.place text)) (sym (append_assoc old.line.items bytes more) ∙ ap (λ l. l ++ more) (sym held.0))
      ∙ ap (λ p. onto (h.so_far ++ old.answers.items) (check_from p (new.line.items ++ more))) (sym held.1)
      ∙ ap (λ a. onto (h.so_far ++ a) (check_from new.place (new.line.items ++ more))) (sym held.2);
}
stands_hold (Err (fault.BadLine n)) whole bytes old new written before h inside held = record {
  so_far = h.so_far;
  written_is = h.written_is;
  same = λ more. h.same more
      ∙ ap (λ text. onto (h.so_far ++ old.answers.items) (check_from old.place text)) (sym (append_assoc old.line.items bytes more))
      ∙ ap (onto (h.so_far ++ old.answers.items)) (check_long old.place (old.line.items ++ bytes) more inside held.0)
      ∙ ap (λ m. onto (h.so_far ++ old.answers.items) (bad_line m)) (sym held.1)
      ∙ ap (λ a. onto (h.so_far ++ a) (bad_line n)) (sym held.2);
}
stands_hold (Err fault.Memory) whole bytes old new written before h inside held = holds_front whole bytes old new written before h held
stands_hold (Err fault.Usage) whole bytes old new written before h inside held = absurd held
stands_hold (Err fault.BadPassword) whole bytes old new written before h inside held = absurd held
stands_hold (Err fault.Folder) whole bytes old new written before h inside held = absurd held
stands_hold (Err (fault.Keys reason)) whole bytes old new written before h inside held = absurd held
stands_hold (Err (fault.Opening reason)) whole bytes old new written before h inside held = absurd held
stands_hold (Err (fault.State reason)) whole bytes old new written before h inside held = absurd held
stands_hold (Err (fault.Keeper why)) whole bytes old new written before h inside held = absurd held
stands_hold (Err fault.OtherOpening) whole bytes old new written before h inside held = absurd held
stands_hold (Err (fault.BadEntry n)) whole bytes old new written before h inside held = absurd held
stands_hold (Err fault.Desk) whole bytes old new written before h inside held = absurd held
stands_hold (Err fault.Read) whole bytes old new written before h inside held = absurd held
stands_hold (Err fault.Write) whole bytes old new written before h inside held = absurd held

pub stands_written : (result : Result (Unit {0}) Failed) (whole : List ℕ → Checked) (rest : List ℕ) (old new : Checker) (written written' : Option (List ℕ)) (before : List ℕ) →
    (h : Stands whole rest old written before) → WritesOut old result new written' (before ++ h.so_far) → Flushes whole rest result new written' before
stands_written (Ok done) whole rest old new written written' before h wrote = record {
  so_far = h.so_far ++ old.answers.items;
  written_is = wrote.0 ∙ ap Some (append_assoc before h.so_far old.answers.items);
  same = λ more. h.same more
      ∙ ap (λ out. onto out (check_from old.place (old.line.items ++ (rest ++ more)))) (sym (append-nil (h.so_far ++ old.answers.items)) ∙ ap (λ a. (h.so_far ++ old.answers.items) ++ a) (sym wrote.1))
      ∙ ap (λ l. onto ((h.so_far ++ old.answers.items) ++ new.answers.items) (check_from old.place (l ++ (rest ++ more)))) (sym wrote.2)
      ∙ ap (λ p. onto ((h.so_far ++ old.answers.items) ++ new.answers.items) (check_from p (new.line.items ++ (rest ++ more)))) (sym wrote.3);
}
stands_written (Err failed) whole rest old new written written' before h wrote = record {
  so_far = h.so_far ++ wrote.0;
  written_is = wrote.2 ∙ ap Some (append_assoc before h.so_far wrote.0);
  front = λ more. let X = check_from old.place (old.line.items ++ (rest ++ more)) in
      (wrote.1.0 ++ X.output, front_more h.so_far wrote.0 wrote.1.0 old.answers.items X.output wrote.1.1 ∙ sym (ap (λ (c : Checked). c.output) (h.same more)));
}

ends_early : (place : CheckPlace) → place.lines ≡ 0 → check_from place [] ≡ bad_line 1
unfolding lines_of steps_of
ends_early place none = rw none refl

ends_whole : (place : CheckPlace) → (lines : ℕ) → place.lines ≡ lines + 1 → check_from place [] ≡ record { output = []; end = Whole }
unfolding lines_of steps_of
ends_whole place lines some = grind (arith, nat_tests)

pub finish_early : (whole : List ℕ → Checked) (checker : Checker) (written : Option (List ℕ)) (before : List ℕ) →
    Stands whole [] checker written before → checker.line.items ≡ [] → checker.place.lines ≡ 0 → StandsAtEnd (whole []) (BadLine 1) checker written before
finish_early whole checker written before h empty none = record {
  so_far = h.so_far;
  written_is = h.written_is;
  same = h.same []
      ∙ ap (λ l. onto (h.so_far ++ checker.answers.items) (check_from checker.place (l ++ []))) empty
      ∙ ap (onto (h.so_far ++ checker.answers.items)) (ends_early checker.place none)
      ∙ ap (λ out. record { output = out; end = BadLine 1 }) (append-nil (h.so_far ++ checker.answers.items));
}

pub finish_whole : (whole : List ℕ → Checked) (checker : Checker) (written : Option (List ℕ)) (before : List ℕ) →
    Stands whole [] checker written before → checker.line.items ≡ [] → (lines : ℕ) → checker.place.lines ≡ lines + 1 → StandsAtEnd (whole []) Whole checker written before
finish_whole whole checker written before h empty lines some = record {
  so_far = h.so_far;
  written_is = h.written_is;
  same = h.same []
      ∙ ap (λ l. onto (h.so_far ++ checker.answers.items) (check_from checker.place (l ++ []))) empty
      ∙ ap (onto (h.so_far ++ checker.answers.items)) (ends_whole checker.place lines some)
      ∙ ap (λ out. record { output = out; end = Whole }) (append-nil (h.so_far ++ checker.answers.items));
}

pub finish_line : (result : Result (Unit {0}) Fault) (whole : List ℕ → Checked) (old new : Checker) (written : Option (List ℕ)) (before : List ℕ) →
    Stands whole [] old written before → IsInLine (old.line.items ++ []) → 0 < length old.line.items → EndsLine [] old new result →
    OnOk result (new.place.lines ≡ old.place.lines + 1) → Finishes whole result new written before
finish_line (Ok done) whole old new written before h inside long ends forward = record {
  so_far = h.so_far;
  written_is = h.written_is;
  same =
      let step = ends.0 in
      let longer : 0 < length (old.line.items ++ []) = omega (arith, long, length-append old.line.items []) in
      h.same []
      ∙ ap (onto (h.so_far ++ old.answers.items)) (check_last old.place (old.line.items ++ []) inside longer)
      ∙ ap (λ s. onto (h.so_far ++ old.answers.items) (go_on s old.place.lines (λ next. check_from next []))) step.1
      ∙ onto-onto (h.so_far ++ old.answers.items) step.0 (check_from new.place [])
      ∙ ap (onto ((h.so_far ++ old.answers.items) ++ step.0)) (ends_whole new.place old.place.lines forward)
      ∙ ap (λ out. record { output = out; end = Whole }) (append-nil ((h.so_far ++ old.answers.items) ++ step.0) ∙ append_assoc h.so_far old.answers.items step.0 ∙ ap (λ a. h.so_far ++ a) (sym step.2));
}
finish_line (Err (fault.BadLine n)) whole old new written before h inside long ends forward = record {
  so_far = h.so_far;
  written_is = h.written_is;
  same =
      let step = ends.0 in
      let longer : 0 < length (old.line.items ++ []) = omega (arith, long, length-append old.line.items []) in
      h.same []
      ∙ ap (onto (h.so_far ++ old.answers.items)) (check_last old.place (old.line.items ++ []) inside longer)
      ∙ ap (λ s. onto (h.so_far ++ old.answers.items) (go_on s old.place.lines (λ next. check_from next []))) step.0
      ∙ ap (λ m. record { output = (h.so_far ++ old.answers.items) ++ []; end = BadLine m }) (sym step.1)
      ∙ ap (λ out. record { output = out; end = BadLine n }) (append-nil (h.so_far ++ old.answers.items) ∙ ap (λ a. h.so_far ++ a) (sym step.2));
}
finish_line (Err fault.Memory) whole old new written before h inside long ends forward = holds_front whole [] old new written before h ends.0
finish_line (Err fault.Usage) whole old new written before h inside long ends forward = absurd ends.0
finish_line (Err fault.BadPassword) whole old new written before h inside long ends forward = absurd ends.0
finish_line (Err fault.Folder) whole old new written before h inside long ends forward = absurd ends.0
finish_line (Err (fault.Keys reason)) whole old new written before h inside long ends forward = absurd ends.0
finish_line (Err (fault.Opening reason)) whole old new written before h inside long ends forward = absurd ends.0
finish_line (Err (fault.State reason)) whole old new written before h inside long ends forward = absurd ends.0
finish_line (Err (fault.Keeper why)) whole old new written before h inside long ends forward = absurd ends.0
finish_line (Err fault.OtherOpening) whole old new written before h inside long ends forward = absurd ends.0
finish_line (Err (fault.BadEntry n)) whole old new written before h inside long ends forward = absurd ends.0
finish_line (Err fault.Desk) whole old new written before h inside long ends forward = absurd ends.0
finish_line (Err fault.Read) whole old new written before h inside long ends forward = absurd ends.0
finish_line (Err fault.Write) whole old new written before h inside long ends forward = absurd ends.0

-- what is said of a call that failed
pub moves_err : (f : Fault) (whole : List ℕ → Checked) (rest rest' : List ℕ) (checker : Checker) (written : Option (List ℕ)) (before : List ℕ) →
    Moves whole rest (Err f) checker written before → Moves whole rest' (Err f) checker written before
moves_err (fault.BadLine n) whole rest rest' checker written before h = h
moves_err fault.Memory whole rest rest' checker written before h = h
moves_err fault.Usage whole rest rest' checker written before h = absurd h
moves_err fault.BadPassword whole rest rest' checker written before h = absurd h
moves_err fault.Folder whole rest rest' checker written before h = absurd h
moves_err (fault.Keys reason) whole rest rest' checker written before h = absurd h
moves_err (fault.Opening reason) whole rest rest' checker written before h = absurd h
moves_err (fault.State reason) whole rest rest' checker written before h = absurd h
moves_err (fault.Keeper why) whole rest rest' checker written before h = absurd h
moves_err fault.OtherOpening whole rest rest' checker written before h = absurd h
moves_err (fault.BadEntry n) whole rest rest' checker written before h = absurd h
moves_err fault.Desk whole rest rest' checker written before h = absurd h
moves_err fault.Read whole rest rest' checker written before h = absurd h
moves_err fault.Write whole rest rest' checker written before h = h

pub not_empty : (n : ℕ) (b : Bool) → b ≡ false → b ≡ (n == 0) → 0 < n
not_empty n b lacks is = grind (arith, nat_tests)

pub is_empty : (n : ℕ) (b : Bool) → b ≡ true → b ≡ (n == 0) → n ≡ 0
is_empty n b empty is = grind (arith, nat_tests)

pub some_lines : (n : ℕ) → n ≢ 0 → n ≡ (n - 1) + 1
some_lines n some = omega arith

split_read : (n : ℕ) (piece text read rest : List ℕ) → text ≡ read ++ rest → take n piece ≡ take n rest → text ≡ (read ++ take n piece) ++ drop n rest
split_read n piece text read rest whole given = whole
    ∙ ap (λ l. read ++ l) (sym (take-append-drop n rest) ∙ ap (λ l. l ++ drop n rest) (sym given))
    ∙ sym (append_assoc read (take n piece) (drop n rest))

begins_of : (front : List ℕ) (a b : Checked) → a ≡ b → Begins front a.output → Begins front b.output
begins_of front a b e h = (h.0, h.1 ∙ ap (λ (c : Checked). c.output) e)

at_bad_line : (total : Checked) (n : ℕ) (checker : Checker) (written : Option (List ℕ)) (before : List ℕ) {whole : List ℕ → Checked} →
    StandsAtBadLine whole n checker written before → (more : List ℕ) → total ≡ whole more → StandsAtEnd total (BadLine n) checker written before
at_bad_line total n checker written before h more e = record {
  so_far = h.so_far;
  written_is = h.written_is;
  same = e ∙ h.same more ∙ ap (λ out. record { output = out; end = BadLine n }) (append-nil (h.so_far ++ checker.answers.items));
}

ended_at : (end : End) (read text : List ℕ) (checker : Checker) (written : Option (List ℕ)) (before : List ℕ) →
    StandsAtEnd (check_of read) end checker written before → read ≡ text → StandsAtEnd (check_of text) end checker written before
ended_at end read text checker written before h e = record {
  so_far = h.so_far;
  written_is = h.written_is;
  same = ap check_of (sym e) ∙ h.same;
}

ended_input : (text : List ℕ) (left left' : Option (List ℕ)) (checker : Checker) (written : Option (List ℕ)) (before : List ℕ) {piece : List ℕ} →
    (r : IsReading text left checker written before) → streams.Takes r.rest left' piece 0 → r.read ++ [] ≡ text
ended_input text left left' checker written before r taken = ap (λ l. r.read ++ l) (sym (taken.ended refl)) ∙ sym r.input_is

left_ended : (text : List ℕ) (left left' : Option (List ℕ)) (checker : Checker) (written : Option (List ℕ)) (before : List ℕ) {piece : List ℕ} →
    (r : IsReading text left checker written before) → streams.Takes r.rest left' piece 0 → left' ≡ Some []
left_ended text left left' checker written before r taken = taken.rest ∙ ap Some (taken.ended refl)

-- lines that were read

feeds-append : (a b : List ℕ) → line_feeds (a ++ b) ≡ line_feeds a + line_feeds b
feeds-append a b = ap (λ l. length l) (filter-append (λ c. c == 10) a b) ∙ length-append (filter (λ c. c == 10) a) (filter (λ c. c == 10) b)

feeds_inside : (line : List ℕ) → IsInLine line → line_feeds line ≡ 0
feeds_inside [] h = refl
feeds_inside (b ∷ line) h =
    let parts = no_line_feed (b == 10) _ h in rw parts.0 (feeds_inside line parts.1)

pub lines_kept : (old new : Checker) (read : List ℕ) → new.place ≡ old.place → new.line.items ≡ old.line.items → HasLines old read → HasLines new read
lines_kept old new read place line h = record {
  lines = h.lines;
  read_is = h.read_is ∙ ap (λ l. h.lines ++ l) (sym line);
  whole = h.whole;
  counted = h.counted ∙ ap (λ (p : CheckPlace). p.lines) (sym place);
}

pub lines_ended : (old new : Checker) (read last : List ℕ) → IsInLine (old.line.items ++ last) → new.place.lines ≡ old.place.lines + 1 → new.line.items ≡ []
    → HasLines old read → HasLines new (read ++ (last ++ 10 ∷ []))
lines_ended old new read last inside forward empty h =
    let whole = old.line.items ++ last in
    let same : read ++ (last ++ 10 ∷ []) ≡ h.lines ++ (whole ++ 10 ∷ []) =
    ap (λ r. r ++ (last ++ 10 ∷ [])) h.read_is
    ∙ (append_assoc h.lines old.line.items (last ++ 10 ∷ []) ∙ ap (λ l. h.lines ++ l) (sym (append_assoc old.line.items last (10 ∷ [])))) in
    let none = feeds_inside whole inside in
    record {
      lines = h.lines ++ (whole ++ 10 ∷ []);
      read_is = same ∙ (sym (append-nil (h.lines ++ (whole ++ 10 ∷ []))) ∙ ap (λ l. (h.lines ++ (whole ++ 10 ∷ [])) ++ l) (sym empty));
      whole = inr (h.lines ++ whole, sym (append_assoc h.lines whole (10 ∷ [])));
      counted = let a = feeds-append h.lines (whole ++ 10 ∷ []) in let b = feeds-append whole (10 ∷ []) in let counted = h.counted in omega (arith, a, b, none, counted, forward);
    }

pub lines_held : (old new : Checker) (read bytes : List ℕ) → Holds bytes old new (Ok tt) → HasLines old read → HasLines new (read ++ bytes)
lines_held old new read bytes held h = record {
  lines = h.lines;
  read_is = ap (λ r. r ++ bytes) h.read_is ∙ (append_assoc h.lines old.line.items bytes ∙ ap (λ l. h.lines ++ l) (sym held.0));
  whole = h.whole;
  counted = h.counted ∙ ap (λ (p : CheckPlace). p.lines) (sym held.1);
}

-- a bad line is none of those that were answered

pub bad_held : (f : Fault) (lines : ℕ) (bytes : List ℕ) (old new : Checker) → lines ≤ old.place.lines → Holds bytes old new (Err f) → (n : ℕ) → f ≡ fault.BadLine n → lines < n
bad_held f lines bytes old new le held n is = let h = subst (λ e. Holds bytes old new (Err e)) is held in omega (arith, le, h.1)

pub bad_behind : (f : Fault) (lines : ℕ) (last : List ℕ) (old new : Checker) → lines ≤ old.place.lines → EndsLine last old new (Err f) → (n : ℕ) → f ≡ fault.BadLine n → lines < n
bad_behind f lines last old new le ends n is = let h = subst (λ e. EndsLine last old new (Err e)) is ends in omega (arith, le, h.0.1)

pub bad_line_of : (result : Result (Unit {0}) Fault) (lines : ℕ) (last : List ℕ) (old new : Checker) → lines ≤ old.place.lines → EndsLine last old new result
    → (n : ℕ) → result ≡ Err (fault.BadLine n) → lines < n
bad_line_of result lines last old new le ends n is = let h = subst (λ r. EndsLine last old new r) is ends in omega (arith, le, h.0.1)

-- a piece that was read comes behind what was read before
pub stands_piece : (read piece : List ℕ) (checker : Checker) (written : Option (List ℕ)) (before : List ℕ) →
    Stands (λ more. check_of (read ++ more)) [] checker written before → Stands (λ more. check_of ((read ++ piece) ++ more)) piece checker written before
stands_piece read piece checker written before h = record {
  so_far = h.so_far;
  written_is = h.written_is;
  same = λ more. ap check_of (append_assoc read piece more) ∙ h.same (piece ++ more);
}

pub starts : (checker : Checker) (text before : List ℕ) (left written : Option (List ℕ)) → IsAtStart checker → left ≡ Some text → written ≡ Some before →
    IsReading text left checker written before
starts checker text before left written fresh left_is written_is = record {
  read = [];
  rest = text;
  input_is = refl;
  left_is = left_is;
  stands = record {
    so_far = [];
    written_is = written_is ∙ ap Some (sym (append-nil before));
    same = λ more.
        ap (λ p. onto [] (check_from p more)) (sym fresh.0)
        ∙ ap (λ l. onto [] (check_from checker.place (l ++ more))) (sym fresh.1)
        ∙ ap (λ a. onto a (check_from checker.place (checker.line.items ++ more))) (sym fresh.2);
  };
  lines = record { lines = []; read_is = sym fresh.1; whole = inl refl; counted = ap (λ (p : CheckPlace). p.lines) (sym fresh.0) };
}

-- behind the next piece
pub reads_on : (n : ℕ) (piece : List ℕ) (text : List ℕ) (left left' : Option (List ℕ)) (old new : Checker) (written written' : Option (List ℕ)) (before : List ℕ) →
    (r : IsReading text left old written before) → streams.Takes r.rest left' piece n →
    Moves (λ more. check_of ((r.read ++ take n piece) ++ more)) [] (Ok tt) new written' before → HasLines new (r.read ++ take n piece)
    → IsReading text left' new written' before
reads_on n piece text left left' old new written written' before r taken moves lines = record {
  read = r.read ++ take n piece;
  rest = drop n r.rest;
  input_is = split_read n piece text r.read r.rest r.input_is taken.given;
  left_is = taken.rest;
  stands = moves;
  lines = lines;
}

-- a bad line in a piece
near_line : (m n : ℕ) (piece text : List ℕ) (left left' : Option (List ℕ)) (old : Checker) (written : Option (List ℕ)) (before : List ℕ)
    → (r : IsReading text left old written before) → streams.Takes r.rest left' piece n → n ≤ 65536 → old.place.lines < m → ReadsToLine m text left'
near_line m n piece text left left' old written before r taken short behind =
    let lines = r.lines in record {
      lines = lines.lines;
      begun = old.line.items;
      piece = take n r.rest;
      rest = drop n r.rest;
      input_is = r.input_is
          ∙ (ap (λ l. l ++ r.rest) lines.read_is
          ∙ (append_assoc lines.lines old.line.items r.rest ∙ ap (λ l. lines.lines ++ (old.line.items ++ l)) (sym (take-append-drop n r.rest))));
      whole = lines.whole;
      few = let counted = lines.counted in omega (arith, counted, behind);
      begun_short = old.short;
      piece_short = let size = length-take n r.rest in omega (arith, size, short);
      left_is = taken.rest;
    }

-- where the piece's lines stopped the check
pub stops_at : (f : Fault) (n : ℕ) (piece : List ℕ) (text : List ℕ) (left left' : Option (List ℕ)) (old new : Checker) (written written' : Option (List ℕ)) (before : List ℕ) →
    (r : IsReading text left old written before) → streams.Takes r.rest left' piece n → n ≤ 65536 → ((m : ℕ) → f ≡ fault.BadLine m → old.place.lines < m) →
    Moves (λ more. check_of ((r.read ++ take n piece) ++ more)) [] (Err f) new written' before → ReadsAll text left' (Err f) new written' before
stops_at (fault.BadLine m) n piece text left left' old new written written' before r taken short behind moves =
    let whole = split_read n piece text r.read r.rest r.input_is taken.given in record {
      read = r.read ++ take n piece;
      rest = drop n r.rest;
      input_is = whole;
      left_is = taken.rest;
      near = near_line m n piece text left left' old written before r taken short (behind m refl);
      here = at_bad_line (check_of (r.read ++ take n piece)) m new written' before moves [] (ap check_of (sym (append-nil (r.read ++ take n piece))));
      there = at_bad_line (check_of text) m new written' before moves (drop n r.rest) (ap check_of whole);
    }
stops_at fault.Write n piece text left left' old new written written' before r taken short behind moves = record {
  read = r.read ++ take n piece;
  rest = drop n r.rest;
  input_is = split_read n piece text r.read r.rest r.input_is taken.given;
  left_is = taken.rest;
  so_far = moves.so_far;
  written_is = moves.written_is;
  front = begins_of moves.so_far _ _ (ap check_of (append-nil (r.read ++ take n piece))) (moves.front []);
}
stops_at fault.Memory n piece text left left' old new written written' before r taken short behind moves = record {
  read = r.read ++ take n piece;
  rest = drop n r.rest;
  input_is = split_read n piece text r.read r.rest r.input_is taken.given;
  left_is = taken.rest;
  holds = moves;
}
stops_at fault.Usage n piece text left left' old new written written' before r taken short behind moves = absurd moves
stops_at fault.BadPassword n piece text left left' old new written written' before r taken short behind moves = absurd moves
stops_at fault.Folder n piece text left left' old new written written' before r taken short behind moves = absurd moves
stops_at (fault.Keys reason) n piece text left left' old new written written' before r taken short behind moves = absurd moves
stops_at (fault.Opening reason) n piece text left left' old new written written' before r taken short behind moves = absurd moves
stops_at (fault.State reason) n piece text left left' old new written written' before r taken short behind moves = absurd moves
stops_at (fault.Keeper why) n piece text left left' old new written written' before r taken short behind moves = absurd moves
stops_at fault.OtherOpening n piece text left left' old new written written' before r taken short behind moves = absurd moves
stops_at (fault.BadEntry number) n piece text left left' old new written written' before r taken short behind moves = absurd moves
stops_at fault.Desk n piece text left left' old new written written' before r taken short behind moves = absurd moves
stops_at fault.Read n piece text left left' old new written written' before r taken short behind moves = absurd moves

pub stops_reading : (text : List ℕ) (left left' : Option (List ℕ)) (checker : Checker) (written : Option (List ℕ)) (before : List ℕ) →
    (r : IsReading text left checker written before) → left' ≡ Some r.rest → StoppedReading text left' checker written before
stops_reading text left left' checker written before r left_is = record {
  read = r.read;
  rest = r.rest;
  input_is = r.input_is;
  left_is = left_is;
  holds = holds_front (λ more. check_of (r.read ++ more)) [] checker checker written before r.stands refl;
}

-- where the input has ended
pub finishes : (result : Result (Unit {0}) Fault) (piece : List ℕ) (text : List ℕ) (left left' : Option (List ℕ)) (old new : Checker) (written : Option (List ℕ)) (before : List ℕ) →
    (r : IsReading text left old written before) → streams.Takes r.rest left' piece 0 → ((m : ℕ) → result ≡ Err (fault.BadLine m) → old.place.lines < m) →
    Finishes (λ more. check_of (r.read ++ more)) result new written before → ReadsAll text left' result new written before
finishes (Ok done) piece text left left' old new written before r taken behind ends =
    (left_ended text left left' old written before r taken, ended_at Whole (r.read ++ []) text new written before ends (ended_input text left left' old written before r taken))
finishes (Err (fault.BadLine n)) piece text left left' old new written before r taken behind ends = record {
  read = r.read ++ [];
  rest = [];
  input_is = sym (ended_input text left left' old written before r taken) ∙ sym (append-nil (r.read ++ []));
  left_is = left_ended text left left' old written before r taken;
  here = ends;
  near = near_line n 0 piece text left left' old written before r taken (omega arith) (behind n refl);
  there = ended_at (BadLine n) (r.read ++ []) text new written before ends (ended_input text left left' old written before r taken);
}
finishes (Err fault.Memory) piece text left left' old new written before r taken behind ends = record {
  read = r.read;
  rest = r.rest;
  input_is = r.input_is;
  left_is = taken.rest;
  holds = ends;
}
finishes (Err fault.Usage) piece text left left' old new written before r taken behind ends = absurd ends
finishes (Err fault.BadPassword) piece text left left' old new written before r taken behind ends = absurd ends
finishes (Err fault.Folder) piece text left left' old new written before r taken behind ends = absurd ends
finishes (Err (fault.Keys reason)) piece text left left' old new written before r taken behind ends = absurd ends
finishes (Err (fault.Opening reason)) piece text left left' old new written before r taken behind ends = absurd ends
finishes (Err (fault.State reason)) piece text left left' old new written before r taken behind ends = absurd ends
finishes (Err (fault.Keeper why)) piece text left left' old new written before r taken behind ends = absurd ends
finishes (Err fault.OtherOpening) piece text left left' old new written before r taken behind ends = absurd ends
finishes (Err (fault.BadEntry n)) piece text left left' old new written before r taken behind ends = absurd ends
finishes (Err fault.Desk) piece text left left' old new written before r taken behind ends = absurd ends
finishes (Err fault.Read) piece text left left' old new written before r taken behind ends = absurd ends
finishes (Err fault.Write) piece text left left' old new written before r taken behind ends = absurd ends

cut_short : (read : List ℕ) (so_far answers part output : List ℕ) → Begins part answers → Begins (so_far ++ answers) output → Begins (so_far ++ part) output
cut_short read so_far answers part output p h = (p.0 ++ h.0, front_more so_far part p.0 answers h.0 p.1 ∙ h.1)

-- the last answers were written
pub closes : (ended : Result (Unit {0}) Fault) (text before : List ℕ) (left written written' : Option (List ℕ)) (old new : Checker) →
    ReadsAll text left ended old written before → ((b : List ℕ) → written ≡ Some b → WritesOut old (Ok tt) new written' b) → ended ≢ Err fault.Write →
    EndsCheck text before left written' ended
closes (Ok done) text before left written written' old new h wrote others =
    let out : (check_of text).output ≡ h.1.so_far ++ old.answers.items = ap (λ (c : Checked). c.output) h.1.same in
    ((wrote _ h.1.written_is).0 ∙ ap Some (append_assoc before h.1.so_far old.answers.items ∙ ap (λ o. before ++ o) (sym out)), ap (λ (c : Checked). c.end) h.1.same, h.0)
closes (Err (fault.BadLine n)) text before left written written' old new h wrote others =
    let there = h.there in
    let out : (check_of text).output ≡ there.so_far ++ old.answers.items = ap (λ (c : Checked). c.output) there.same in
    ((wrote _ there.written_is).0 ∙ ap Some (append_assoc before there.so_far old.answers.items ∙ ap (λ o. before ++ o) (sym out)), ap (λ (c : Checked). c.end) there.same, h.near)
closes (Err fault.Read) text before left written written' old new h wrote others = record {
  read = h.read;
  rest = h.rest;
  input_is = h.input_is;
  left_is = h.left_is;
  so_far = h.holds.so_far ++ old.answers.items;
  written_is = (wrote _ h.holds.written_is).0 ∙ ap Some (append_assoc before h.holds.so_far old.answers.items);
  front = begins_of (h.holds.so_far ++ old.answers.items) _ _ (ap check_of (append-nil h.read)) (h.holds.front []);
}
closes (Err fault.Memory) text before left written written' old new h wrote others = record {
  read = h.read;
  rest = h.rest;
  input_is = h.input_is;
  left_is = h.left_is;
  so_far = h.holds.so_far ++ old.answers.items;
  written_is = (wrote _ h.holds.written_is).0 ∙ ap Some (append_assoc before h.holds.so_far old.answers.items);
  front = begins_of (h.holds.so_far ++ old.answers.items) _ _ (ap check_of (append-nil h.read)) (h.holds.front []);
}
closes (Err fault.Write) text before left written written' old new h wrote others = absurd (others refl)
closes (Err fault.Usage) text before left written written' old new h wrote others = absurd h
closes (Err fault.BadPassword) text before left written written' old new h wrote others = absurd h
closes (Err fault.Folder) text before left written written' old new h wrote others = absurd h
closes (Err (fault.Keys reason)) text before left written written' old new h wrote others = absurd h
closes (Err (fault.Opening reason)) text before left written written' old new h wrote others = absurd h
closes (Err (fault.State reason)) text before left written written' old new h wrote others = absurd h
closes (Err (fault.Keeper why)) text before left written written' old new h wrote others = absurd h
closes (Err fault.OtherOpening) text before left written written' old new h wrote others = absurd h
closes (Err (fault.BadEntry n)) text before left written written' old new h wrote others = absurd h
closes (Err fault.Desk) text before left written written' old new h wrote others = absurd h

-- the last answers could not be written
pub closes_short : (ended : Result (Unit {0}) Fault) (failed : Failed) (text before : List ℕ) (left written written' : Option (List ℕ)) (old new : Checker) →
    ReadsAll text left ended old written before → ((b : List ℕ) → written ≡ Some b → WritesOut old (Err failed) new written' b) → ended ≢ Err fault.Write →
    IsCutShort text before left written'
closes_short (Ok done) failed text before left written written' old new h wrote others =
    let w = wrote _ h.1.written_is in record {
      read = text;
      rest = [];
      input_is = sym (append-nil text);
      left_is = h.0;
      so_far = h.1.so_far ++ w.0;
      written_is = w.2 ∙ ap Some (append_assoc before h.1.so_far w.0);
      front = cut_short text h.1.so_far old.answers.items w.0 _ w.1 ([], append-nil (h.1.so_far ++ old.answers.items) ∙ sym (ap (λ (c : Checked). c.output) h.1.same));
    }
closes_short (Err (fault.BadLine n)) failed text before left written written' old new h wrote others =
    let here = h.here in
    let w = wrote _ here.written_is in record {
      read = h.read;
      rest = h.rest;
      input_is = h.input_is;
      left_is = h.left_is;
      so_far = here.so_far ++ w.0;
      written_is = w.2 ∙ ap Some (append_assoc before here.so_far w.0);
      front = cut_short h.read here.so_far old.answers.items w.0 _ w.1 ([], append-nil (here.so_far ++ old.answers.items) ∙ sym (ap (λ (c : Checked). c.output) here.same));
    }
closes_short (Err fault.Read) failed text before left written written' old new h wrote others =
    let w = wrote _ h.holds.written_is in record {
      read = h.read;
      rest = h.rest;
      input_is = h.input_is;
      left_is = h.left_is;
      so_far = h.holds.so_far ++ w.0;
      written_is = w.2 ∙ ap Some (append_assoc before h.holds.so_far w.0);
      front = cut_short h.read h.holds.so_far old.answers.items w.0 _ w.1 (begins_of (h.holds.so_far ++ old.answers.items) _ _ (ap check_of (append-nil h.read)) (h.holds.front []));
    }
closes_short (Err fault.Memory) failed text before left written written' old new h wrote others =
    let w = wrote _ h.holds.written_is in record {
      read = h.read;
      rest = h.rest;
      input_is = h.input_is;
      left_is = h.left_is;
      so_far = h.holds.so_far ++ w.0;
      written_is = w.2 ∙ ap Some (append_assoc before h.holds.so_far w.0);
      front = cut_short h.read h.holds.so_far old.answers.items w.0 _ w.1 (begins_of (h.holds.so_far ++ old.answers.items) _ _ (ap check_of (append-nil h.read)) (h.holds.front []));
    }
closes_short (Err fault.Write) failed text before left written written' old new h wrote others = absurd (others refl)
closes_short (Err fault.Usage) failed text before left written written' old new h wrote others = absurd h
closes_short (Err fault.BadPassword) failed text before left written written' old new h wrote others = absurd h
closes_short (Err fault.Folder) failed text before left written written' old new h wrote others = absurd h
closes_short (Err (fault.Keys reason)) failed text before left written written' old new h wrote others = absurd h
closes_short (Err (fault.Opening reason)) failed text before left written written' old new h wrote others = absurd h
closes_short (Err (fault.State reason)) failed text before left written written' old new h wrote others = absurd h
closes_short (Err (fault.Keeper why)) failed text before left written written' old new h wrote others = absurd h
closes_short (Err fault.OtherOpening) failed text before left written written' old new h wrote others = absurd h
closes_short (Err (fault.BadEntry n)) failed text before left written written' old new h wrote others = absurd h
closes_short (Err fault.Desk) failed text before left written written' old new h wrote others = absurd h

-- nothing was read and nothing written
pub untouched : (text before : List ℕ) (left written : Option (List ℕ)) → left ≡ Some text → written ≡ Some before → IsCutShort text before left written
untouched text before left written left_is written_is = record {
  read = [];
  rest = text;
  input_is = refl;
  left_is = left_is;
  so_far = [];
  written_is = written_is ∙ ap Some (sym (append-nil before));
  front = ((check_of []).output, refl);
}
