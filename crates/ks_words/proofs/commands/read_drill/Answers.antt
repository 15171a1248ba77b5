use Rattle.std.proofs.Common.{◌≡◌, ℕ, List, Some, None, ap, sym, ◌∙◌, codes}
use Rattle.std.specs.Borrow.{Bor}
use Rattle.std.specs.Prelude.{map}
use Rattle.clap.specs.Words.{Row, app_of, first_of, found_of, rows_of}
use Rattle.clap.specs.declared.parser.matches.ArgMatches.{ArgMatches}
use Rattle.clap.proofs.WalkLemmas.{first_value-rows}
use Rattle.ks_words.specs.Words.{drill, number_said}
use Rattle.ks_words.specs.declared.words.Words.TheVariants.{Drill}
use Rattle.ks_words.proofs.DrillLemmas.{drilled_is, no_count, no_start}
use Rattle.ks_words.proofs.ReadLemmas.{found_none, found_some, read_by_none, read_by_some}
use Rattle.ks_words.proofs.commands.read_drill.Goals as goal

pub returns-in_default : goal.returns-in_default
returns-in_default c =
    read_by_none drill (app_of c.in_ok-drill_command.field-0) (map (λ (word : Bor (List ℕ)). word.now) c.args.words.now) c.in_ok-drill_command.ensures
    (found_none (λ (m : ArgMatches). rows_of (found_of m)) c.in_ok-matches.field-0 _ c.in_default.is c.in_ok-matches.ensures)

pub returns-in_default-number_of : goal.returns-in_default-number_of
returns-in_default-number_of c =
    let rows : List Row = rows_of (found_of c.in-Some.matches) in
    let start : number_said 0 1000000 (first_of (codes "start") rows) ≡ None =
    ap (number_said 0 1000000) (sym (first_value-rows (found_of c.in-Some.matches) (codes "start"))) ∙ sym c.number_of.ensures ∙ c.in_default-number_of.is in
    no_start rows start
    ∙ read_by_some drill (app_of c.in_ok-drill_command.field-0) (map (λ (word : Bor (List ℕ)). word.now) c.args.words.now) rows c.in_ok-drill_command.ensures
    (found_some (λ (m : ArgMatches). rows_of (found_of m)) c.in_ok-matches.field-0 _ _ c.in-Some.is c.in_ok-matches.ensures)

pub returns-in-Some-number_of-2 : goal.returns-in-Some-number_of-2
returns-in-Some-number_of-2 c =
    let rows : List Row = rows_of (found_of c.in-Some.matches) in
    let start : number_said 0 1000000 (first_of (codes "start") rows) ≡ Some c.in-Some-number_of.start =
    ap (number_said 0 1000000) (sym (first_value-rows (found_of c.in-Some.matches) (codes "start"))) ∙ sym c.number_of.ensures ∙ c.in-Some-number_of.is in
    let count : number_said 1 2000 (first_of (codes "count") rows) ≡ Some c.in-Some-number_of-2.count =
    ap (number_said 1 2000) (sym (first_value-rows (found_of c.in-Some.matches) (codes "count"))) ∙ sym c.number_of-2.ensures ∙ c.in-Some-number_of-2.is in
    ap (λ (n : ℕ). Drill n c.in-Some-number_of-2.count) c.from.ensures
    ∙ drilled_is rows c.in-Some-number_of.start c.in-Some-number_of-2.count start count
    ∙ read_by_some drill (app_of c.in_ok-drill_command.field-0) (map (λ (word : Bor (List ℕ)). word.now) c.args.words.now) rows c.in_ok-drill_command.ensures
    (found_some (λ (m : ArgMatches). rows_of (found_of m)) c.in_ok-matches.field-0 _ _ c.in-Some.is c.in_ok-matches.ensures)

pub returns : goal.returns
returns c =
    let rows : List Row = rows_of (found_of c.in-Some.matches) in
    let start : number_said 0 1000000 (first_of (codes "start") rows) ≡ Some c.in-Some-number_of.start =
    ap (number_said 0 1000000) (sym (first_value-rows (found_of c.in-Some.matches) (codes "start"))) ∙ sym c.number_of.ensures ∙ c.in-Some-number_of.is in
    let count : number_said 1 2000 (first_of (codes "count") rows) ≡ None =
    ap (number_said 1 2000) (sym (first_value-rows (found_of c.in-Some.matches) (codes "count"))) ∙ sym c.number_of-2.ensures ∙ c.in-None.is in
    no_count rows c.in-Some-number_of.start start count
    ∙ read_by_some drill (app_of c.in_ok-drill_command.field-0) (map (λ (word : Bor (List ℕ)). word.now) c.args.words.now) rows c.in_ok-drill_command.ensures
    (found_some (λ (m : ArgMatches). rows_of (found_of m)) c.in_ok-matches.field-0 _ _ c.in-Some.is c.in_ok-matches.ensures)
