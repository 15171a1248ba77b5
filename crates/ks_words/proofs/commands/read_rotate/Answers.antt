use Rattle.std.proofs.Common.{◌≡◌, ℕ, List, Some, None, ap, sym, ◌∙◌, codes}
use Rattle.std.specs.Borrow.{Bor}
use Rattle.std.specs.Prelude.{map}
use Rattle.clap.specs.Words.{Row, app_of, first_of, found_of, rows_of}
use Rattle.clap.specs.declared.parser.matches.ArgMatches.{ArgMatches}
use Rattle.clap.proofs.WalkLemmas.{first_value-rows}
use Rattle.ks_words.specs.Words.{folder_places, max_said, rotate, rotated_with}
use Rattle.ks_words.specs.declared.words.Words.TheVariants.{Rotate}
use Rattle.ks_words.proofs.ReadLemmas.{found_none, found_some, read_by_none, read_by_some}
use Rattle.ks_words.proofs.commands.read_rotate.Goals as goal

pub returns-in_default : goal.returns-in_default
returns-in_default c =
    read_by_none rotate (app_of c.in_ok-rotate_command.field-0) (map (λ (word : Bor (List ℕ)). word.now) c.args.words.now) c.in_ok-rotate_command.ensures
    (found_none (λ (m : ArgMatches). rows_of (found_of m)) c.in_ok-matches.field-0 _ c.in_default.is c.in_ok-matches.ensures)

pub returns-in-Some-max_of : goal.returns-in-Some-max_of
returns-in-Some-max_of c =
    let rows : List Row = rows_of (found_of c.in-Some.matches) in
    let folder = c.in_ok-folder_alone-in-Some-max_of.ensures ∙ ap folder_places (first_value-rows (found_of c.in-Some.matches) (codes "folder")) in
    let max : max_said (first_of (codes "max") rows) ≡ Some c.in-Some-max_of.max =
    ap max_said (sym (first_value-rows (found_of c.in-Some.matches) (codes "max"))) ∙ sym c.max_of.ensures ∙ c.in-Some-max_of.is in
    ap (λ places. Rotate places c.in-Some-max_of.max) folder
    ∙ ap (rotated_with (first_of (codes "folder") rows)) (sym max)
    ∙ read_by_some rotate (app_of c.in_ok-rotate_command.field-0) (map (λ (word : Bor (List ℕ)). word.now) c.args.words.now) rows c.in_ok-rotate_command.ensures
    (found_some (λ (m : ArgMatches). rows_of (found_of m)) c.in_ok-matches.field-0 _ _ c.in-Some.is c.in_ok-matches.ensures)

pub returns : goal.returns
returns c =
    let rows : List Row = rows_of (found_of c.in-Some.matches) in
    let max : max_said (first_of (codes "max") rows) ≡ None =
    ap max_said (sym (first_value-rows (found_of c.in-Some.matches) (codes "max"))) ∙ sym c.max_of.ensures ∙ c.in-None.is in
    ap (rotated_with (first_of (codes "folder") rows)) (sym max)
    ∙ read_by_some rotate (app_of c.in_ok-rotate_command.field-0) (map (λ (word : Bor (List ℕ)). word.now) c.args.words.now) rows c.in_ok-rotate_command.ensures
    (found_some (λ (m : ArgMatches). rows_of (found_of m)) c.in_ok-matches.field-0 _ _ c.in-Some.is c.in_ok-matches.ensures)
