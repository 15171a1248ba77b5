use Rattle.std.proofs.Common.{ℕ, List, ap, ◌∙◌, codes}
use Rattle.std.specs.Borrow.{Bor}
use Rattle.std.specs.Prelude.{map}
use Rattle.clap.specs.Words.{Row, app_of, found_of, rows_of}
use Rattle.clap.specs.declared.parser.matches.ArgMatches.{ArgMatches}
use Rattle.clap.proofs.WalkLemmas.{first_value-rows}
use Rattle.ks_words.specs.Words.{folder_places, setup}
use Rattle.ks_words.specs.declared.words.Words.TheVariants.{Setup}
use Rattle.ks_words.proofs.ReadLemmas.{found_none, found_some, read_by_none, read_by_some}
use Rattle.ks_words.proofs.commands.read_setup.Goals as goal

pub returns-in_ok-folder_alone-in-Some : goal.returns-in_ok-folder_alone-in-Some
returns-in_ok-folder_alone-in-Some c =
    let rows : List Row = rows_of (found_of c.in-Some.matches) in
    ap Setup (c.in_ok-folder_alone-in-Some.ensures ∙ ap folder_places (first_value-rows (found_of c.in-Some.matches) (codes "folder")))
    ∙ read_by_some setup (app_of c.in_ok-setup_command.field-0) (map (λ (word : Bor (List ℕ)). word.now) c.args.words.now) rows c.in_ok-setup_command.ensures
    (found_some (λ (m : ArgMatches). rows_of (found_of m)) c.in_ok-matches.field-0 _ _ c.in-Some.is c.in_ok-matches.ensures)

pub returns-in-None : goal.returns-in-None
returns-in-None c =
    read_by_none setup (app_of c.in_ok-setup_command.field-0) (map (λ (word : Bor (List ℕ)). word.now) c.args.words.now) c.in_ok-setup_command.ensures
    (found_none (λ (m : ArgMatches). rows_of (found_of m)) c.in_ok-matches.field-0 _ c.in-None.is c.in_ok-matches.ensures)
