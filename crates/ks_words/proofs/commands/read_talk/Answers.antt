use Rattle.std.proofs.Common.{ℕ, List, ◌∙◌, codes}
use Rattle.std.specs.Borrow.{Bor}
use Rattle.std.specs.Prelude.{map}
use Rattle.clap.specs.Words.{Row, app_of, found_of, rows_of}
use Rattle.clap.specs.declared.parser.matches.ArgMatches.{ArgMatches}
use Rattle.clap.proofs.WalkLemmas.{first_value-rows}
use Rattle.ks_words.specs.Words.{talk}
use Rattle.ks_words.proofs.ReadLemmas.{found_none, found_some, read_by_none, read_by_some}
use Rattle.ks_words.proofs.TalkLemmas.{talk_meant}
use Rattle.ks_words.proofs.commands.read_talk.Goals as goal

pub returns-in_ok-text_of-in-Some-2 : goal.returns-in_ok-text_of-in-Some-2
returns-in_ok-text_of-in-Some-2 c =
    let rows : List Row = rows_of (found_of c.in-Some.matches) in
    talk_meant c.in_ok-text_of-in-Some.field-0 c.in_ok-text_of-in-Some-2.field-0 rows
    (c.in_ok-text_of-in-Some.ensures ∙ first_value-rows (found_of c.in-Some.matches) (codes "file"))
    (c.in_ok-text_of-in-Some-2.ensures ∙ first_value-rows (found_of c.in-Some.matches) (codes "folder"))
    ∙ read_by_some talk (app_of c.in_ok-talk_command.field-0) (map (λ (word : Bor (List ℕ)). word.now) c.args.words.now) rows c.in_ok-talk_command.ensures
    (found_some (λ (m : ArgMatches). rows_of (found_of m)) c.in_ok-matches.field-0 _ _ c.in-Some.is c.in_ok-matches.ensures)

pub returns-in-None : goal.returns-in-None
returns-in-None c =
    read_by_none talk (app_of c.in_ok-talk_command.field-0) (map (λ (word : Bor (List ℕ)). word.now) c.args.words.now) c.in_ok-talk_command.ensures
    (found_none (λ (m : ArgMatches). rows_of (found_of m)) c.in_ok-matches.field-0 _ c.in-None.is c.in_ok-matches.ensures)
