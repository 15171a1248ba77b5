use Rattle.std.proofs.Common.{◌≡◌, ℕ, List, Some, None, ap, sym, ◌∙◌, codes}
use Rattle.std.specs.Borrow.{Bor}
use Rattle.std.specs.Prelude.{map}
use Rattle.clap.specs.Words.{Row, app_of, first_of, found_of, rows_of}
use Rattle.clap.specs.declared.parser.matches.ArgMatches.{ArgMatches}
use Rattle.clap.proofs.WalkLemmas.{first_value-rows}
use Rattle.ks_words.specs.Words.{derived_by, password, rounds_said}
use Rattle.ks_words.proofs.ReadLemmas.{found_none, found_some, read_by_none, read_by_some}
use Rattle.ks_words.proofs.commands.read_password.Goals as goal

pub returns-in_default : goal.returns-in_default
returns-in_default c =
    read_by_none password (app_of c.in_ok-password_command.field-0) (map (λ (word : Bor (List ℕ)). word.now) c.args.words.now) c.in_ok-password_command.ensures
    (found_none (λ (m : ArgMatches). rows_of (found_of m)) c.in_ok-matches.field-0 _ c.in_default.is c.in_ok-matches.ensures)

pub returns-in-Some-rounds_of : goal.returns-in-Some-rounds_of
returns-in-Some-rounds_of c =
    let rows : List Row = rows_of (found_of c.in-Some.matches) in
    let rounds : rounds_said (first_of (codes "rounds") rows) ≡ Some c.in-Some-rounds_of.rounds =
    ap rounds_said (sym (first_value-rows (found_of c.in-Some.matches) (codes "rounds"))) ∙ sym c.rounds_of.ensures ∙ c.in-Some-rounds_of.is in
    ap derived_by (sym rounds)
    ∙ read_by_some password (app_of c.in_ok-password_command.field-0) (map (λ (word : Bor (List ℕ)). word.now) c.args.words.now) rows c.in_ok-password_command.ensures
    (found_some (λ (m : ArgMatches). rows_of (found_of m)) c.in_ok-matches.field-0 _ _ c.in-Some.is c.in_ok-matches.ensures)

pub returns : goal.returns
returns c =
    let rows : List Row = rows_of (found_of c.in-Some.matches) in
    let rounds : rounds_said (first_of (codes "rounds") rows) ≡ None =
    ap rounds_said (sym (first_value-rows (found_of c.in-Some.matches) (codes "rounds"))) ∙ sym c.rounds_of.ensures ∙ c.in-None.is in
    ap derived_by (sym rounds)
    ∙ read_by_some password (app_of c.in_ok-password_command.field-0) (map (λ (word : Bor (List ℕ)). word.now) c.args.words.now) rows c.in_ok-password_command.ensures
    (found_some (λ (m : ArgMatches). rows_of (found_of m)) c.in_ok-matches.field-0 _ _ c.in-Some.is c.in_ok-matches.ensures)
