use Rattle.std.proofs.Common.{◌≡◌, ℕ, List, Some, None, ap, ap₂, sym, ◌∙◌, codes}
use Rattle.std.specs.Borrow.{Bor}
use Rattle.std.specs.Prelude.{map}
use Rattle.clap.specs.Words.{Row, app_of, first_of, found_of, rows_of}
use Rattle.clap.specs.declared.parser.matches.ArgMatches.{ArgMatches}
use Rattle.clap.proofs.WalkLemmas.{first_value-rows}
use Rattle.ks_words.specs.Words.{connections_said, serve, workers_said}
use Rattle.ks_words.specs.declared.words.Places.{Places}
use Rattle.ks_words.specs.declared.words.Words.TheVariants.{Serve}
use Rattle.ks_words.proofs.ReadLemmas.{found_none, found_some, read_by_none, read_by_some}
use Rattle.ks_words.proofs.ServeLemmas.{no_connections, no_workers, same_places, served_is}
use Rattle.ks_words.proofs.commands.read_serve.Goals as goal

pub returns-in_default : goal.returns-in_default
returns-in_default c =
    read_by_none serve (app_of c.in_ok-serve_command.field-0) (map (λ (word : Bor (List ℕ)). word.now) c.args.words.now) c.in_ok-serve_command.ensures
    (found_none (λ (m : ArgMatches). rows_of (found_of m)) c.in_ok-matches.field-0 _ c.in_default.is c.in_ok-matches.ensures)

pub returns-in_default-workers_of : goal.returns-in_default-workers_of
returns-in_default-workers_of c =
    let rows : List Row = rows_of (found_of c.in-Some.matches) in
    let workers : workers_said (first_of (codes "workers") rows) ≡ None =
    ap workers_said (sym (first_value-rows (found_of c.in-Some.matches) (codes "workers"))) ∙ sym c.workers_of.ensures ∙ c.in_default-workers_of.is in
    no_workers rows workers
    ∙ read_by_some serve (app_of c.in_ok-serve_command.field-0) (map (λ (word : Bor (List ℕ)). word.now) c.args.words.now) rows c.in_ok-serve_command.ensures
    (found_some (λ (m : ArgMatches). rows_of (found_of m)) c.in_ok-matches.field-0 _ _ c.in-Some.is c.in_ok-matches.ensures)

pub returns-in-Some-connections_of : goal.returns-in-Some-connections_of
returns-in-Some-connections_of c =
    let rows : List Row = rows_of (found_of c.in-Some.matches) in
    let workers : workers_said (first_of (codes "workers") rows) ≡ Some c.in-Some-workers_of.workers =
    ap workers_said (sym (first_value-rows (found_of c.in-Some.matches) (codes "workers"))) ∙ sym c.workers_of.ensures ∙ c.in-Some-workers_of.is in
    let connections : connections_said (first_of (codes "connections") rows) ≡ Some c.in-Some-connections_of.connections =
    ap connections_said (sym (first_value-rows (found_of c.in-Some.matches) (codes "connections"))) ∙ sym c.connections_of.ensures ∙ c.in-Some-connections_of.is in
    let places = c.in_ok-places-in-Some-connections_of.ensures
    ∙ same_places _ _ _ _ (first_of (codes "file") rows) (first_of (codes "folder") rows) (first_of (codes "address") rows) (first_of (codes "log") rows) c.in-Some-workers_of.workers
    (first_value-rows (found_of c.in-Some.matches) (codes "file")) (first_value-rows (found_of c.in-Some.matches) (codes "folder"))
    (first_value-rows (found_of c.in-Some.matches) (codes "address")) (first_value-rows (found_of c.in-Some.matches) (codes "log")) in
    ap₂ (λ (p : Places) (n : ℕ). Serve p n) places c.from.ensures
    ∙ served_is rows c.in-Some-workers_of.workers c.in-Some-connections_of.connections workers connections
    ∙ read_by_some serve (app_of c.in_ok-serve_command.field-0) (map (λ (word : Bor (List ℕ)). word.now) c.args.words.now) rows c.in_ok-serve_command.ensures
    (found_some (λ (m : ArgMatches). rows_of (found_of m)) c.in_ok-matches.field-0 _ _ c.in-Some.is c.in_ok-matches.ensures)

pub returns : goal.returns
returns c =
    let rows : List Row = rows_of (found_of c.in-Some.matches) in
    let workers : workers_said (first_of (codes "workers") rows) ≡ Some c.in-Some-workers_of.workers =
    ap workers_said (sym (first_value-rows (found_of c.in-Some.matches) (codes "workers"))) ∙ sym c.workers_of.ensures ∙ c.in-Some-workers_of.is in
    let connections : connections_said (first_of (codes "connections") rows) ≡ None =
    ap connections_said (sym (first_value-rows (found_of c.in-Some.matches) (codes "connections"))) ∙ sym c.connections_of.ensures ∙ c.in-None.is in
    no_connections rows c.in-Some-workers_of.workers workers connections
    ∙ read_by_some serve (app_of c.in_ok-serve_command.field-0) (map (λ (word : Bor (List ℕ)). word.now) c.args.words.now) rows c.in_ok-serve_command.ensures
    (found_some (λ (m : ArgMatches). rows_of (found_of m)) c.in_ok-matches.field-0 _ _ c.in-Some.is c.in_ok-matches.ensures)
