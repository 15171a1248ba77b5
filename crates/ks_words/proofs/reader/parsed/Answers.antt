use Rattle.std.proofs.Common.{◌≡◌, ℕ, Bool, true, false, List, drop, rules, ap, sym, ◌∙◌}
use Rattle.std.specs.Borrow.{Bor}
use Rattle.std.specs.List.{list_all}
use Rattle.std.specs.Prelude.{map}
use Rattle.std.proofs.lemmas.Bool.{not-true, not-false}
use Rattle.clap.specs.Words.{app_of, found_of, kind_of, rows_of, rule_of}
use Rattle.clap.specs.declared.builder.arg.Arg.{Arg}
use Rattle.ks_words.specs.Words.{is_open}
use Rattle.ks_words.proofs.ReadLemmas.{closed_words, open_words, read_refused, read_taken}
use Rattle.ks_words.proofs.reader.parsed.Goals as goal

-- whether each word may go to clap, by a command's arguments
abbrev tested : List (Bor (List ℕ)) → List Arg → Bool
tested words arguments = list_all (λ word. is_open (map rule_of arguments) word.now) (drop 1 words)

pub returns-then-not-are_open : goal.returns-then-not-are_open
returns-then-not-are_open c =
    let closed : c.are_open.result ≡ false = search (rules, not-true) in
    closed_words (app_of c.args.command) c.args.words.now c.are_open.result
    (c.are_open.ensures ∙ ap (tested c.args.words.now) c.get_arguments.ensures) closed

pub returns-in-Ok : goal.returns-in-Ok
returns-in-Ok c =
    let all_open : c.are_open.result ≡ true = search (rules, not-false) in
    read_taken (app_of c.args.command) (map (λ (word : Bor (List ℕ)). word.now) c.args.words.now) (rows_of (found_of c.in-Ok.matches)) c.requires
    (open_words (app_of c.args.command) c.args.words.now c.are_open.result
    (c.are_open.ensures ∙ ap (tested c.args.words.now) c.get_arguments.ensures) all_open)
    c.in-Ok.ensures.matches (c.in-Ok.ensures.kinds c.requires)

pub returns : goal.returns
returns c =
    sym (read_refused (app_of c.args.command) (map (λ (word : Bor (List ℕ)). word.now) c.args.words.now) (kind_of c.in-Err.error)
    (λ e. c.in_default.not-OutOfMemory (c.kind.ensures ∙ e)) (c.in-Err.ensures.kinds c.requires))
