use Rattle.std.proofs.Common.{ℕ, List}
use Rattle.std.specs.Borrow.{Bor}
use Rattle.std.specs.Prelude.{map}
use Rattle.clap.specs.Words.{app_of, found_of, rows_of}
use Rattle.clap.specs.declared.parser.matches.ArgMatches.{ArgMatches}
use Rattle.ks_words.specs.Words.{check}
use Rattle.ks_words.proofs.ReadLemmas.{found_none, found_some, read_by_none, read_by_some}
use Rattle.ks_words.proofs.commands.read_check.Goals as goal
use Rattle.ks_words.proofs.commands.read_check.Goals.{in-Some, in-None}

pub returns : goal.returns
returns c = elim c.match-branch-2.branch [
  | in-Some w ↦ rw w.result-is (read_by_some check (app_of c.new.result) (map (λ (word : Bor (List ℕ)). word.now) c.args.words.now) _ c.new.ensures.app
      (found_some (λ (m : ArgMatches). rows_of (found_of m)) c.in_ok-parsed.field-0 _ _ w.in-Some.is c.in_ok-parsed.ensures))
  | in-None w ↦ rw w.result-is (read_by_none check (app_of c.new.result) (map (λ (word : Bor (List ℕ)). word.now) c.args.words.now) c.new.ensures.app
      (found_none (λ (m : ArgMatches). rows_of (found_of m)) c.in_ok-parsed.field-0 _ w.in-None.is c.in_ok-parsed.ensures))
]
