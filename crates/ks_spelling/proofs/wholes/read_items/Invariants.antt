use Rattle.std.proofs.Common.{◌≡◌, ◌-◌}
use Rattle.ks_spelling.specs.Wholes.{read_times}
use Rattle.ks_spelling.proofs.LoopLemmas.{prefixed}
use Rattle.ks_spelling.proofs.wholes.read_items.Given as goal

abbrev pub invariant-loop : goal.invariant-loop
invariant-loop g l = prefixed l.items.items (read_times g.T.Spelled.code (l.count - l.counter) l.from) ≡ read_times g.T.Spelled.code l.count l.initial.from
