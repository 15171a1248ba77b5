use Rattle.std.proofs.Common.{◌≡◌, map, take}
use Rattle.ks_words.proofs.words.borrowed.Given as goal

abbrev pub invariant-loop-word : goal.invariant-loop-word
invariant-loop-word l = map (λ w. w.now) l.made.items ≡ take l.word-index l.words
