use Rattle.ks_top.specs.steps.Beginnings.{front_of}
use Rattle.ks_top.proofs.talk.talk.Given as goal

abbrev pub ghosts-serve_one-N-First : goal.ghosts-serve_one-N-First
ghosts-serve_one-N-First g a = record { front = front_of a.opened }

-- the keeper was whole when the identity was put over it
abbrev pub ghosts-serve_one-N-Since : goal.ghosts-serve_one-N-Since
ghosts-serve_one-N-Since g a = record { holds = g.B.Keeper.whole a.opened.keeper }
