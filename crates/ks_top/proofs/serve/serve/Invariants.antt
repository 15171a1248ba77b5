use Rattle.ks_top.specs.steps.Beginnings.{front_of}
use Rattle.ks_top.proofs.serve.serve.Given as goal

abbrev pub ghosts-serve_desks-N-First : goal.ghosts-serve_desks-N-First
ghosts-serve_desks-N-First g a = record { front = front_of a.opened }

-- the keeper was whole when the identity was put over it
abbrev pub ghosts-serve_desks-N-Since : goal.ghosts-serve_desks-N-Since
ghosts-serve_desks-N-Since g a = record { holds = g.B.Keeper.whole a.opened.keeper }
