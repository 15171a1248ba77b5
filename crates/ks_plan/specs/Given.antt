-- One check after another, under a name, since a clause of code cannot bring in the operator.
use Rattle.ks_machine.specs.Attempts.{Attempt, ◌>>=◌}

-- the second check, by what the first gives
abbrev pub after : {E A B : Type 0} → Attempt E A → (A → Attempt E B) → Attempt E B
after first second = first >>= second
