-- What opening files open with is in range.
use Rattle.std.specs.Prelude.{ℕ, List}
use Rattle.ks_base.specs.declared.key.Key.{Key}
use Rattle.ks_machine.specs.Lawful.{IsOpeningInRange}
use Rattle.ks_machine.specs.Openings.{PlainOpening}
use Rattle.ks_setup.specs.Openings.{Opens}

-- law: each opening has its settings and rows in range
abbrev pub OpensInRange : Type 0
OpensInRange = (text : List ℕ) (held : List (ℕ × Key)) (drawn : List ℕ) (opening : PlainOpening) → Opens text held drawn opening → IsOpeningInRange opening
