-- The segments that are still to come.
use Rattle.std.specs.Prelude.{ℕ, List, [], Option, Some, None}
use Rattle.std.specs.Borrow.{Bor}
use Rattle.ks_routes.specs.Patterns.{segments}

-- the segments of what is left of a text
abbrev pub left_of : Option (Bor (List ℕ)) → List (List ℕ)
left_of (Some text) = segments text.now
left_of None = []
