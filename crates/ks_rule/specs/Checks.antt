-- The trees of checks.
-- Source: oslo.policy, narrowed.
use Rattle.std.specs.Prelude.{ℕ, Bool, ◌==◌, is_some, if◌then◌else◌, List, [], ◌∷◌, Option, Some, None, codes}
use Rattle.std.specs.List.{list_any, before_first, after_first}
use Rattle.std.specs.Str.{bytes_eq}
use Rattle.ks_rule.specs.Trees.{Tree, always, never, named, role, compare}
use Rattle.ks_rule.specs.Kinds.{quoted}
use Rattle.ks_rule.specs.Filling.{is_fillable}

abbrev pub is_colon : ℕ → Bool
is_colon b = b == 58

-- an empty kind, or one of the web
abbrev pub is_foreign : List ℕ → Bool
is_foreign kind = list_any (bytes_eq kind) ([] ∷ codes "http" ∷ codes "https" ∷ [])

-- a check with a colon, whose kind stands before it
unfoldable pub kinded : List ℕ → List ℕ → Option Tree
kinded kind text =
    if is_foreign kind then None
    else (if bytes_eq kind (codes "rule") then Some (named text)
    else (if is_fillable text then (if bytes_eq kind (codes "role") then Some (role text) else Some (compare kind text))
    else None))

-- the tree of a check, unless no text with this check is a rule: one in quotes is in none. Without a colon `@`
-- always holds, `!` and any other never do
unfoldable pub check_of : List ℕ → Option Tree
check_of text =
    if is_some (quoted text) then None
    else (if list_any is_colon text then kinded (before_first is_colon text) (after_first is_colon text)
    else (if bytes_eq text (codes "@") then Some always
    else Some never))
