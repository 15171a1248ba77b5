-- Where a rule holds.
--
-- What a `named` leaf says comes from outside. A policy of n rules, none of which reaches itself through its
-- names, gives it by n rounds: in none no rule holds, and in one more round the rule of a name holds where
-- `truth` of its tree holds, with the round before for the names in it.
-- Source: oslo.policy.
use Rattle.std.specs.Prelude.{ℕ, Bool, true, false, not, ◌&&◌, ◌||◌, List, Option, Some, None}
use Rattle.std.specs.List.{list_any}
use Rattle.std.specs.Str.{bytes_eq, str_eq_ignore_ascii_case}
use Rattle.ks_rule.specs.declared.credentials.Credentials.{Credentials}
use Rattle.ks_rule.specs.Trees.{Tree, always, never, named, role, compare, negated, both, either}
use Rattle.ks_rule.specs.Kinds.{Fields, value_of}
use Rattle.ks_rule.specs.Filling.{filled}

-- what is compared is there, and the same
abbrev pub agrees : (List ℕ → List ℕ → Bool) → Option (List ℕ) → Option (List ℕ) → Bool
agrees same (Some value) (Some text) = same value text
agrees same (Some value) None = false
agrees same None text = false

-- some role of the caller has this name
abbrev pub has_role : List (List ℕ) → Option (List ℕ) → Bool
has_role roles text = list_any (λ name. agrees str_eq_ignore_ascii_case (Some name) text) roles

-- whether the tree holds for the caller and the target, where this says which named rules hold
unfoldable pub truth : (List ℕ → Bool) → Tree → Credentials → Fields → Bool
truth holds always creds target = true
truth holds never creds target = false
truth holds (named name) creds target = holds name
truth holds (role text) creds target = has_role creds.roles (filled target text)
truth holds (compare kind text) creds target = agrees bytes_eq (value_of kind creds.named) (filled target text)
truth holds (negated a) creds target = not (truth holds a creds target)
truth holds (both a b) creds target = truth holds a creds target && truth holds b creds target
truth holds (either a b) creds target = truth holds a creds target || truth holds b creds target
