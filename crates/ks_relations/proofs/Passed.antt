-- A list from one place on is its item there, and the list from the next place on.
use Rattle.std.proofs.Common.{◌≡◌, ℕ, ◌+◌, ◌<◌, List, ◌++◌, length, drop, get_or, append_assoc}
use Rattle.ks_base.specs.declared.grants.GrantRow.{GrantRow}
use Rattle.ks_base.specs.declared.grants.Target.{Target}
use Rattle.ks_base.specs.Rows.{Id, Rows}
use Rattle.ks_base.proofs.ListLemmas.{drop_at}
use Rattle.ks_machine.specs.Assignments.{given_at, given_to}

pub given_more : (rows : Rows) (user : Id) (targets : List Target) (i : ℕ) (place : Target) (before after : List GrantRow) →
    i < length targets → place ≡ get_or targets i place → before ++ given_to rows user (drop i targets) ≡ given_to rows user targets →
    after ≡ before ++ given_at rows user place → after ++ given_to rows user (drop (i + 1) targets) ≡ given_to rows user targets
unfolding given_to
given_more rows user targets i place before after lt is left more =
    let left_from : before ++ (given_at rows user place ++ given_to rows user (drop (i + 1) targets)) ≡ given_to rows user targets = rw (drop_at targets i place lt is) at left in
    rw (more, append_assoc) left_from
