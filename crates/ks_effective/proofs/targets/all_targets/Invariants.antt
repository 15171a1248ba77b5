use Rattle.std.proofs.Common.{◌≡◌, ◌∷◌, ◌++◌, map}
use Rattle.ks_base.specs.declared.grants.Target.TheVariants as target
use Rattle.ks_effective.specs.Targets.{targets}
use Rattle.ks_effective.proofs.targets.all_targets.Given as goal

abbrev pub invariant-loop-domain : goal.invariant-loop-domain
invariant-loop-domain l =
    l.all.items ++ map (λ row. target.Domain row.id) l.domain-iterator ≡ target.System ∷ map (λ row. target.Domain row.id) l.tree.domains

abbrev pub invariant-loop-project : goal.invariant-loop-project
invariant-loop-project l = l.all.items ++ map (λ row. target.Project row.id) l.project-iterator ≡ targets l.tree
