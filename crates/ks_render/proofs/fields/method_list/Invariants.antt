use Rattle.std.proofs.Common.{◌≡◌, ◌++◌, codes, drop, string_bytes}
use Rattle.std.specs.List.{flat_map}
use Rattle.ks_render.specs.Answers.{name_of, method_list}
use Rattle.ks_render.proofs.fields.method_list.Given as goal

-- What is written, and what is still to come, are the whole list.
abbrev pub invariant-loop-method : goal.invariant-loop-method
invariant-loop-method l =
    string_bytes l.made ++ flat_map (λ method. codes ", " ++ name_of method) (drop l.method-index l.others)
    ≡ method_list l.methods
