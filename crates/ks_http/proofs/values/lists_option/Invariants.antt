use Rattle.std.proofs.Common.{◌≡◌, length}
use Rattle.ks_http.specs.Fields.{lists_option}
use Rattle.ks_http.proofs.values.lists_option.Given as goal

abbrev pub invariant-parts : goal.invariant-parts
invariant-parts l = lists_option l.word l.rest ≡ lists_option l.word l.value

abbrev pub decreases-parts : goal.decreases-parts
decreases-parts l = length l.rest
