-- The fields of a head.
use Rattle.std.proofs.Common.{ℕ, List, []}
use Rattle.ks_http.specs.declared.fields.Only.{Only}
use Rattle.ks_http.specs.declared.fields.Only.TheVariants.{Absent, Once, Repeated}
use Rattle.ks_http.specs.steps.Says.{IsOnly, Begun}

pub only_from : (values : List (List ℕ)) (found : Only) → Begun [] found values → IsOnly values found
only_from values Absent h = h
only_from values (Once value) h = h
only_from values Repeated h = h
