use Rattle.std.proofs.Common.{◌≡◌, ◌++◌}
use Rattle.form_urlencoded.specs.Form.{raw_pairs}
use Rattle.ks_routes.specs.Queries.{fields_in, fields_of}
use Rattle.ks_routes.proofs.query.fields_in.Given as goal

abbrev pub invariant-loop-name : goal.invariant-loop-name
invariant-loop-name l = l.fields ++ fields_of (raw_pairs l.name-iterator.input.now) ≡ fields_in l.query
