use Rattle.std.proofs.Common.{rules}
use Rattle.std.proofs.lemmas.Fn.{filter_same}
use Rattle.ks_machine.specs.Assignments.{is_listed}
use Rattle.ks_relations.proofs.asked.keep_listed.Goals as goal

pub returns : goal.returns
returns c = filter_same _ (is_listed c.args.fields.now) _ (λ x b f called. (search rules, search rules)) _ _ c.retain.ensures.filtered
