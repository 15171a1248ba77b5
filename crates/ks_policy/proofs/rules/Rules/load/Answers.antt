use Rattle.std.proofs.Common.{arith, rules}
use Rattle.serde_json.specs.View.{view}
use Rattle.ks_policy.proofs.TextLemmas.{fault_loads, rules_ascend, rules_long}
use Rattle.ks_policy.proofs.rules.Rules.load.Goals as goal

pub returns-in_err-texts : goal.returns-in_err-texts
returns-in_err-texts c =
    let fact = fault_loads (view c.args.file.now) c.in_err-texts.field-0.0 c.in_err-texts.ensures.texts in
    search rules

pub of-table-requires-clause-ascending : goal.of-table-requires-clause-ascending
of-table-requires-clause-ascending c =
    let are = rw c.as_slice.ensures.value at c.in_ok-read.ensures in
    rules_ascend c.in_ok-texts.texts.items c.in_ok-read.read.items are c.in_ok-texts.ensures.ascending

pub of-table-requires-clause-few : goal.of-table-requires-clause-few
of-table-requires-clause-few c =
    let are = rw c.as_slice.ensures.value at c.in_ok-read.ensures in
    omega (arith, rules_long c.in_ok-texts.texts.items c.in_ok-read.read.items are, c.in_ok-texts.ensures.few)
