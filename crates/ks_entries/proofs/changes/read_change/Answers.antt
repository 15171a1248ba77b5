use Rattle.std.proofs.Common.{◌≤◌, rules}
use Rattle.ks_spelling.proofs.CodeLemmas.{no_variant}
use Rattle.ks_entries.specs.Changes.{change_code, change_table}
use Rattle.ks_entries.proofs.changes.read_change.Goals as goal

pub returns-in_default : goal.returns-in_default
unfolding change_code
returns-in_default c =
    let past : 33 ≤ c.in_ok-read_from.field-0 = search rules in
    λ unread. no_variant change_table c.args.from.now c.in_ok-read_from.field-0 c.read_from.new.from c.in_ok-read_from.ensures past
