use Rattle.ks_spelling.proofs.CodeLemmas.{one_value}
use Rattle.ks_entries.specs.Changes.{entry_code}
use Rattle.ks_entries.proofs.changes.entries_differ.Goals as goal

pub returns : goal.returns
returns c = one_value entry_code
