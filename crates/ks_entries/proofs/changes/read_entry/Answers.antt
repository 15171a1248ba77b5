use Rattle.ks_spelling.proofs.CodeLemmas.{spelled_whole, not_spelled, not_whole, not_both}
use Rattle.ks_entries.specs.Changes.{entry_code}
use Rattle.ks_entries.proofs.changes.read_entry.Goals as goal
use Rattle.ks_entries.proofs.changes.read_entry.Goals.{then-is_empty, else-is_empty}

pub returns-after-is_empty-clause-some : goal.returns-after-is_empty-clause-some
returns-after-is_empty-clause-some c =
    elim c.if-is_empty.branch [
      | then-is_empty w ↦ rw w.result-is (spelled_whole entry_code c.args.bytes.now c.new-cursor.result c.in-Ok.entry c.read_fields.new.from
          (λ k. (c.type_inv.bytes k).fits) c.new-cursor.ensures c.in-Ok.ensures (c.is_empty.ensures.0 w.if-is_empty.true))
      | else-is_empty w ↦ rw w.result-is tt
    ]

pub returns-after-is_empty-clause-none : goal.returns-after-is_empty-clause-none
returns-after-is_empty-clause-none c =
    elim c.if-is_empty.branch [
      | then-is_empty w ↦ rw w.result-is tt
      | else-is_empty w ↦ rw w.result-is (not_whole entry_code c.args.bytes.now c.new-cursor.result c.in-Ok.entry c.read_fields.new.from
          c.new-cursor.ensures c.in-Ok.ensures (λ none. not_both c.is_empty.result (c.is_empty.ensures.1 none) w.if-is_empty.false))
    ]

pub returns-in-Err-NoSpelling-clause-none : goal.returns-in-Err-NoSpelling-clause-none
returns-in-Err-NoSpelling-clause-none c =
    not_spelled entry_code c.args.bytes.now c.new-cursor.result c.new-cursor.ensures (c.in-Err-NoSpelling.ensures c.in-Err-NoSpelling.field-0-is)
