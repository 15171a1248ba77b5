-- The entries that were made once more.
use Rattle.std.specs.Prelude.{List, [], ◌∷◌, ◌++◌}
use Rattle.ks_machine.specs.declared.change.Entry.{Entry}
use Rattle.ks_keep.specs.declared.past.Past.{Past, Start, Then'}

-- | the entries that were made once more
abbrev pub entries_of : Past → List Entry
entries_of Start = []
entries_of (Then' shape before last) = entries_of before ++ last.value ∷ []
