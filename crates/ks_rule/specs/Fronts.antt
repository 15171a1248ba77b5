-- What the reader of a text that is filled says, which takes what it reads from the front.
use Rattle.std.specs.Prelude.{◌≡◌, ℕ, ◌<◌, Bool, false, List, [], ◌++◌, length, Some, None, option_map}
use Rattle.std.specs.List.{list_any}
use Rattle.std.specs.Str.{bytes_eq, str_eq_ignore_ascii_case}
use Rattle.ks_rule.specs.declared.pieces.Front.{Front}
use Rattle.ks_rule.specs.declared.pieces.Front.TheVariants as front
use Rattle.ks_rule.specs.declared.filling.Part.{Part}
use Rattle.ks_rule.specs.declared.filling.Part.TheVariants as part
use Rattle.ks_rule.specs.declared.filling.Case.{Case}
use Rattle.ks_rule.specs.declared.filling.Case.TheVariants.{Exact, Ignored}
use Rattle.ks_rule.specs.Kinds.{Fields}
use Rattle.ks_rule.specs.Filling.{is_percent, key, spelling, pieces, filled, IsKey}

-- what the next piece of a text takes from its front
abbrev pub Begins : Front → List ℕ → List ℕ → Type 0
Begins front.End before after = before ≡ []
Begins (front.Plain text) before after =
    (0 < length text.now) × (list_any is_percent text.now ≡ false) × (before ≡ text.now ++ after)
Begins (front.Key name) before after = IsKey name.now × (before ≡ spelling (key name.now) ++ after)
Begins front.Fault before after = pieces before ≡ None

abbrev pub Fills : Fields → Part → List ℕ → List ℕ → Type 0
Fills target part.End before after = filled target before ≡ Some []
Fills target (part.Text text) before after =
    (length after < length before) × (filled target before ≡ option_map (λ more. text.now ++ more) (filled target after))
Fills target part.Missing before after = filled target before ≡ None

-- texts compared exactly or without regard to case
abbrev pub same_by : Case → List ℕ → List ℕ → Bool
same_by Exact = bytes_eq
same_by Ignored = str_eq_ignore_ascii_case
