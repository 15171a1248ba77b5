-- What contracts see of a token.
use Rattle.std.specs.Prelude.{List, [], ◌∷◌, Option, Some, None, IsUtf8}
use Rattle.ks_rule.specs.declared.tokens.End.{End}
use Rattle.ks_rule.specs.declared.tokens.End.TheVariants as end
use Rattle.ks_rule.specs.declared.tokens.Token.{Token as Told}
use Rattle.ks_rule.specs.declared.tokens.Token.TheVariants as told
use Rattle.ks_rule.specs.Tokens.{Token, opening, closing, not_word, and_word, or_word, check}

abbrev pub seen_end : End → Token
seen_end end.Close = closing
seen_end end.And = and_word
seen_end end.Or = or_word

-- a token as a contract sees it
abbrev pub seen : Told → Token
seen told.Open = opening
seen told.Not = not_word
seen (told.Check text) = check text.now
seen (told.End ends) = seen_end ends

-- the text of a check is in UTF-8
abbrev pub IsText : Told → Type 0
IsText told.Open = Unit {0}
IsText told.Not = Unit {0}
IsText (told.Check text) = IsUtf8 text.now
IsText (told.End ends) = Unit {0}

-- the token that was read ahead, and those behind it
abbrev pub ahead : Option Told → List Token → List Token
ahead (Some next) behind = seen next ∷ behind
ahead None behind = []
