use Rattle.ks_words.proofs.DrillLemmas.{drill_words_give}
use Rattle.ks_words.proofs.laws.drill_takes_two_numbers.Goals as goal

pub returns : goal.returns
returns c start count p q = drill_words_give start count p q
