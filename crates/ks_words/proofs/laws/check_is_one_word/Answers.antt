use Rattle.ks_words.proofs.TalkLemmas.{check_words_are, check_words_give}
use Rattle.ks_words.proofs.laws.check_is_one_word.Goals as goal

pub returns : goal.returns
returns c words = (check_words_are words, check_words_give words)
