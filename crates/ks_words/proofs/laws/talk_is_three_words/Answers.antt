use Rattle.ks_words.proofs.TalkLemmas.{talk_words_are, talk_words_give}
use Rattle.ks_words.proofs.laws.talk_is_three_words.Goals as goal

pub returns-clause-given : goal.returns-clause-given
returns-clause-given c file folder p q = talk_words_give file folder p q

pub returns-clause-only : goal.returns-clause-only
returns-clause-only c words places e = talk_words_are words places e
