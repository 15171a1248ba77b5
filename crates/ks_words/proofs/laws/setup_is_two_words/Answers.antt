use Rattle.ks_words.proofs.FolderLemmas.{setup_words_are, setup_words_give}
use Rattle.ks_words.proofs.laws.setup_is_two_words.Goals as goal

pub returns-clause-given : goal.returns-clause-given
returns-clause-given c folder p = setup_words_give folder p

pub returns-clause-only : goal.returns-clause-only
returns-clause-only c words places e = setup_words_are words places e
