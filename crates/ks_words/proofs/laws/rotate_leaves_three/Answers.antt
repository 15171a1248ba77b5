use Rattle.ks_words.proofs.FolderLemmas.{rotate_words_give}
use Rattle.ks_words.proofs.laws.rotate_leaves_three.Goals as goal

pub returns : goal.returns
returns c folder p = rotate_words_give folder p
