use Rattle.ks_words.proofs.ServeLemmas.{serve_words_give}
use Rattle.ks_words.proofs.laws.serve_has_four_workers.Goals as goal

pub returns : goal.returns
returns c file folder address p q r = serve_words_give file folder address p q r
