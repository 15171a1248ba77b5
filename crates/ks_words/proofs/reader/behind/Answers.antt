use Rattle.ks_words.proofs.FrontLemmas.{stripped}
use Rattle.ks_words.proofs.reader.behind.Goals as goal

pub returns : goal.returns
returns c = stripped c.args.front.now c.args.text.now c.strip_prefix.result c.strip_prefix.ensures.cases
