use Rattle.std.proofs.Common.{lit<}
use Rattle.std.proofs.lemmas.Str.Pattern.{split_once_first}
use Rattle.ks_written.proofs.RecordLemmas.{cut_said}
use Rattle.ks_written.proofs.record.cut.Goals as goal

pub returns : goal.returns
returns c = cut_said c.args.text.now c.split_once.result (split_once_first 36 c.args.text.now c.split_once.result c.split_once.ensures.cases (lit< tt))
