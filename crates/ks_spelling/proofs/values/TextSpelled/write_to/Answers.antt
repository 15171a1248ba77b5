use Rattle.ks_spelling.proofs.CodeLemmas.{text_written}
use Rattle.ks_spelling.proofs.values.TextSpelled.write_to.Goals as goal

pub returns : goal.returns
returns c =
    text_written c.write_counted.result c.args.self.now c.as_slice.result.now c.args.into.now.items c.write_counted.new.into.items
    c.as_slice.ensures.bytes c.as_slice.ensures.utf8 c.write_counted.ensures
