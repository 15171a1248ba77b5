use Rattle.ks_keyfiles.proofs.FileLemmas.{key_in_short}
use Rattle.ks_keyfiles.proofs.reading.key_in.Goals as goal

pub returns-in-Key : goal.returns-in-Key
returns-in-Key c = rw (key_in_short c.args.content.now c.requires) (rw c.without_line_feed.ensures at c.in-Key.ensures.value)

pub returns-in-NotAKey : goal.returns-in-NotAKey
returns-in-NotAKey c = rw (key_in_short c.args.content.now c.requires) (rw c.without_line_feed.ensures at c.in-NotAKey.ensures.value)
