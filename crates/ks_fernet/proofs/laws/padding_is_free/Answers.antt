use Rattle.ks_fernet.proofs.Spelling.{read_bare_text, read_padded_text}
use Rattle.ks_fernet.proofs.laws.padding_is_free.Goals as goal

pub returns : goal.returns
returns c = record { padded = read_padded_text; bare = read_bare_text }
