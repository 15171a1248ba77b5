use Rattle.ks_fernet.proofs.KeyTexts.{read_key_iff, read_none_iff}
use Rattle.ks_fernet.proofs.key_text.read_key.Goals as goal

pub returns-in-Some-clause-key : goal.returns-in-Some-clause-key
returns-in-Some-clause-key c = read_key_iff c.args.text.now _ c.in-Some.ensures

pub returns-in-Some-clause-not_a_key : goal.returns-in-Some-clause-not_a_key
returns-in-Some-clause-not_a_key c = read_none_iff c.args.text.now _ c.in-Some.ensures

pub returns-in-None-clause-key : goal.returns-in-None-clause-key
returns-in-None-clause-key c = read_key_iff c.args.text.now _ c.in-None.ensures

pub returns-in-None-clause-not_a_key : goal.returns-in-None-clause-not_a_key
returns-in-None-clause-not_a_key c = read_none_iff c.args.text.now _ c.in-None.ensures
