use Rattle.ks_fernet.proofs.Readings.{if_none_then, no_text_long, no_text_unread}
use Rattle.ks_fernet.proofs.Tokens.{envelope_of_long, envelope_of_unread}
use Rattle.ks_fernet.proofs.envelope.read_text.Goals as goal

pub returns-then-text-gt-TOKEN_BYTES-clause-none : goal.returns-then-text-gt-TOKEN_BYTES-clause-none
returns-then-text-gt-TOKEN_BYTES-clause-none c =
    (no_text_long c.args.text.now c.if-text-gt-TOKEN_BYTES.true, envelope_of_long c.args.text.now c.if-text-gt-TOKEN_BYTES.true)

pub returns-clause-none : goal.returns-clause-none
returns-clause-none c =
    if_none_then c.read_bytes.result (λ none. (no_text_unread c.args.text.now none, envelope_of_unread c.args.text.now none)) c.read_bytes.ensures.none
