use Rattle.std.proofs.Common.{refl, ◌∙◌}
use Rattle.ks_fernet.proofs.Sealed.{utf8_bare_text, written_text}
use Rattle.ks_fernet.proofs.base64_url.bare_text.Goals as goal

pub unreachable-requires-in-None : goal.unreachable-requires-in-None
unreachable-requires-in-None c =
    let text = written_text c.args.bytes.now _ c.encode_slice.new.output c.in-Ok.len c.requires refl c.in-Ok.ensures.fits c.in-Ok.ensures.written in
    let no_text = rw c.in-None.is at c.in_ok-text.ensures.none in
    no_text (rw text (utf8_bare_text c.args.bytes.now))

pub returns : goal.returns
returns c =
    let text = written_text c.args.bytes.now _ c.encode_slice.new.output c.in-Ok.len c.requires refl c.in-Ok.ensures.fits c.in-Ok.ensures.written in
    let read = rw c.in-Some.is at c.in_ok-text.ensures.some in
    read.0 ∙ text
