use Rattle.ks_keyfiles.proofs.WritingLemmas.{fits_key, written_key}
use Rattle.ks_keyfiles.proofs.writing.encode.Goals as goal

pub unreachable-requires : goal.unreachable-requires
unreachable-requires c = fits_key c.encode_slice.result c.args.bytes.now c.args.text.now c.in_default.field-0 c.requires.bytes c.requires.text c.encode_slice.ensures.fits c.in_default.is

pub returns : goal.returns
returns c = written_key c.args.bytes.now c.args.text.now _ c.requires.bytes c.requires.text c.in-Ok.ensures.written
