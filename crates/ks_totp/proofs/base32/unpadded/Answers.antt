use Rattle.std.proofs.Common.{◌∙◌}
use Rattle.ks_totp.proofs.PaddingLemmas.{parts_of}
use Rattle.ks_totp.proofs.base32.unpadded.Goals as goal

pub returns-then-is_padding-clause-fair : goal.returns-then-is_padding-clause-fair
returns-then-is_padding-clause-fair c bytes base32 =
    let parts = parts_of c.args.text.now bytes c.letters_count.result c.letters_count.ensures.within c.letters_count.ensures.before c.letters_count.ensures.pad base32 in
    c.split_at.ensures.front ∙ parts.0

pub returns-clause-none : goal.returns-clause-none
returns-clause-none c bytes base32 =
    let parts = parts_of c.args.text.now bytes c.letters_count.result c.letters_count.ensures.within c.letters_count.ensures.before c.letters_count.ensures.pad base32 in
    c.is_padding.ensures.no c.if-is_padding.false base32.pads (c.split_at.ensures.back ∙ parts.1) base32.padding
