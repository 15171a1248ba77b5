use Rattle.std.proofs.Common.{arith}
use Rattle.ks_aes_cbc.specs.Aes.{AreBytes}
use Rattle.base64.specs.GeneralPurpose.{decoded_of}
use Rattle.ks_fernet.proofs.Spelling.{bytes_of-whole, bytes_of-other}
use Rattle.ks_fernet.proofs.base64_url.read_bytes.Goals as goal

pub returns-then-text-eq0-clause-read : goal.returns-then-text-eq0-clause-read
unfolding decoded_of
returns-then-text-eq0-clause-read c =
    let bytes : AreBytes c.args.text.now = λ i. let fits = c.type_inv.text i in omega arith in
    rw (bytes_of-whole c.args.text.now bytes c.if-text-eq0.true) c.decode.ensures.read

pub returns-then-text-eq0-clause-none : goal.returns-then-text-eq0-clause-none
unfolding decoded_of
returns-then-text-eq0-clause-none c =
    let bytes : AreBytes c.args.text.now = λ i. let fits = c.type_inv.text i in omega arith in
    rw (bytes_of-whole c.args.text.now bytes c.if-text-eq0.true) c.decode.ensures.none

pub returns-clause-read : goal.returns-clause-read
unfolding decoded_of
returns-clause-read c =
    let bytes : AreBytes c.args.text.now = λ i. let fits = c.type_inv.text i in omega arith in
    rw (bytes_of-other c.args.text.now bytes c.if-text-eq0.false) c.decode-2.ensures.read

pub returns-clause-none : goal.returns-clause-none
unfolding decoded_of
returns-clause-none c =
    let bytes : AreBytes c.args.text.now = λ i. let fits = c.type_inv.text i in omega arith in
    rw (bytes_of-other c.args.text.now bytes c.if-text-eq0.false) c.decode-2.ensures.none
