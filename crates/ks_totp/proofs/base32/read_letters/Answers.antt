use Rattle.std.proofs.Common.{◌≡◌, ◌*◌, length, arith, ◌∙◌}
use Rattle.ks_totp.specs.Base32.{AreFivesOf}
use Rattle.ks_totp.proofs.Base32Lemmas.{letters_read, too_many_unused, unused_set}
use Rattle.ks_totp.proofs.base32.read_letters.Goals as goal

pub returns-then-unused-ge5-clause-none : goal.returns-then-unused-ge5-clause-none
returns-then-unused-ge5-clause-none c bytes is =
    let all : c.in-Some.bits ≡ length c.args.letters.now * 5 = c.in-Some.ensures.1 in
    too_many_unused c.args.letters.now bytes c.in-Some.bits all c.if-unused-ge5.true is

pub returns-then-any_set-clause-none : goal.returns-then-any_set-clause-none
returns-then-any_set-clause-none c bytes is =
    let all : c.in-Some.bits ≡ length c.args.letters.now * 5 = c.in-Some.ensures.1 in
    let of : AreFivesOf c.in-Some-2.fives.items c.args.letters.now = rw c.in-Some-2.is at c.in_ok-fives.ensures.some in
    let one = c.any_set.ensures.set c.if-any_set.true in
    unused_set c.in-Some-2.fives.items c.args.letters.now bytes c.in-Some.bits one.0 of all one.1 (rw c.as_slice.ensures.value at one.3) is

pub returns-clause-some : goal.returns-clause-some
returns-clause-some c =
    let all : c.in-Some.bits ≡ length c.args.letters.now * 5 = c.in-Some.ensures.1 in
    let of : AreFivesOf c.in-Some-2.fives.items c.args.letters.now = rw c.in-Some-2.is at c.in_ok-fives.ensures.some in
    let rest = rw c.as_slice.ensures.value at (c.any_set.ensures.unset c.if-any_set.false) in
    let made = rw c.as_slice-2.ensures.value at c.in_ok-bytes.ensures in
    letters_read c.in-Some-2.fives.items c.args.letters.now c.from_vec.result c.in-Some.bits of all (omega arith) rest (c.from_vec.ensures ∙ made)
