use Rattle.std.proofs.Common.{◌≡◌, ℕ, List, length, take, refl, sym, ◌∙◌}
use Rattle.std.proofs.lemmas.List.{length-take-le}
use Rattle.ks_fernet.proofs.KeyTexts.{halves, key_in_bytes, key_in_other, key_of_long, key_of_read, key_of_unread}
use Rattle.ks_fernet.proofs.key_text.find_key.Goals as goal

pub returns-then-text-gt-LONGEST : goal.returns-then-text-gt-LONGEST
returns-then-text-gt-LONGEST c = sym (key_of_long c.args.text.now c.if-text-gt-LONGEST.true)

pub returns-in_default : goal.returns-in_default
returns-in_default c = sym (key_of_unread c.args.text.now (rw c.in_default.is at c.read_bytes.ensures.none))

pub returns-then-len-ne32 : goal.returns-then-len-ne32
returns-then-len-ne32 c =
    let bytes : List ℕ = take c.in-Some.len c.read_bytes.new.out in
    let long = length-take-le c.in-Some.len c.read_bytes.new.out c.in-Some.ensures.within in
    sym (key_of_read c.args.text.now bytes c.in-Some.ensures.read ∙ key_in_other bytes (λ e. c.if-len-ne32.true (sym long ∙ e)))

pub returns : goal.returns
returns c =
    let bytes : List ℕ = take c.in-Some.len c.read_bytes.new.out in
    let long : length bytes ≡ 32 = length-take-le c.in-Some.len c.read_bytes.new.out c.in-Some.ensures.within ∙ c.if-len-ne32.false in
    let key : c.key_of_halves.result ≡ halves bytes = rw (c.key_of_halves.ensures, c.split_at.ensures.front, c.split_at.ensures.back) refl in
    rw key (sym (key_of_read c.args.text.now bytes c.in-Some.ensures.read ∙ key_in_bytes bytes long))
