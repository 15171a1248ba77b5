use Rattle.std.proofs.Common.{◌≡◌, ◌<◌, ◌%◌, ◌==◌, true, length, arith, ap, eqb-true, inr, sym, ◌∙◌}
use Rattle.std.specs.List.{list_all}
use Rattle.ks_totp.proofs.PaddingLemmas.{all_pads, pads_all}
use Rattle.ks_totp.proofs.base32.is_padding.Goals as goal

pub returns-then-bytes-lt8-clause-yes : goal.returns-then-bytes-lt8-clause-yes
returns-then-bytes-lt8-clause-yes c whole =
    let all : list_all (λ b. b == 61) c.args.bytes.now ≡ true = sym c.are_pads.ensures ∙ c.if-are_pads.true in
    let few : length c.args.bytes.now < 8 = omega arith in
    (all_pads c.args.bytes.now all, inr (few, eqb-true (c.args.count % 8) 0 whole))

pub returns-else-are_pads-clause-no : goal.returns-else-are_pads-clause-no
returns-else-are_pads-clause-no c fails pads is full =
    let all : list_all (λ b. b == 61) c.args.bytes.now ≡ true = ap (list_all (λ b. b == 61)) is ∙ pads_all pads in
    let none = sym c.are_pads.ensures ∙ c.if-are_pads.false in
    cc
