use Rattle.std.proofs.Common.{◌≡◌, ◌∙◌, rules, sym}
use Rattle.std.specs.Prelude.{count_by}
use Rattle.ks_setup.specs.Openings.{is_plain}
use Rattle.ks_setup.proofs.DeriveLemmas.{passwords_counted}
use Rattle.ks_setup.proofs.derive.passwords.Goals as goal

pub returns : goal.returns
returns c =
    let counted : c.count.result ≡ count_by (λ user. is_plain user.password) c.args.users.now = search rules in
    counted ∙ sym (passwords_counted c.args.users.now)
