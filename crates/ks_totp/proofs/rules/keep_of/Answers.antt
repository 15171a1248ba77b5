use Rattle.std.proofs.Common.{rules}
use Rattle.std.proofs.lemmas.Fn.{filter_same}
use Rattle.ks_base.specs.declared.factors.MfaRow.{MfaRow}
use Rattle.ks_totp.proofs.rules.keep_of.Goals as goal

pub returns-clause-rows : goal.returns-clause-rows
returns-clause-rows g c =
    let passes = λ (row : MfaRow). g.T.Test.test c.args.users.now row.user in
    filter_same _ passes _ (λ x b f called. (search rules, search rules)) _ _ c.retain.ensures.filtered
