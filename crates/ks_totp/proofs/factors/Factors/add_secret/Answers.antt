use Rattle.std.proofs.Common.{sym, ap, ◌∙◌}
use Rattle.ks_base.specs.Factors.{secret_of}
use Rattle.ks_totp.specs.Factors.{Kept}
use Rattle.ks_totp.proofs.OwnerLemmas.{new_secret}
use Rattle.ks_totp.proofs.factors.Factors.add_secret.Goals as goal

pub add-requires-clause-new : goal.add-requires-clause-new
add-requires-clause-new c =
    ap (λ (kept : Kept). secret_of c.args.row.id kept.state.secrets) c.self.view_is ∙ new_secret c.args.self.now.state c.args.row (sym c.in_ok-may_add_secret.ensures)
