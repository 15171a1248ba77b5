use Rattle.std.proofs.Common.{rules}
use Rattle.std.proofs.lemmas.Cmp.{nat_list_cmp_total}
use Rattle.std.proofs.lemmas.Fn.{always_returns_same}
use Rattle.ks_base.specs.declared.factors.MfaRow.{MfaRow}
use Rattle.ks_base.specs.Tables.{id_cmp}
use Rattle.ks_base.proofs.PlaceLemmas.{searched_place}
use Rattle.ks_totp.proofs.rules.place.Goals as goal

pub returns-clause-place : goal.returns-clause-place
returns-clause-place c =
    searched_place id_cmp (λ row. row.user) nat_list_cmp_total c.args.user.now c.args.rows.now c.binary_search_by.result c.requires c.binary_search_by.ensures.bound
    (c.binary_search_by.ensures.position (λ (row : MfaRow). id_cmp row.user c.args.user.now) (always_returns_same _ _ _ (λ a r f called. (search rules, search rules))))
