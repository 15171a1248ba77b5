use Rattle.std.proofs.Common.{subst}
use Rattle.std.specs.Prelude.{List}
use Rattle.ks_base.specs.declared.trusts.TrustRow.{TrustRow}
use Rattle.ks_base.specs.Tables.{id_cmp, IsAscending}
use Rattle.ks_base.specs.Trusts.{goes, trusts_gone}
use Rattle.ks_base.proofs.TableLemmas.{some_ids_ascend}
use Rattle.ks_trust.specs.State.{ids_of, is_listed, IsClosed}
use Rattle.ks_trust.proofs.IdLists.{gone_are_closed}
use Rattle.ks_trust.proofs.trusts.Trusts.with_children.Goals as goal

pub returns-clause-ascending : goal.returns-clause-ascending
returns-clause-ascending c =
    rw (c.from_vec.ensures, c.in_ok-all.ensures, c.as_slice.ensures)
    (subst (λ (trusts : List TrustRow). IsAscending id_cmp (λ id. id) (ids_of (trusts_gone trusts (is_listed c.args.ids.now)))) c.self.view_is
    (some_ids_ascend (λ (row : TrustRow). row.id) (goes c.self.inside.rows.items (is_listed c.args.ids.now)) c.self.inside.rows.items c.self.invariant.0))

pub returns-clause-closed : goal.returns-clause-closed
returns-clause-closed c =
    rw (c.from_vec.ensures, c.in_ok-all.ensures, c.as_slice.ensures)
    (subst (λ (trusts : List TrustRow). IsClosed trusts (ids_of (trusts_gone trusts (is_listed c.args.ids.now)))) c.self.view_is
    (gone_are_closed c.self.inside.rows.items (is_listed c.args.ids.now) c.self.invariant.0 c.self.invariant.1))
