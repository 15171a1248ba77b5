-- The order of things is total, and what it holds equal is the same.
use Rattle.std.proofs.Common.{◌≡◌, true, ap}
use Rattle.std.specs.declared.cmp.Ordering.TheVariants.{Equal}
use Rattle.std.specs.Ordering.{is_eq}
use Rattle.std.specs.Cmp.{IsTotalOrder}
use Rattle.std.proofs.lemmas.Cmp.{nat_cmp_total, nat_list_cmp_total, then_total, on_total}
use Rattle.ks_base.specs.declared.events.Revoke.{Revoke}
use Rattle.ks_base.specs.declared.events.Revoke.TheVariants as revoke
use Rattle.ks_base.specs.OrderLaws.{id_exact}
use Rattle.ks_base.proofs.RowLemmas.{eq_is}
use Rattle.ks_revoke.specs.Things.{rank_of, bytes_of, thing_cmp}

pub thing_total : IsTotalOrder thing_cmp
thing_total = then_total (on_total rank_of nat_cmp_total) (on_total bytes_of nat_list_cmp_total)

pub thing_exact : (a b : Revoke) → thing_cmp a b ≡ Equal → a ≡ b
thing_exact (revoke.Audit a) (revoke.Audit b) e = ap revoke.Audit (id_exact a b e)
thing_exact (revoke.Audit a) b e = cc
thing_exact (revoke.User a) (revoke.User b) e = ap revoke.User (id_exact a b e)
thing_exact (revoke.User a) b e = cc
thing_exact (revoke.Project a) (revoke.Project b) e = ap revoke.Project (id_exact a b e)
thing_exact (revoke.Project a) b e = cc
thing_exact (revoke.Domain a) (revoke.Domain b) e = ap revoke.Domain (id_exact a b e)
thing_exact (revoke.Domain a) b e = cc
thing_exact (revoke.Trust a) (revoke.Trust b) e = ap revoke.Trust (id_exact a b e)
thing_exact (revoke.Trust a) b e = cc

-- two things that compare as equal are one
pub alike : (a b : Revoke) → is_eq (thing_cmp a b) ≡ true → a ≡ b
alike a b e = thing_exact a b (eq_is (thing_cmp a b) e)
