use Rattle.std.proofs.Common.{◌≡◌, ◌-◌, ◌∷◌, length}
use Rattle.std.specs.List.{list_any}
use Rattle.ks_base.specs.Trusts.{goes, lineage_within}
use Rattle.ks_trust.specs.State.{is_listed}
use Rattle.ks_trust.proofs.trusts.Trusts.hangs_on.Given as goal

abbrev pub invariant-up : goal.invariant-up
invariant-up l = record {
  end : l.end ≡ length l.self;
  rest : list_any (is_listed l.ids) (l.top ∷ lineage_within (l.end - l.counter) l.self l.top) ≡ goes l.self (is_listed l.ids) l.trust;
}
