use Rattle.std.proofs.Common.{◌≡◌, ◌-◌, length}
use Rattle.ks_base.specs.Trusts.{lineage_within, last_trustor, first_trustor}
use Rattle.ks_trust.proofs.trusts.Trusts.top_trustor.Given as goal

abbrev pub invariant-up : goal.invariant-up
invariant-up l = record {
  end : l.end ≡ length l.self;
  rest : last_trustor l.top (lineage_within (l.end - l.counter) l.self l.top) ≡ first_trustor l.self l.trust;
}
