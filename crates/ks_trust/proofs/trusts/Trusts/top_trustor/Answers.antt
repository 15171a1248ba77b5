use Rattle.std.proofs.Common.{◌-◌, ◌+◌, arith}
use Rattle.ks_base.specs.Trusts.{first_trustor}
use Rattle.ks_trust.proofs.WalkSteps.{climbs, ends, stops}
use Rattle.ks_trust.proofs.trusts.Trusts.top_trustor.Goals as goal

pub returns-in_default : goal.returns-in_default
returns-in_default c =
    stops (c.len-end.result - c.up.counter) c.args.self.now c.up.top.now (first_trustor c.args.self.now c.args.trust.now) c.in_default.ensures c.up.invariant.rest

pub up-preserved : goal.up-preserved
up-preserved c = record {
  end = c.up.invariant.end;
  rest =
      climbs (c.len-end.result - c.up.counter) (c.len-end.result - (c.up.counter + 1)) c.args.self.now c.up.top.now c.in-Some.parent.now
      (first_trustor c.args.self.now c.args.trust.now) (omega arith) c.in-Some.ensures c.up.invariant.rest;
}

pub returns : goal.returns
returns c = ends (c.len-end.result - c.up.counter) c.args.self.now c.up.top.now (first_trustor c.args.self.now c.args.trust.now) (omega arith) c.up.invariant.rest
