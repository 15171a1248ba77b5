use Rattle.std.proofs.Common.{◌-◌, ◌+◌, sym, ◌∙◌, arith}
use Rattle.ks_base.specs.Trusts.{goes, lineage_within}
use Rattle.ks_trust.specs.State.{is_listed}
use Rattle.ks_trust.proofs.WalkSteps.{touched_above, touched_here, touched_last, untouched_here}
use Rattle.ks_trust.proofs.trusts.Trusts.hangs_on.Goals as goal

pub returns-then-has_id : goal.returns-then-has_id
returns-then-has_id c =
    touched_here (is_listed c.args.ids.now) c.up.top.now (lineage_within (c.len-end.result - c.up.counter) c.args.self.now c.up.top.now)
    (goes c.args.self.now (is_listed c.args.ids.now) c.args.trust.now) (sym c.has_id.ensures ∙ c.if-has_id.true) c.up.invariant.rest

pub returns-in_default : goal.returns-in_default
returns-in_default c =
    untouched_here (is_listed c.args.ids.now) c.up.top.now (c.len-end.result - c.up.counter) c.args.self.now
    (goes c.args.self.now (is_listed c.args.ids.now) c.args.trust.now) (sym c.has_id.ensures ∙ c.if-has_id.false) c.in_default.ensures c.up.invariant.rest

pub up-preserved : goal.up-preserved
up-preserved c = record {
  end = c.up.invariant.end;
  rest =
      touched_above (is_listed c.args.ids.now) c.up.top.now c.in-Some.parent.now (c.len-end.result - c.up.counter) (c.len-end.result - (c.up.counter + 1)) c.args.self.now
      (goes c.args.self.now (is_listed c.args.ids.now) c.args.trust.now) (sym c.has_id.ensures ∙ c.if-has_id.false) (omega arith) c.in-Some.ensures c.up.invariant.rest;
}

pub returns : goal.returns
returns c =
    c.has_id-2.ensures ∙ touched_last (is_listed c.args.ids.now) c.up.top.now (c.len-end.result - c.up.counter) c.args.self.now
    (goes c.args.self.now (is_listed c.args.ids.now) c.args.trust.now) (omega arith) c.up.invariant.rest
