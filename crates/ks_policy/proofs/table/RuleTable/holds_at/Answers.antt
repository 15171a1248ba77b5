use Rattle.std.proofs.Common.{◌≡◌, ◌<◌, ℕ, length, sym, subst, ap, ◌∙◌, arith, get_or}
use Rattle.std.proofs.Math.ListN.{length-set}
use Rattle.ks_rule.specs.Trees.{Tree}
use Rattle.ks_rule.specs.Truth.{truth}
use Rattle.ks_machine.specs.Rules.{place_named}
use Rattle.ks_policy.specs.Marks.{mark_of}
use Rattle.ks_policy.proofs.DecideLemmas.{truth_marked, marked_among, marks_next}
use Rattle.ks_policy.proofs.table.RuleTable.holds_at.Goals as goal

pub loop-place-preserved : goal.loop-place-preserved
loop-place-preserved c =
    let within : c.from-place.result < length c.loop-place.known.marks = omega (arith, c.rule_at.ensures.few, c.loop-place.invariant.long) in
    record {
      long = length-set c.loop-place.known.marks c.from-place.result c.holds-held.result ∙ c.loop-place.invariant.long;
      rules = c.loop-place.invariant.rules;
      marks = marks_next c.args.self.now c.loop-place.known.rules.now c.args.creds.now c.args.target.now c.args.needs.now c.loop-place.known.marks
          c.loop-place.place-index c.from-place.result c.holds-held.result c.loop-place.invariant.rules c.requires.free c.requires.needs.ordered
          c.loop-place-test.true c.from-place.ensures within c.loop-place.invariant.marks
          (c.holds-held.ensures
          ∙ ap (λ (t : Tree). truth (λ name. mark_of c.loop-place.known.marks (place_named c.loop-place.known.rules.now name)) t c.args.creds.now c.args.target.now)
          c.rule_at.ensures.tree);
    }

pub returns : goal.returns
returns c =
    let whole : c.loop-place.place-index ≡ length c.args.needs.now = omega arith in
    c.holds.ensures
    ∙ ap (λ (t : Tree). truth (λ name. mark_of c.loop-place.known.marks (place_named c.loop-place.known.rules.now name)) t c.args.creds.now c.args.target.now)
    c.rule_at-2.ensures.tree
    ∙ truth_marked c.args.self.now c.loop-place.known.rules.now c.args.creds.now c.args.target.now c.loop-place.known.marks c.args.at
    c.loop-place.invariant.rules c.requires.free
    (λ j step. marked_among c.args.self.now c.args.creds.now c.args.target.now c.args.needs.now c.loop-place.known.marks (length c.args.needs.now) j
    (λ k lt. c.loop-place.invariant.marks k (omega (arith, whole, lt))) (c.requires.needs.all j step))
