use Rattle.ks_http.proofs.BufferLemmas.{finds_refused, all_in_hand, finds_last, took}
use Rattle.ks_http.proofs.WaitLemmas.{begun, undecided_at_first}
use Rattle.std.proofs.Common.{inl, rules}
use Rattle.ks_http.specs.Next.{IsUnfinished}
use Rattle.ks_http.proofs.buffer.Buffer.head.Goals as goal

pub looks-init : goal.looks-init
looks-init g c = record { told = search rules; undecided = undecided_at_first; needed = λ left left_is. inl left_is; reads = search rules }

pub returns-in-Whole-clause-told : goal.returns-in-Whole-clause-told
returns-in-Whole-clause-told g c left left_is =
    let s = c.looks.invariant.told left left_is in (s.rest, s.left_is, s.whole_is, c.in-Whole.ensures.glances)

pub returns-in-Refused-clause-told : goal.returns-in-Refused-clause-told
returns-in-Refused-clause-told g c left left_is =
    let s = c.looks.invariant.told left left_is in finds_refused _ c.looks.self _ c.in-Refused.cause s c.in-Refused.ensures.glances

pub returns-then-count-eq0-clause-told : goal.returns-then-count-eq0-clause-told
returns-then-count-eq0-clause-told g c left left_is =
    let s = c.looks.invariant.told left left_is in
    let all = all_in_hand _ c.looks.self c.fill.new.self _ _ c.in_ok-count.count s (c.in_ok-count.ensures.told s.rest s.left_is) c.if-count-eq0.true in
    finds_last _ c.fill.new.self (g.S.Stream.stream c.fill.new.source).left c.last_head.new.headers c.last_head.result all.0 all.1 c.last_head.ensures.told

pub looks-preserved : goal.looks-preserved
looks-preserved g c = record {
  told = search rules;
  undecided = search rules;
  needed = λ left left_is.
      took IsUnfinished _ c.looks.self left _ _ (c.looks.invariant.told left left_is) c.in_ok-count.ensures.piece (begun c.looks.self (c.in-More.ensures.glances.0 c.looks.invariant.undecided));
  reads = search rules;
}

pub returns-in_err-count-clause-needed : goal.returns-in_err-count-clause-needed
returns-in_err-count-clause-needed g c left left_is =
    took IsUnfinished _ c.looks.self left _ _ (c.looks.invariant.told left left_is) c.in_err-count.ensures.piece (begun c.looks.self (c.in-More.ensures.glances.0 c.looks.invariant.undecided))

pub returns-then-count-eq0-clause-needed : goal.returns-then-count-eq0-clause-needed
returns-then-count-eq0-clause-needed g c left left_is =
    took IsUnfinished _ c.looks.self left _ _ (c.looks.invariant.told left left_is) c.in_ok-count.ensures.piece (begun c.looks.self (c.in-More.ensures.glances.0 c.looks.invariant.undecided))
