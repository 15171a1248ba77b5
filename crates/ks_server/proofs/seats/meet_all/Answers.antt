use Rattle.std.proofs.Common.{◌≡◌, refl, subst, IsSomeAnd, arith, rules}
use Rattle.ks_server.proofs.SeatLemmas.{last_pass, listed_more, meeting_begins, meeting_ends, meeting_more, none_left, reverse_more}
use Rattle.ks_server.proofs.seats.meet_all.Goals as goal

pub seats-init : goal.seats-init
seats-init g c = record {
  meeting = λ connections old olds worked is le. rw c.requires.none.0 (meeting_begins worked is le);
  own = c.requires.own;
  passes = c.requires.passes;
  room = let room = c.requires.room in let none = c.requires.none.1 in omega (arith, room, none);
}

pub unreachable-requires : goal.unreachable-requires
unreachable-requires g c =
    subst (λ o. IsSomeAnd o (λ p. p.turn ≡ c.args.turn.now)) c.in_default-part.is
    (last_pass (λ s. s.pass) (λ p. p.turn ≡ c.args.turn.now) c.seats.seats.items c.pop.new.self.items c.in-Some.seat c.in-Some.ensures.items c.seats.invariant.passes).1

pub meet-pass-requires : goal.meet-pass-requires
meet-pass-requires g c = record {
  own = (
    c.seats.invariant.own,
    subst (λ o. IsSomeAnd o (λ p. p.turn ≡ c.args.turn.now)) c.in-Some-part.is
        (last_pass (λ s. s.pass) (λ p. p.turn ≡ c.args.turn.now) c.seats.seats.items c.pop.new.self.items c.in-Some.seat c.in-Some.ensures.items c.seats.invariant.passes).1,
  );
}

pub seats-preserved : goal.seats-preserved
seats-preserved g c = record {
  meeting = λ connections old olds worked is le.
      meeting_more (c.seats.invariant.meeting connections old olds worked is le) (reverse_more _ _ _ _ c.in-Some.ensures.items) c.in-Some-part.is c.meet-pass.ensures
      (listed_more _ _ _ _ c.push_reserved.ensures.items) refl c.or-keeper.ensures;
  own = search rules;
  passes = (last_pass (λ s. s.pass) (λ p. p.turn ≡ c.args.turn.now) c.seats.seats.items c.pop.new.self.items c.in-Some.seat c.in-Some.ensures.items c.seats.invariant.passes).0;
  room = search rules;
}

pub returns-clause-served : goal.returns-clause-served
returns-clause-served g c connections old olds worked is le =
    meeting_ends (c.seats.invariant.meeting connections old olds worked is le) (none_left _ c.seats.seats.items (omega (arith, c.in_default.ensures.cases.0)))
