use Rattle.std.proofs.Common.{◌≡◌, length}
use Rattle.ks_base.specs.Revocation.{live}
use Rattle.ks_revoke.proofs.live_marks.LiveMarksIterator.next.Given as goal

abbrev pub invariant-loop-first : goal.invariant-loop-first
invariant-loop-first l =
    live l.self-inside.life l.self-inside.high l.self-inside.rows.now ≡ live l.initial.self-inside.life l.initial.self-inside.high l.initial.self-inside.rows.now

abbrev pub decreases-loop-first : goal.decreases-loop-first
decreases-loop-first l = length l.self-inside.rows.now
