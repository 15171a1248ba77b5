-- What the keys so far make of the text is known.
use Rattle.std.proofs.Common.{◌≡◌, true, take}
use Rattle.std.specs.List.{All}
use Rattle.ks_auth.specs.Facts.{has_opened}
use Rattle.ks_service.specs.Work.{AreKept}
use Rattle.ks_service.proofs.work.open_with.Given as goal

abbrev pub invariant-loop-key : goal.invariant-loop-key
invariant-loop-key g l = record {
  opened : All (λ key. has_opened (g.K.Opens.stands_for key) l.text l.facts.opened ≡ true) (take l.key-index l.keys);
  kept : AreKept l.initial.facts l.facts;
}
