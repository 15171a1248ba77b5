use Rattle.std.proofs.Common.{◌≡◌, [], length}
use Rattle.std.specs.Prelude.{fold}
use Rattle.ks_http.specs.Lines.{behind_byte, reached}
use Rattle.ks_http.proofs.ScanLemmas.{at}
use Rattle.ks_http.proofs.scan.reach.Given as goal

abbrev pub invariant-lines : goal.invariant-lines
invariant-lines l = fold behind_byte (at l.place []) l.rest ≡ reached l.bytes

abbrev pub decreases-lines : goal.decreases-lines
decreases-lines l = length l.rest
