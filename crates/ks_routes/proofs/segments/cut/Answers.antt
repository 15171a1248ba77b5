use Rattle.std.proofs.Common.{sym}
use Rattle.ks_routes.proofs.SegmentLemmas.{segments_cut, segments_whole}
use Rattle.ks_routes.proofs.segments.cut.Goals as goal

pub returns-in-Some : goal.returns-in-Some
returns-in-Some c = segments_cut c.args.text.now c.in-Some.end _ _ _ (sym c.in-Some.ensures) c.split_at.ensures.front c.split_at.ensures.back c.split_at-in-Some.ensures.back

pub returns-in-None : goal.returns-in-None
returns-in-None c = segments_whole c.args.text.now (sym c.in-None.ensures)
