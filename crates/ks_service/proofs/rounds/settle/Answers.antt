use Rattle.std.proofs.Common.{refl}
use Rattle.ks_service.proofs.RoundLemmas.{settled_kept, settles}
use Rattle.ks_service.proofs.rounds.settle.Goals as goal

pub release-pass-requires-clause-lands : goal.release-pass-requires-clause-lands
release-pass-requires-clause-lands g c =
    let s = settled_kept g.row.I-Fault.Denot g.I.Journaled.stands g.I.Journaled.kept c.args.held.pass c.args.call.now c.args.reply c.args.held.value c.value.result.now c.keep-kept.new.value
    c.value.ensures.shows c.keep-kept.ensures.same c.keep-kept.ensures.grows g.met.I.Decides.alone c.requires.sound c.requires.kept c.requires.tellable c.requires.replied in
    (s.front, s.lands)

pub returns : goal.returns
returns g c =
    let s = settled_kept g.row.I-Fault.Denot g.I.Journaled.stands g.I.Journaled.kept c.args.held.pass c.args.call.now c.args.reply c.args.held.value c.value.result.now c.keep-kept.new.value
    c.value.ensures.shows c.keep-kept.ensures.same c.keep-kept.ensures.grows g.met.I.Decides.alone c.requires.sound c.requires.kept c.requires.tellable c.requires.replied in
    settles g.row.I-Fault.Denot g.I.Journaled.stands g.I.Journaled.kept c.args.held.pass c.args.call.now c.args.reply c.args.held.value c.value.result.now c.keep-kept.new.value s
    c.release-pass.result c.release-pass.ensures _ refl c.requires.count c.front-moment.ensures.high c.front-moment.ensures.sound c.keep-kept.ensures.yes c.keep-kept.ensures.none
