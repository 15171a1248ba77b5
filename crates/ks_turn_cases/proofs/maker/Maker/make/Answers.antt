use Rattle.std.proofs.Common.{sym, subst}
use Rattle.ks_turn_cases.specs.Journals.{IsJournalOf}
use Rattle.ks_turn_cases.proofs.JournalLemmas.{landing, made_by}
use Rattle.ks_turn_cases.proofs.maker.Maker.make.Goals as goal

pub release-requires-clause-lands : goal.release-requires-clause-lands
release-requires-clause-lands g c =
    let l = landing c.add_to.new.journal _ _ _ _ _ c.hold-held.result.pass.seen (subst (λ v. IsJournalOf v.entries.items v.high c.hold-held.result.pass.seen) (sym c.value.ensures.shows) c.hold-held.ensures.stands) c.add_to.ensures.grew in
    (l.0, l.1)

pub returns-clause-made : goal.returns-clause-made
returns-clause-made g c =
    let l = landing c.add_to.new.journal _ _ _ _ _ c.hold-held.result.pass.seen (subst (λ v. IsJournalOf v.entries.items v.high c.hold-held.result.pass.seen) (sym c.value.ensures.shows) c.hold-held.ensures.stands) c.add_to.ensures.grew in
    made_by c.args.pass c.hold-held.result.pass c.release.result l.0 _ _ c.hold-held.ensures.pass (c.release.ensures l.0 l.1.later l.1.stands) l.1.later l.2
