use Rattle.std.proofs.Common.{rules}
use Rattle.std.proofs.lemmas.Fn.{always_returns_same}
use Rattle.ks_base.specs.declared.events.EventRow.{EventRow}
use Rattle.ks_base.proofs.PlaceLemmas.{searched_place}
use Rattle.ks_revoke.specs.Things.{thing_cmp, thing_of}
use Rattle.ks_revoke.proofs.ThingLemmas.{thing_total}
use Rattle.ks_revoke.proofs.marks.place.Goals as goal

pub returns-clause-place : goal.returns-clause-place
returns-clause-place c =
    searched_place thing_cmp thing_of thing_total c.args.thing.now c.args.marks.now c.binary_search_by.result c.requires c.binary_search_by.ensures.bound
    (c.binary_search_by.ensures.position (λ (mark : EventRow). thing_cmp mark.what c.args.thing.now) (always_returns_same _ _ _ (λ a r h called. (search rules, search rules))))
