use Rattle.std.proofs.Common.{List, ap, ◌∙◌}
use Rattle.std.specs.List.{list_any}
use Rattle.ks_base.specs.declared.events.EventRow.{EventRow}
use Rattle.ks_base.specs.Revocation.{is_revoked, live}
use Rattle.ks_revoke.specs.Histories.{Kept}
use Rattle.ks_revoke.specs.Marks.{ends_if}
use Rattle.ks_revoke.specs.Things.{things_of}
use Rattle.ks_revoke.proofs.TestLemmas.{tested}
use Rattle.ks_revoke.proofs.HeldLemmas.{whole_revoked}
use Rattle.ks_revoke.proofs.revoked.Revoked.test.Goals as goal

kept_revoked : goal.returns-clause-kept
kept_revoked c =
    c.any_ends.ensures
    ∙ ap (λ (marks : List EventRow). list_any (ends_if c.args.issued (live c.self.inside.life c.self.inside.high marks)) (things_of c.args.holder.now)) c.as_slice.ensures.value
    ∙ tested c.args.issued c.args.holder.now c.self.inside.events.items (live c.self.inside.life c.self.inside.high c.self.inside.marks.items) c.self.invariant.marks_are
    ∙ ap (λ (kept : Kept). is_revoked kept.events c.args.holder.now c.args.issued) c.self.view_is

pub returns-clause-kept : goal.returns-clause-kept
returns-clause-kept c = kept_revoked c

pub returns-clause-history : goal.returns-clause-history
returns-clause-history c =
    λ history stands within. kept_revoked c ∙ whole_revoked c.args.self.now history c.args.holder.now c.args.issued stands within
