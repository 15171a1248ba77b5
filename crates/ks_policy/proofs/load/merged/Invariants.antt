use Rattle.std.proofs.Common.{◌≡◌}
use Rattle.serde_json.specs.View.{members_view}
use Rattle.ks_base.specs.Tables.{id_cmp, IsAscending}
use Rattle.ks_policy.specs.Defaults.{defaults}
use Rattle.ks_policy.specs.Loading.{over}
use Rattle.ks_policy.proofs.load.merged.Given as goal

abbrev pub invariant-loop-name : goal.invariant-loop-name
invariant-loop-name l =
    (over l.texts.items (members_view l.name-iterator) ≡ over defaults (members_view l.members.entries))
    × IsAscending id_cmp (λ row. row.name) l.texts.items
