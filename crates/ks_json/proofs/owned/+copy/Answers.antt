use Rattle.std.proofs.Common.{◌≡◌, ◌+◌, ◌<◌, length, [], ◌∷◌, ◌++◌, take, string_bytes, sym, ap, ap₂, ◌∙◌, rules}
use Rattle.std.proofs.lemmas.List.{take_more}
use Rattle.serde_json.specs.Data.{put}
use Rattle.serde_json.specs.View as owned
use Rattle.serde_json.proofs.Views.{members_view-insert_entry}
use Rattle.ks_json.specs.View.{view, members_view}
use Rattle.ks_json.proofs.Views.{members_push}
use Rattle.ks_json.proofs.owned.+copy.Goals as goal

pub copy_members-loop-member-preserved : goal.copy_members-loop-member-preserved
copy_members-loop-member-preserved t c =
    let all = c.deref-member-items.result.now in
    let i = c.loop-member.member-index in
    let m = c.member-item.result in
    let done = take i all in
    let within : i < length all = search rules in
    let front : take (i + 1) all ≡ done ++ m ∷ [] = take_more all i m within ∙ ap (λ next. done ++ next ∷ []) (sym c.member-item.is) in
    let named : string_bytes c.in_ok-name.name ≡ m.0.now = search rules in
    ap owned.members_view c.in_ok-insert.ensures.entries
    ∙ members_view-insert_entry c.loop-member.copies.entries c.in_ok-name.name c.in_ok-copy.field-0
    ∙ ap₂ (λ name value. put name value (owned.members_view c.loop-member.copies.entries)) named c.in_ok-copy.ensures
    ∙ ap (put m.0.now (view m.1)) c.loop-member.invariant
    ∙ sym (ap members_view front ∙ members_push done m)
