use Rattle.std.proofs.Common.{◌≡◌, true, List, length, refl, sym, ap, subst, ◌∙◌}
use Rattle.ks_base.specs.declared.events.Revoke.{Revoke}
use Rattle.ks_base.specs.Rows.{Id}
use Rattle.ks_machine.specs.declared.change.Change.TheVariants as change
use Rattle.ks_machine.specs.Changes.{domain_dropped, effect}
use Rattle.ks_trust.specs.State.{without_trusts}
use Rattle.ks_state.specs.Logs.{is_room}
use Rattle.ks_opening.specs.Opened.{rows_in}
use Rattle.ks_state.specs.Shown.{HasRoom, Shown, changed}
use Rattle.ks_state.proofs.MakeLemmas.{Tabled, creds_dropped, domain_rows, factors_dropped, grants_dropped, made, parts, people_dropped, tabled_rows}
use Rattle.ks_state.proofs.identity.Identity.drop_domain.Goals as goal

pub returns : goal.returns
unfolding effect domain_dropped
returns c =
    let i = c.self.inside in
    let gone = c.in_ok-rows.rows.domain in
    let same = c.in_ok-rows.ensures.domain in
    let what = change.DropDomain c.args.id in
    let tables : Tabled = record {
      tree = i.tree;
      people = i.people;
      roles = i.roles;
      grants = i.grants;
      trusts = i.trusts;
      catalog = i.catalog;
      creds = i.app_creds;
      factors = i.factors.state;
    } in
    let before = tabled_rows tables in
    let state = (parts i.settings i.rules i.ring before i.log).state in
    let left = rows_in c.drop_domain.new.self c.drop_people.new.people i.roles c.drop_grants.new.grants c.drop_all.new.self i.catalog c.drop_creds.new.creds
    c.drop_factors.new.factors.state in
    let things = c.as_slice-2.ensures ∙ c.in_ok-gone.ensures.things ∙ ap (λ (v : Shown). (effect v.state (change.DropDomain gone)).ended) (sym c.self.view_is)
    ∙ ap (λ (d : Id). (effect state (change.DropDomain d)).ended) same in
    let trusts = c.drop_all.ensures ∙ ap (λ (v : Shown). without_trusts c.in_ok-gone.gone.ids v.state.rows.trusts) c.self.view_is ∙ c.in_ok-gone.ensures.left
    ∙ ap (λ (v : Shown). (effect v.state (change.DropDomain gone)).rows.trusts) (sym c.self.view_is) ∙ ap (λ (d : Id). (effect state (change.DropDomain d)).rows.trusts) same in
    let grants = c.drop_grants.ensures ∙ ap (λ (d : Id). grants_dropped d i.tree i.people i.grants) same in
    let people = c.drop_people.ensures ∙ ap (λ (d : Id). people_dropped d i.people) same in
    let creds = c.drop_creds.ensures ∙ ap (λ (d : Id). creds_dropped d i.tree i.people i.app_creds) same in
    let factors = c.drop_factors.ensures ∙ ap (λ (d : Id). factors_dropped d i.people i.factors.state) same in
    let room = subst (λ (l : List Revoke). is_room c.args.most i.log.revoked.events (length l) ≡ true) (c.as_slice.ensures ∙ sym c.as_slice-2.ensures) c.in_ok-ready.ensures.free in
    subst (λ (v : Shown). HasRoom c.args.most v what × (parts i.settings i.rules i.ring left c.write.new.self ≡ changed what v)) c.self.view_is
    (made c.args.most i.settings i.rules i.ring before left i.log c.ready.new.self c.write.new.self c.as_slice-2.result.now what c.in_ok-ready.ensures.same c.write.ensures (
      things,
      domain_rows tables c.drop_domain.new.self c.drop_people.new.people c.drop_grants.new.grants c.drop_all.new.self c.drop_creds.new.creds c.drop_factors.new.factors.state
          c.args.id c.in-Ok.ensures.decides.1 people grants trusts creds factors,
      refl,
    )
    room c.in_ok-ready.ensures.count)
