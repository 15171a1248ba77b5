use Rattle.std.proofs.Common.{◌≡◌, rules, Option, Some, None, ap}
use Rattle.std.specs.Prelude.{MatchOption, IsSomeAnd}
use Rattle.std.specs.Option.{option_map}
use Rattle.ks_base.specs.declared.events.Revoke.TheVariants as revoke
use Rattle.ks_revoke.proofs.marks.things.Goals as goal

mapped_some : {Y : Type 0} (r : Option Y) (y : Y) (Q : Y → Type 0) → ((z : Y) → Q z → z ≡ y) → IsSomeAnd r Q → r ≡ Some y
mapped_some None y Q is called = absurd called
mapped_some (Some z) y Q is called = ap Some (is z called)

-- what a map gives of an option, where the closure gives this of its value
mapped : {X Y : Type 0} (f : X → Y) (o : Option X) (r : Option Y) (Q : X → Y → Type 0) → ((x : X) (y : Y) → Q x y → y ≡ f x) →
    MatchOption o (r ≡ None) (λ x. IsSomeAnd r (Q x)) → r ≡ option_map f o
mapped f None r Q is cases = cases
mapped f (Some x) r Q is cases = mapped_some r (f x) (Q x) (is x) cases

pub returns : goal.returns
returns c =
    let trustor = mapped revoke.User c.args.holder.now.trustor c.map.result _ (λ x y called. search rules) c.map.ensures.cases in
    let trustee = mapped revoke.User c.args.holder.now.trustee c.map-2.result _ (λ x y called. search rules) c.map-2.ensures.cases in
    let project = mapped revoke.Project c.args.holder.now.project c.map-3.result _ (λ x y called. search rules) c.map-3.ensures.cases in
    let trust = mapped revoke.Trust c.args.holder.now.trust c.map-4.result _ (λ x y called. search rules) c.map-4.ensures.cases in
    let user_domain = mapped revoke.Domain c.args.holder.now.user_domain c.map-5.result _ (λ x y called. search rules) c.map-5.ensures.cases in
    let scope_domain = mapped revoke.Domain c.args.holder.now.scope_domain c.map-6.result _ (λ x y called. search rules) c.map-6.ensures.cases in
    cc
