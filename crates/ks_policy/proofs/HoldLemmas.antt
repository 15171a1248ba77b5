-- Where trees hold, and what holds after some rounds.
use Rattle.std.proofs.Common.{◌≡◌, ◌⊎◌, inl, inr, ℕ, zero, suc, ◌+◌, ◌-◌, ◌<◌, ◌≤◌, Bool, true, false, not, ◌&&◌, ◌||◌, List, length, get_or, Option, Some, None, refl, sym, ap, subst, ◌∙◌, arith, replicate, get_or-set_other}
use Rattle.std.proofs.Math.ListN.{set, length-set}
use Rattle.ks_rule.specs.declared.credentials.Credentials.{Credentials}
use Rattle.ks_rule.specs.Kinds.{Fields}
use Rattle.ks_rule.specs.Trees.{Tree, always, never, named, role, compare, negated, both, either}
use Rattle.ks_rule.specs.Truth.{truth}
use Rattle.ks_machine.specs.Openings.{NamedRule}
use Rattle.ks_machine.specs.Rules.{place_named, tree_at, tree_placed, tree_named}
use Rattle.ks_policy.specs.Cycles.{Names}
use Rattle.ks_machine.specs.Allowed.{holds_in, allowed}
use Rattle.ks_policy.specs.Marks.{mark_at, mark_of, unmarked}
use Rattle.ks_policy.proofs.MarkLemmas.{unmarked_set, unmarked_none, none_marked}
use Rattle.ks_policy.proofs.PlaceLemmas.{named_within}

-- a tree holds the same where the names in it do
pub truth_alike : (f g : List ℕ → Bool) (tree : Tree) (creds : Credentials) (target : Fields) →
    ((name : List ℕ) → Names tree name → f name ≡ g name) → truth f tree creds target ≡ truth g tree creds target
unfolding truth
truth_alike f g always creds target same = refl
truth_alike f g never creds target same = refl
truth_alike f g (named name) creds target same = same name refl
truth_alike f g (role text) creds target same = refl
truth_alike f g (compare kind text) creds target same = refl
truth_alike f g (negated a) creds target same = ap not (truth_alike f g a creds target same)
truth_alike f g (both a b) creds target same =
    let left = truth_alike f g a creds target (λ name is. same name (inl is)) in
    let right = truth_alike f g b creds target (λ name is. same name (inr is)) in
    rw (left, right) refl
truth_alike f g (either a b) creds target same =
    let left = truth_alike f g a creds target (λ name is. same name (inl is)) in
    let right = truth_alike f g b creds target (λ name is. same name (inr is)) in
    rw (left, right) refl

pub truth_never : (f : List ℕ → Bool) (creds : Credentials) (target : Fields) → truth f never creds target ≡ false
unfolding truth
truth_never f creds target = refl

-- one more round
pub holds_none : (rules : List NamedRule) (creds : Credentials) (target : Fields) (name : List ℕ) → holds_in zero rules creds target name ≡ false
unfolding holds_in
holds_none rules creds target name = refl

pub holds_more : (n : ℕ) (rules : List NamedRule) (creds : Credentials) (target : Fields) (name : List ℕ) →
    holds_in (suc n) rules creds target name ≡ truth (holds_in n rules creds target) (tree_named rules name) creds target
unfolding holds_in
holds_more n rules creds target name = refl
