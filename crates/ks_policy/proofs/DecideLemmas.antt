-- What holds at places, from marks that say what holds at those that are needed.
use Rattle.std.proofs.Common.{◌≡◌, ℕ, zero, suc, ◌+◌, ◌<◌, ◌≤◌, Bool, true, false, List, [], ◌∷◌, length, get_or, Option, Some, None, refl, sym, ap, subst, ◌∙◌, arith, below_more, get_or-set_same}
use Rattle.std.proofs.Math.ListN.{set}
use Rattle.ks_rule.specs.declared.credentials.Credentials.{Credentials}
use Rattle.ks_rule.specs.Kinds.{Fields}
use Rattle.ks_rule.specs.Truth.{truth}
use Rattle.ks_machine.specs.Openings.{NamedRule}
use Rattle.ks_machine.specs.Rules.{place_named, tree_at, tree_placed}
use Rattle.ks_policy.specs.Cycles.{Leads, HasNoCycle}
use Rattle.ks_machine.specs.Allowed.{allowed}
use Rattle.ks_policy.specs.Allowed.{holds_at}
use Rattle.ks_policy.specs.Marks.{mark_at, mark_of}
use Rattle.ks_policy.specs.Needs.{IsAmong, IsOrdered, AreNeeds}
use Rattle.ks_policy.proofs.HoldLemmas.{truth_alike, truth_never}
use Rattle.ks_policy.proofs.LawLemmas.{allowed_settled}

-- what the rule of a name is, at its place
pub allowed_placed : (rules : List NamedRule) (name : List ℕ) (creds : Credentials) (target : Fields) (at : ℕ) → HasNoCycle rules →
    place_named rules name ≡ Some at → allowed rules name creds target ≡ holds_at rules at creds target
allowed_placed rules name creds target at free e =
    allowed_settled rules name creds target free
    ∙ ap (λ (p : Option ℕ). truth (λ other. allowed rules other creds target) (tree_placed rules p) creds target) e

pub allowed_none : (rules : List NamedRule) (name : List ℕ) (creds : Credentials) (target : Fields) → HasNoCycle rules →
    place_named rules name ≡ None → allowed rules name creds target ≡ false
allowed_none rules name creds target free e =
    allowed_settled rules name creds target free
    ∙ ap (λ (p : Option ℕ). truth (λ other. allowed rules other creds target) (tree_placed rules p) creds target) e
    ∙ truth_never (λ other. allowed rules other creds target) creds target

mark_placed : (rules : List NamedRule) (name : List ℕ) (creds : Credentials) (target : Fields) (marks : List Bool) (place : Option ℕ) →
    HasNoCycle rules → place_named rules name ≡ place → ((j : ℕ) → place ≡ Some j → mark_at marks j ≡ holds_at rules j creds target) →
    mark_of marks place ≡ allowed rules name creds target
mark_placed rules name creds target marks None free e marked = sym (allowed_none rules name creds target free e)
mark_placed rules name creds target marks (Some j) free e marked = marked j refl ∙ sym (allowed_placed rules name creds target j free e)

-- a rule holds by the marks as it does, where they say what holds at the places that it names
pub truth_marked : (rules others : List NamedRule) (creds : Credentials) (target : Fields) (marks : List Bool) (at : ℕ) → others ≡ rules →
    HasNoCycle rules → ((j : ℕ) → Leads rules at j → mark_at marks j ≡ holds_at rules j creds target) →
    truth (λ name. mark_of marks (place_named others name)) (tree_at rules at) creds target ≡ holds_at rules at creds target
truth_marked rules others creds target marks at same free marked =
    truth_alike (λ name. mark_of marks (place_named others name)) (λ name. allowed rules name creds target) (tree_at rules at) creds target
    (λ name is. ap (λ (r : List NamedRule). mark_of marks (place_named r name)) same
    ∙ mark_placed rules name creds target marks (place_named rules name) free refl (λ j e. marked j (name, is, e)))

-- the first so many places are marked as they hold
abbrev pub MarksHold : List NamedRule → Credentials → Fields → List ℕ → List Bool → ℕ → Type 0
MarksHold rules creds target needs marks end =
    (k : ℕ) → k < end → mark_at marks (get_or needs k 0) ≡ holds_at rules (get_or needs k 0) creds target

pub marked_among : (rules : List NamedRule) (creds : Credentials) (target : Fields) (needs : List ℕ) (marks : List Bool) (end j : ℕ) →
    MarksHold rules creds target needs marks end → IsAmong needs end j → mark_at marks j ≡ holds_at rules j creds target
marked_among rules creds target needs marks end j marked is =
    subst (λ (q : ℕ). mark_at marks q ≡ holds_at rules q creds target) is.2 (marked is.0 is.1)

-- a mark in one place leaves the others
set_keeps : (marks : List Bool) (p i : ℕ) (held is : Bool) → get_or marks i false ≡ is → (i ≡ p → held ≡ is) → get_or (set marks p held) i false ≡ is
set_keeps [] p i held is was now = was
set_keeps (b ∷ marks) zero zero held is was now = now refl
set_keeps (b ∷ marks) zero (suc i) held is was now = was
set_keeps (b ∷ marks) (suc p) zero held is was now = was
set_keeps (b ∷ marks) (suc p) (suc i) held is was now = set_keeps marks p i held is was (λ e. now (ap suc e))

pub marks_next : (rules others : List NamedRule) (creds : Credentials) (target : Fields) (needs : List ℕ) (marks : List Bool) (end p : ℕ) (held : Bool) →
    others ≡ rules → HasNoCycle rules → IsOrdered rules needs → end < length needs → p ≡ get_or needs end 0 → p < length marks →
    MarksHold rules creds target needs marks end →
    held ≡ truth (λ name. mark_of marks (place_named others name)) (tree_at rules p) creds target →
    MarksHold rules creds target needs (set marks p held) (end + 1)
marks_next rules others creds target needs marks end p held same free ordered lt is within marked made =
    let step : (j : ℕ) → Leads rules p j → IsAmong needs end j =
    λ j leads. ordered.behind end lt j (subst (λ (q : ℕ). Leads rules q j) is leads) in
    let now : held ≡ holds_at rules p creds target =
    made ∙ truth_marked rules others creds target marks p same free
    (λ j leads. marked_among rules creds target needs marks end j marked (step j leads)) in
    let P : ℕ → Type 0 = λ k. mark_at (set marks p held) (get_or needs k 0) ≡ holds_at rules (get_or needs k 0) creds target in
    below_more P end
    (λ k less. set_keeps marks p (get_or needs k 0) held (holds_at rules (get_or needs k 0) creds target) (marked k less)
    (λ e. now ∙ ap (λ (q : ℕ). holds_at rules q creds target) (sym e)))
    (subst (λ (q : ℕ). mark_at (set marks p held) q ≡ holds_at rules q creds target) is (get_or-set_same marks p held false within ∙ now))
