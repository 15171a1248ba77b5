-- What follows of a front for which an identity stands: its highest moment and its number of changes are told, and of the fronts that go on
-- from one by a change at most there is one alone.
use Rattle.std.proofs.Common.{◌≡◌, ◌+◌, ◌≤◌, List, [], ◌∷◌, ◌++◌, length, Option, Some, None, refl, sym, ap, subst, ◌∙◌, arith, length-append}
use Rattle.ks_machine.specs.declared.change.Entry.{Entry}
use Rattle.ks_machine.specs.Fronts.{Front, ◌⊑◌, replay}
use Rattle.ks_machine.specs.Opened.{opened_state}
use Rattle.ks_machine.specs.States.{State}
use Rattle.ks_machine.proofs.FrontLemmas.{made_after}
use Rattle.ks_state.specs.Shown.{Shown}
use Rattle.ks_state.specs.Standing.{IsNewest, Stands, StandsWithAllKept, changes_made}

pub high_is : (shown : Shown) (f : Front) → Stands shown f → shown.state.high ≡ f.high
unfolding replay
high_is shown f stands = ap (λ (S : State). S.high) stands.state

pub made_is : (f : Front) → (replay f).made ≡ length f.changes
unfolding replay opened_state
made_is f = omega (arith, made_after (opened_state f.opening) f.changes)

pub made_so_far : (shown : Shown) (f : Front) → Stands shown f → shown.state.made ≡ length f.changes
made_so_far shown f stands = ap (λ (S : State). S.made) stands.state ∙ made_is f

pub kept_is : (shown : Shown) (f : Front) → StandsWithAllKept shown f → f.kept ≡ changes_made shown
kept_is shown f stands = stands.kept ∙ sym (made_so_far shown f stands.stands)

-- the last change is the last of all

not_empty : (xs : List Entry) (x : Entry) → xs ++ x ∷ [] ≡ [] → ⊥
not_empty [] x e = cc
not_empty (y ∷ xs) x e = cc

last_of : Entry → List Entry → Entry
last_of entry [] = entry
last_of entry (next ∷ entries) = last_of next entries

last_behind : (entry : Entry) (older : List Entry) (last : Entry) → last_of entry (older ++ last ∷ []) ≡ last
unfolding last_of
last_behind entry [] last = refl
last_behind entry (next ∷ older) last = last_behind next older last

same_last : (older base : List Entry) (x y : Entry) → older ++ x ∷ [] ≡ base ++ y ∷ [] → x ≡ y
same_last older base x y e = sym (last_behind x older x) ∙ ap (last_of x) e ∙ last_behind x base y

is_last : (newest : Option Entry) (base : List Entry) (x : Entry) → IsNewest newest (base ++ x ∷ []) → newest ≡ Some x
is_last None base x is = absurd (not_empty base x is)
is_last (Some entry) base x is = ap Some (sym (same_last base is.0 x entry is.1))

same_later : (newest : Option Entry) (base us vs : List Entry) → IsNewest newest (base ++ us) → IsNewest newest (base ++ vs) →
    length us ≡ length vs → length us ≤ 1 → us ≡ vs
same_later newest base [] [] a b count most = refl
same_later newest base [] (y ∷ vs) a b count most = absurd (omega arith)
same_later newest base (x ∷ us) [] a b count most = absurd (omega arith)
same_later newest base (x ∷ []) (y ∷ []) a b count most =
    ap (λ (entry : Entry). entry ∷ []) (cc (sym (is_last newest base x a) ∙ is_last newest base y b))
same_later newest base (x ∷ []) (y ∷ z ∷ vs) a b count most = absurd (omega arith)
same_later newest base (x ∷ z ∷ us) (y ∷ vs) a b count most = absurd (omega arith)

-- of two fronts that go on from one by a change at most, and for each of which it stands, all but what is kept is the same
pub stands_alike : (shown : Shown) (base f g : Front) → base ⊑ f → base ⊑ g → length f.changes ≤ length base.changes + 1 → Stands shown f → Stands shown g →
    (g.opening ≡ f.opening) × (g.changes ≡ f.changes) × (g.high ≡ f.high)
stands_alike shown base f g on too most stands also =
    let count : length g.changes ≡ length f.changes = sym (made_so_far shown g also) ∙ made_so_far shown f stands in
    let more : length f.changes ≡ length base.changes + length on.later = ap length on.changes ∙ length-append base.changes on.later in
    let more_too : length g.changes ≡ length base.changes + length too.later = ap length too.changes ∙ length-append base.changes too.later in
    let later : too.later ≡ on.later =
    same_later shown.newest base.changes too.later on.later (subst (IsNewest shown.newest) too.changes also.newest) (subst (IsNewest shown.newest) on.changes stands.newest)
    (omega arith) (omega arith) in (
      sym too.opening ∙ on.opening,
      too.changes ∙ ap (λ (entries : List Entry). base.changes ++ entries) later ∙ sym on.changes,
      sym (high_is shown g also) ∙ high_is shown f stands,
    )

pub stands_alone : (shown : Shown) (base f g : Front) → base ⊑ f → base ⊑ g → length f.changes ≤ length base.changes + 1 →
    StandsWithAllKept shown f → StandsWithAllKept shown g → g ≡ f
stands_alone shown base f g on too most stands also =
    let alike = stands_alike shown base f g on too most stands.stands also.stands in
    let kept = also.kept ∙ ap (λ (entries : List Entry). length entries) alike.1 ∙ sym stands.kept in
    λ i. record { opening = alike.0 i; changes = alike.1 i; high = alike.2 i; kept = kept i }
