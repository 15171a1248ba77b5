-- From what the steps tell to what the calls of a turn promise.
use Rattle.std.proofs.Common.{◌≡◌, ◌≢◌, ℕ, ◌<◌, List, [], ◌∷◌, length, Option, Some, None, true, refl, sym, ap, subst, ◌∙◌, arith, eqb, eq-eqb, ne_eqb}
use mathlib.Core.Logic.{dite}
use mathlib.Core.Option.{none}
use native.Mathlib.Decide.{ℕ_discrete}
use prog.Atomic.{either}
use Rattle.atomic_table.specs.Seated.{TableId}
use Rattle.atomic_table.specs.Table.{Allows, Me, opening, rest, step}
use Rattle.ks_machine.specs.Fronts.{Front, IsSound, ◌⊑◌}
use Rattle.ks_turn.specs.declared.view.View.{View}
use Rattle.ks_turn.specs.Passes.{IsPass, Lands, passed, view_of}
use Rattle.ks_turn.specs.Rule.{Told, Turned, gave}
use Rattle.ks_turn.specs.Views.{first_view, front_at, given}
use Rattle.ks_machine.proofs.FrontLemmas.{reflexive, same}
use Rattle.ks_turn.proofs.StepLemmas.{begins, gives_turn, named}

-- the word that a compare-exchange leaves is never 0, and neither is the one that a swap puts there
pub never_free : (taken : ℕ) → taken ≢ 0 → (n : ℕ) → either (eqb n 0) taken n ≢ 0
never_free taken more n =
    dite (ℕ_discrete n 0) (λ free. subst (λ b. either b taken n ≢ 0) (sym (eq-eqb n 0 free)) more) (λ held. subst (λ b. either b taken n ≢ 0) (sym (ne_eqb n 0 held)) held)

pub waited_for : ℕ → ◌≢◌ {A = ℕ} 2 0
waited_for n e = omega arith

module _ {T : Type 0} where
  value_or : T → Option T → T
  value_or d None = d
  value_or d (Some x) = x

  first_of_list : Option T → List (ℕ × Option T) → Option T
  first_of_list d [] = d
  first_of_list d (c ∷ cs) = c.1

  -- what was taken from the slot is what the seat has
  pub lifted : (x : T) (r : Option T) (cs : List (ℕ × Option T)) → cs ≡ (0, Some x) ∷ [] → cs ≡ (0, r) ∷ rest cs → r ≡ Some x
  unfolding first_of_list
  lifted x r cs is found = ap (first_of_list r) (sym found ∙ is)

  -- the slot is the one that the seat took last
  pub at_hand : (r : Option T) (cs : List (ℕ × Option T)) → cs ≡ (0, r) ∷ [] → cs ≡ (0, r) ∷ rest cs
  at_hand r cs is = is ∙ ap (λ l. (0, r) ∷ l) (sym (ap rest is))

  pub some_of : (x y : T) → Some x ≡ Some y → x ≡ y
  some_of x y e = cc

module _ (first : Front) {T : Type 0} (means : T → Front → Type 0) where
  -- a seat that waited is as it was before
  pub waited : (me now after : Me (Option T) View) → now ≡ me → me.1 ≡ [] → (x : T) × (after.1 ≡ (0, Some x) ∷ now.1) × Told first means now.0 after.0 x
      → (x : T) × (after.1 ≡ (0, Some x) ∷ []) × Told first means me.0 after.0 x
  waited me now after same free t =
      (t.0, t.1 ∙ ap (λ cs. (0, Some t.0) ∷ cs) (ap (λ (m : Me (Option T) View). m.1) same ∙ free), subst (λ (m : Me (Option T) View). Told first means m.0 after.0 t.0) same t.2)

  -- a seat that has the value at hand again
  at_hand_again : (me : Me (Option T) View) (v : View) (x : T) (cs : List (ℕ × Option T)) → me ≡ (v, (0, Some x) ∷ rest cs) → cs ≡ (0, None) ∷ [] → me ≡ (v, (0, Some x) ∷ [])
  at_hand_again me v x cs is empty = is ∙ ap (λ (l : List (ℕ × Option T)). (v, (0, Some x) ∷ rest l)) empty

  pub puts : (slots id : ℕ) (me : Me (Option T) View) (v : View) (x : T) (cs : List (ℕ × Option T)) → me ≡ (v, (0, Some x) ∷ rest cs) → cs ≡ (0, None) ∷ []
      → v.holds ≡ true → 0 < v.weight → (f : Front) × IsSound f × Lands means x (front_at first v.seen) f
      → Allows (Turned first means) slots id me 1 (λ _. 0) (gave first means (step slots 1 0 0 none) me)
  puts slots id me v x cs is empty holds weight lands =
      let l = lands.2 in
      subst (λ (m : Me (Option T) View). Allows (Turned first means) slots id m 1 (λ _. 0) (gave first means (step slots 1 0 0 none) m)) (sym (at_hand_again me v x cs is empty))
      (gives_turn first means slots id (v, (0, Some x) ∷ []) x lands.0 refl holds weight l.later l.stands lands.1 l.alone)

  pub gave_back : (me after : Me (Option T) View) (v : View) (x : T) (n : ℕ) (cs : List (ℕ × Option T)) → me ≡ (v, (0, Some x) ∷ rest cs) → cs ≡ (0, None) ∷ []
      → gave first means (step 0 1 0 0 none) me n after → (f : Front) → front_at first v.seen ⊑ f → means x f → after ≡ (given f v, [])
  gave_back me after v x n cs is empty told f later stands =
      let t = subst (λ (m : Me (Option T) View). gave first means (step 0 1 0 0 none) m n after) (at_hand_again me v x cs is empty) told in
      let u = t x refl f later stands in
      λ i. (u.0 i, u.1 i)

  -- a value that nobody changed lands on the front that it stood for
  pub lands_same : (x : T) (f : Front) (changes moment kept : ℕ) → ((g : Front) → means x g → (length g.changes ≡ changes) × (g.high ≡ moment) × IsSound g)
      → ((g : Front) → means x g → g.kept ≡ kept) → means x f → (h : Front) × IsSound h × Lands means x f h
  lands_same x f changes moment kept tells keeps stands =
      let mine = tells f stands in (
        f,
        mine.2,
        record {
          later = reflexive f;
          stands = stands;
          alone = λ g later stands'. let theirs = tells g stands' in sym (same f g later (mine.0 ∙ sym theirs.0) (mine.1 ∙ sym theirs.1) (keeps f stands ∙ sym (keeps g stands')));
        },
      )

  -- the pass that rests after the turn was given back
  pub is_pass : (views : List View) (me : Me (Option T) View) (v : View) (f : Front) (count last : ℕ) → views ≡ me.0 ∷ [] → me ≡ (given f v, []) → front_at first v.seen ⊑ f
      → 0 < v.weight → (length f.changes ≡ count) × (f.high ≡ last) × IsSound f → IsPass first count last views
  is_pass views me v f count last one is later weight tells =
      subst (IsPass first count last) (sym (one ∙ ap (λ (m : Me (Option T) View). m.0 ∷ []) is)) (record {
        one = refl;
        told = refl;
        rests = refl;
        weight = weight;
        sound = subst IsSound (sym (named first v.seen f later)) tells.2;
        changes = tells.0;
        moment = tells.1;
      })

  pub passed_is : (turn turn' : TableId) (views : List View) (me : Me (Option T) View) (v : View) (f : Front) → turn ≡ turn' → views ≡ me.0 ∷ [] → me ≡ (given f v, [])
      → passed first turn (view_of first views) ≡ passed first turn' (given f v)
  passed_is turn turn' views me v f same one is =
      λ i. passed first (same i) (view_of first (let e = one ∙ ap (λ (m : Me (Option T) View). m.0 ∷ []) is in e i))

  -- the beginning of a turn
  pub begins_with : (xs : List (Option T)) (x : T) → xs ≡ Some x ∷ [] → means x first → IsSound first → Turned first means (opening (0 ∷ 0 ∷ []) xs (first_view first))
  begins_with xs x is stands sound = subst (λ (l : List (Option T)). Turned first means (opening (0 ∷ 0 ∷ []) l (first_view first))) (sym is) (begins first means x stands sound)

  pub first_rests : (views : List View) (me : Me (Option T) View) (count last : ℕ) → views ≡ me.0 ∷ [] → me ≡ (first_view first, [])
      → (length first.changes ≡ count) × (first.high ≡ last) × IsSound first → IsPass first count last views
  first_rests views me count last one is tells =
      subst (IsPass first count last) (sym (one ∙ ap (λ (m : Me (Option T) View). m.0 ∷ []) is))
      (record { one = refl; told = refl; rests = refl; weight = omega arith; sound = tells.2; changes = tells.0; moment = tells.1 })
