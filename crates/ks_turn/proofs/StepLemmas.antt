-- Each step of the turn keeps its rule.
use Rattle.std.proofs.Common.{◌≡◌, ◌≢◌, ◌⊎◌, inl, inr, ⊎_elim, ℕ, zero, suc, ◌+◌, ◌-◌, ◌<◌, ◌≤◌, List, [], ◌∷◌, ◌++◌, length, max, set, get_or, Option, None, Some, true, false, refl, sym, ap, subst, ◌∙◌, arith, length-append, length-set, get_or-set_same, get_or-set_other}
use Rattle.std.proofs.lemmas.Bool.Decides.{nat_tests}
use Rattle.std.proofs.lemmas.Bool.{false≢true}
use mathlib.Core.Logic.{dite}
use mathlib.Core.Option.{none, some, some-injective, some-ne-none}
use native.Mathlib.Decide.{dec_le, ℕ_discrete}
use lib.ListN.{get_elem?}
use Rattle.atomic_table.specs.Table.{Allows, Joins, Me, Splits, State, gives, keeps, opening, rest, step, stepped, takes}
use Rattle.atomic_table.proofs.Lists.{at_longer, set_again, set_else, set_here}
use Rattle.ks_machine.specs.declared.change.Entry.{Entry}
use Rattle.ks_machine.specs.Fronts.{Front, IsSound, ◌⊑◌}
use Rattle.ks_machine.proofs.FrontLemmas.{reflexive, transitive}
use Rattle.ks_turn.specs.declared.view.Seen.{Seen}
use Rattle.ks_turn.specs.declared.view.View.{View}
use Rattle.ks_turn.specs.Rule.{AreOrdered, HasLast, HasTop, IsLast, HeldBy, Knows, Saw, Turned, gave, looked, tried}
use Rattle.ks_turn.specs.Sums.{below, times, total}
use Rattle.ks_turn.specs.Views.{cut_off, first_view, front_at, given, holding, left_over, met, risen, seen_of, since, spent}
use Rattle.ks_turn.proofs.SumLemmas.{length-numbers, times-append, times-numbers, total_set, total_snoc}
use Rattle.ks_turn.proofs.ViewLemmas.{each_set, each_snoc, pairs_set, pairs_snoc, some_set, some_snoc, within}

max_of : (m n high : ℕ) → m ≤ high → n ≤ high → max m n ≤ high
max_of m n high le ge = omega (arith, le, ge)

-- the list of own numbers, and the top, after a release
own_grows : (n : ℕ) (own : List ℕ) (old new later : List Entry) → new ≡ old ++ later
    → times n (own ++ since old new) + below n (length old) ≡ times n own + below n (length new)
own_grows n own old new later is =
    let more : length new ≡ length old + length later = ap length is ∙ length-append old later in
    let end : length old + (length new - length old) ≡ length new = omega arith in
    let last = ap (λ m. below n m) end in
    let counted = times-numbers n (length old) (length new - length old) in
    let split = times-append n own (since old new) in
    omega arith

length_grows : (own : List ℕ) (old new later : List Entry) → new ≡ old ++ later → length (own ++ since old new) + length old ≡ length own + length new
length_grows own old new later is =
    let more : length new ≡ length old + length later = ap length is ∙ length-append old later in
    let counted = length-numbers (length old) (length new - length old) in
    let split = length-append own (since old new) in
    omega arith

risen_low : (old new top : ℕ) → old ≤ new → top ≤ old → risen old new top ≤ new
risen_low old new top le low = grind (arith, nat_tests)

pub risen_up : (old new top : ℕ) → old < new → risen old new top ≡ new
risen_up old new top lt = grind (arith, nat_tests)

pub risen_not : (old top : ℕ) → risen old old top ≡ top
risen_not old top = grind (arith, nat_tests)

module _ (first : Front) where
  -- a front that goes on from one of the turn is that of what was seen of it
  pub named : (s : Seen) (f : Front) → front_at first s ⊑ f → front_at first (seen_of f) ≡ f
  named s f a = λ i. record { opening = a.opening i; changes = f.changes; high = f.high; kept = f.kept }

  later_saw : (base next f : Front) → base ⊑ next → Saw first base f → Saw first next f
  later_saw base next f a saw = record { start = saw.start; before = transitive f base next saw.before a; sound = saw.sound }

  base_saw : (base : Seen) → first ⊑ front_at first base → IsSound (front_at first base) → Saw first (front_at first base) (front_at first base)
  base_saw base start sound = record { start = start; before = reflexive (front_at first base); sound = sound }

  -- what is known of a view that does not hold the turn
  still : (base next : Seen) (word holder by word' holder' : ℕ) (v : View) → front_at first base ⊑ front_at first next
      → v.holds ≡ false → Knows first base word holder by v → Knows first next word' holder' by v
  still base next word holder by word' holder' v a rests k = record {
    seen = later_saw (front_at first base) (front_at first next) (front_at first v.seen) a k.seen;
    told = later_saw (front_at first base) (front_at first next) (front_at first v.told) a k.told;
    ordered = k.ordered;
    holds = λ h. absurd (false≢true (sym rests ∙ h));
    spent = k.spent;
    top = omega (arith, k.top, a.high);
  }

  -- a view that nobody but the holder is does not hold the turn
  not_held : (base : Seen) (word holder by : ℕ) (v : View) → Knows first base word holder by v → ((by ≡ holder) × (word ≢ 0) → ⊥) → (b : _) → v.holds ≡ b → v.holds ≡ false
  not_held base word holder by v k apart true e = let h = k.holds e in absurd (apart (h.0, h.1))
  not_held base word holder by v k apart false e = e

  module _ {T : Type 0} (means : T → Front → Type 0) where
    abbrev St : Type 0
    St = State (Option T) View

    abbrev Rule : St → Type 0
    Rule = Turned first means

    abbrev word_of : St → ℕ
    word_of s = get_or s.words 1 0

    only_at : (v w : View) (by : ℕ) → get_elem? (v ∷ []) by ≡ some w → v ≡ w
    only_at v w zero e = some-injective v w e
    only_at v w (suc by) e = absurd (some-ne-none w (sym e))

    pub begins : (x : T) → means x first → IsSound first → Rule (opening (0 ∷ 0 ∷ []) (Some x ∷ []) (first_view first))
    begins x stands sound = let v : View = first_view first in let saw = base_saw (seen_of first) (reflexive first) sound in record {
      base = seen_of first;
      holder = 0;
      two = refl;
      begun = sound;
      start = reflexive first;
      sound = sound;
      free = λ _. (x, refl, stands);
      taken = λ held. absurd (held refl);
      each = λ by w e. subst (λ (u : View). Knows first (seen_of first) 0 0 by u) (only_at v w by e)
          (record { seen = saw; told = saw; ordered = inl (reflexive first); holds = λ h. absurd (false≢true h); spent = λ z. absurd (omega arith); top = omega arith });
      ordered = λ i j u w d e. subst (λ (p : View × View). AreOrdered (front_at first p.0.seen) (front_at first p.1.seen)) (λ k. (only_at v u i d k, only_at v w j e k)) (inl (reflexive first));
      last = (0, v, refl, (omega arith, inl refl));
      weights = refl;
      owned = λ n. omega arith;
      lengths = omega arith;
      high = inl refl;
    }

    -- the word may change while the turn is held
    reworded : (s : St) (r : Rule s) (n : ℕ) → word_of s ≢ 0 → n ≢ 0 → Rule (record { words = set s.words 1 n; homes = s.homes; views = s.views })
    reworded s r n held more =
        let two : length s.words ≡ 2 = r.two in
        let now : get_or (set s.words 1 n) 1 0 ≡ n = get_or-set_same s.words 1 n 0 (omega arith) in record {
          base = r.base;
          holder = r.holder;
          two = length-set s.words 1 n ∙ r.two;
          begun = r.begun;
          start = r.start;
          sound = r.sound;
          free = λ z. absurd (more (sym now ∙ z));
          taken = λ _. r.taken held;
          each = λ by v e. let k = r.each by v e in
              record { seen = k.seen; told = k.told; ordered = k.ordered; holds = λ h. let was = k.holds h in (was.0, (λ z. more (sym now ∙ z)), was.2); spent = k.spent; top = k.top };
          ordered = r.ordered;
          last = r.last;
          weights = r.weights;
          owned = r.owned;
          lengths = r.lengths;
          high = r.high;
        }

    -- the other word says nothing about the turn
    unspoken : (s : St) (r : Rule s) (n : ℕ) → Rule (record { words = set s.words 0 n; homes = s.homes; views = s.views })
    unspoken s r n =
        let same : get_or (set s.words 0 n) 1 0 ≡ get_or s.words 1 0 = get_or-set_other s.words 0 1 n 0 (omega arith) in record {
          base = r.base;
          holder = r.holder;
          two = length-set s.words 0 n ∙ r.two;
          begun = r.begun;
          start = r.start;
          sound = r.sound;
          free = λ z. r.free (sym same ∙ z);
          taken = λ held. r.taken (λ z. held (same ∙ z));
          each = λ by v e. subst (λ word. Knows first r.base word r.holder by v) (sym same) (r.each by v e);
          ordered = r.ordered;
          last = r.last;
          weights = r.weights;
          owned = r.owned;
          lengths = r.lengths;
          high = r.high;
        }

    pub looks : (slots id : ℕ) (me : Me (Option T) View) (n : ℕ) → Allows Rule slots id me 0 (λ _. n) (looked (step slots 0 n 0 none) me)
    looks slots id me n s r wide at small =
        (me.0, keeps, tt, subst (λ (vs : List View). Rule (record { words = set s.words 0 n; homes = s.homes; views = vs })) (sym (set_again s.views id me.0 at)) (unspoken s r n), refl)

    pub waits : (s : St) (r : Rule s) (id n : ℕ) (v : View) (cs : List (ℕ × Option T)) → get_elem? s.views id ≡ some v → word_of s ≢ 0 → n ≢ 0 → Rule (stepped s 1 n id cs v keeps)
    waits s r id n v cs at held more =
        subst (λ (vs : List View). Rule (record { words = set s.words 1 n; homes = s.homes; views = vs })) (sym (set_again s.views id v at)) (reworded s r n held more)

    pub took : (s : St) (r : Rule s) (id n : ℕ) (v : View) (x : T) (cs : List (ℕ × Option T)) → get_elem? s.views id ≡ some v → word_of s ≡ 0 → n ≢ 0
        → s.homes ≡ some (Some x) ∷ [] → 0 < v.weight → Rule (stepped s 1 n id cs (holding r.base v) (takes 0 (Some x)))
    took s r id n v x cs at free more home weight =
        let two : length s.words ≡ 2 = r.two in
        let now : get_or (set s.words 1 n) 1 0 ≡ n = get_or-set_same s.words 1 n 0 (omega arith) in
        let w : View = holding r.base v in
        let mine = r.each id v at in
        let saw = base_saw r.base r.start r.sound in
        let rests : (j : ℕ) (u : View) → get_elem? s.views j ≡ some u → u.holds ≡ false = λ j u e. not_held r.base (word_of s) r.holder j u (r.each j u e) (λ h. h.1 free) u.holds refl in record {
          base = r.base;
          holder = id;
          two = length-set s.words 1 n ∙ r.two;
          begun = r.begun;
          start = r.start;
          sound = r.sound;
          free = λ z. absurd (more (sym now ∙ z));
          taken = λ _. (ap (λ h. set h 0 none) home, (w, set_here s.views id w (within s.views id v at), refl));
          each = each_set (Knows first r.base (get_or (set s.words 1 n) 1 0) id) s.views id w
              (record { seen = saw; told = saw; ordered = inl (reflexive (front_at first r.base)); holds = λ _. (refl, (λ z. more (sym now ∙ z)), refl); spent = λ z. absurd (omega arith); top = mine.top })
              (λ j u apart e. still r.base r.base (word_of s) r.holder j (get_or (set s.words 1 n) 1 0) id u (reflexive (front_at first r.base)) (rests j u e) (r.each j u e));
          ordered = pairs_set (λ a b. AreOrdered (front_at first a.seen) (front_at first b.seen)) s.views id w (inl (reflexive (front_at first r.base)))
              (λ j u apart e. let k = r.each j u e in (inr k.seen.before, inl k.seen.before)) r.ordered;
          last = some_set (IsLast r.base) s.views id v w at (λ h. (h.0, inl refl)) r.last;
          weights = let t = total_set (λ u. u.weight) s.views id v w at in let all = r.weights in omega arith;
          owned = λ m. let t = total_set (λ u. times m u.own) s.views id v w at in let all = r.owned m in omega arith;
          lengths = let t = total_set (λ u. length u.own) s.views id v w at in let all = r.lengths in omega arith;
          high = ⊎_elim (λ (e : r.base.high ≡ first.high). inl e) (λ (h : HasTop r.base.high s.views). inr (some_set (λ u. u.top ≡ r.base.high) s.views id v w at (λ e. e) h)) r.high;
        }

    new_high : (base high id : ℕ) (v w : View) (views : List View) → get_elem? views id ≡ some v → base ≤ high → w.top ≡ risen base high v.top
        → (base ≡ first.high) ⊎ HasTop base views → Dec (high ≤ base) → (high ≡ first.high) ⊎ HasTop high (set views id w)
    new_high base high id v w views at le top was (no gt) =
        let up : base < high = omega (arith, ne_of gt) in
        inr (id, w, set_here views id w (within views id v at), top ∙ risen_up base high v.top up)
      where
        ne_of : ¬ (high ≤ base) → base < high
        ne_of n = omega arith
    new_high base high id v w views at le top was (yes ge) =
        let same : high ≡ base = omega arith in
        let kept : w.top ≡ v.top = top ∙ ap (λ h. risen base h v.top) same ∙ risen_not base v.top in
        ⊎_elim
        (λ (e : base ≡ first.high). inl (same ∙ e))
        (λ (h : HasTop base views). inr (some_set (λ u. u.top ≡ high) views id v w at (λ e. kept ∙ e) (h.0, h.1, h.2, h.3 ∙ sym same)))
        was

    pub gives_back : (s : St) (r : Rule s) (id : ℕ) (v : View) (x : T) (f : Front) (cs : List (ℕ × Option T)) → get_elem? s.views id ≡ some v → v.holds ≡ true
        → 0 < v.weight → front_at first v.seen ⊑ f → means x f → IsSound f → Rule (stepped s 1 0 id ((0, Some x) ∷ cs) (given f v) gives)
    gives_back s r id v x f cs at holds weight later stands sound =
        let two : length s.words ≡ 2 = r.two in
        let now : get_or (set s.words 1 0) 1 0 ≡ 0 = get_or-set_same s.words 1 0 0 (omega arith) in
        let w : View = given f v in
        let mine = r.each id v at in
        let held = mine.holds holds in
        let named : front_at first (seen_of f) ≡ f = named v.seen f later in
        let up : front_at first r.base ⊑ front_at first (seen_of f) = subst (λ g. front_at first r.base ⊑ g) (sym named) (subst (λ (b : Seen). front_at first b ⊑ f) held.2 later) in
        let start : first ⊑ front_at first (seen_of f) = transitive first (front_at first r.base) (front_at first (seen_of f)) r.start up in
        let sound' : IsSound (front_at first (seen_of f)) = subst IsSound (sym named) sound in
        let saw = base_saw (seen_of f) start sound' in
        let empty : s.homes ≡ none ∷ [] = (r.taken held.1).0 in
        let high : v.seen.high ≡ r.base.high = ap (λ (b : Seen). b.high) held.2 in
        let count : length v.seen.changes ≡ length r.base.changes = ap (λ (b : Seen). length b.changes) held.2 in
        let rests : (j : ℕ) (u : View) → j ≢ id → get_elem? s.views j ≡ some u → u.holds ≡ false = λ j u apart e. not_held r.base (word_of s) r.holder j u (r.each j u e) (λ h. apart (h.0 ∙ sym held.0)) u.holds refl in record {
          base = seen_of f;
          holder = id;
          two = length-set s.words 1 0 ∙ r.two;
          begun = r.begun;
          start = start;
          sound = sound';
          free = λ _. (x, ap (λ h. set h 0 (some (Some x))) empty, subst (means x) (sym named) stands);
          taken = λ n. absurd (n now);
          each = each_set (Knows first (seen_of f) (get_or (set s.words 1 0) 1 0) id) s.views id w
              (record {
                seen = saw;
                told = saw;
                ordered = inl (reflexive (front_at first (seen_of f)));
                holds = λ h. absurd (false≢true h);
                spent = λ z. absurd (omega arith);
                top = risen_low v.seen.high f.high v.top later.high (omega (arith, mine.top, high));
              })
              (λ j u apart e. still r.base (seen_of f) (word_of s) r.holder j (get_or (set s.words 1 0) 1 0) id u up (rests j u apart e) (r.each j u e));
          ordered = pairs_set (λ a b. AreOrdered (front_at first a.seen) (front_at first b.seen)) s.views id w (inl (reflexive (front_at first (seen_of f))))
              (λ j u apart e. let k = (r.each j u e).seen.before in let l = transitive (front_at first u.seen) (front_at first r.base) (front_at first (seen_of f)) k up in (inr l, inl l)) r.ordered;
          last = (id, w, set_here s.views id w (within s.views id v at), (weight, inl refl));
          weights = let t = total_set (λ u. u.weight) s.views id v w at in let all = r.weights in omega arith;
          owned = λ m.
              let t = total_set (λ u. times m u.own) s.views id v w at in
              let all = r.owned m in
              let grew = own_grows m v.own v.seen.changes f.changes later.later later.changes in
              let same = ap (λ n. below m n) count in
              omega arith;
          lengths =
              let t = total_set (λ u. length u.own) s.views id v w at in
              let all = r.lengths in
              let grew = length_grows v.own v.seen.changes f.changes later.later later.changes in
              omega arith;
          high = new_high r.base.high f.high id v w s.views at (omega (arith, later.high, high)) (ap (λ h. risen h f.high v.top) high) r.high (dec_le f.high r.base.high);
        }

    -- who holds the turn is another than this
    held_else : (views : List View) (holder id : ℕ) (v w : View) → get_elem? views id ≡ some v → v.holds ≡ false → HeldBy holder views → HeldBy holder (set views id w)
    held_else views holder id v w at rests held =
        let apart : holder ≢ id = λ same. false≢true (sym rests ∙ ap (λ (u : View). u.holds) (some-injective v held.0 (sym at ∙ ap (λ k. get_elem? views k) (sym same) ∙ held.1)) ∙ held.2) in
        (held.0, set_else views id holder w apart ∙ held.1, held.2)

    -- a view is cut in two, or two are made one
    pub splits : (id : ℕ) (v : View) → 2 ≤ v.weight → v.holds ≡ false → Splits Rule id v (left_over v) (cut_off v)
    splits id v weight rests s r at =
        let w : View = left_over v in
        let c : View = cut_off v in
        let vs : List View = set s.views id w in
        let mine = r.each id v at in
        let P = Knows first r.base (word_of s) r.holder in
        let kept : (h : View → ℕ) → h w + h c ≡ h v → total h (vs ++ c ∷ []) ≡ total h s.views = λ h same. let a = total_snoc h vs c in let b = total_set h s.views id v w at in omega arith in record {
          base = r.base;
          holder = r.holder;
          two = r.two;
          begun = r.begun;
          start = r.start;
          sound = r.sound;
          free = r.free;
          taken = λ n. let t = r.taken n in let h = held_else s.views r.holder id v w at rests t.1 in (t.0, (h.0, at_longer vs (c ∷ []) r.holder h.0 h.1, h.2));
          each = each_snoc P vs c
              (λ j. record { seen = mine.seen; told = mine.seen; ordered = inl (reflexive (front_at first v.seen)); holds = λ h. absurd (false≢true h); spent = λ z. absurd (omega arith); top = omega arith })
              (each_set P s.views id w
              (record { seen = mine.seen; told = mine.told; ordered = mine.ordered; holds = mine.holds; spent = λ z. absurd (omega arith); top = mine.top })
              (λ j u apart e. r.each j u e));
          ordered = pairs_snoc R vs c (inl (reflexive (front_at first v.seen)))
              (each_set (λ _ u. R c u × R u c) s.views id w (inl (reflexive (front_at first v.seen)), inl (reflexive (front_at first v.seen))) (λ j u apart e. (r.ordered id j v u at e, r.ordered j id u v e at)))
              (pairs_set R s.views id w (inl (reflexive (front_at first v.seen))) (λ j u apart e. (r.ordered id j v u at e, r.ordered j id u v e at)) r.ordered);
          last = some_snoc (IsLast r.base) vs c (some_set (IsLast r.base) s.views id v w at (λ h. (omega arith, h.1)) r.last);
          weights = kept (λ u. u.weight) (omega arith) ∙ r.weights;
          owned = λ m. ap (λ n. n + below m (length first.changes)) (kept (λ u. times m u.own) (omega arith)) ∙ r.owned m;
          lengths = ap (λ n. n + length first.changes) (kept (λ u. length u.own) (omega arith)) ∙ r.lengths;
          high = ⊎_elim (λ (e : r.base.high ≡ first.high). inl e)
              (λ (h : HasTop r.base.high s.views). inr (some_snoc (λ u. u.top ≡ r.base.high) vs c (some_set (λ u. u.top ≡ r.base.high) s.views id v w at (λ e. e) h))) r.high;
        }
      where
        R : View → View → Type 0
        R a b = AreOrdered (front_at first a.seen) (front_at first b.seen)

    pub joins : (id : ℕ) (v : View) (other : ℕ) (w : View) → 0 < v.weight → v.told ≡ v.seen → w.told ≡ w.seen → v.holds ≡ false → w.holds ≡ false
        → Joins Rule id v other w (met v w) (spent first)
    joins id v other w weight told told' rests rests' s r at apart there =
        let m : View = met v w in
        let e : View = spent first in
        let vs : List View = set s.views id m in
        let there' : get_elem? s.views other ≡ some w = sym (set_else s.views id other m apart) ∙ there in
        let mine = r.each id v at in
        let theirs = r.each other w there' in
        let P = Knows first r.base (word_of s) r.holder in
        let saw : Saw first (front_at first r.base) first = record { start = reflexive first; before = r.start; sound = r.begun } in
        let counted : (h : View → ℕ) → h m + h e ≡ h v + h w → total h (set vs other e) ≡ total h s.views = λ h same. let a = total_set h vs other w e there in let b = total_set h s.views id v m at in omega arith in
        let each_met : (j : ℕ) (u : View) → get_elem? vs j ≡ some u → P j u = each_set P s.views id m
        (record { seen = mine.seen; told = theirs.seen; ordered = r.ordered id other v w at there'; holds = mine.holds; spent = λ z. absurd (omega arith); top = max_of v.top w.top r.base.high mine.top theirs.top })
        (λ j u _ d. r.each j u d) in record {
          base = r.base;
          holder = r.holder;
          two = r.two;
          begun = r.begun;
          start = r.start;
          sound = r.sound;
          free = r.free;
          taken = λ n. let t = r.taken n in (t.0, held_else vs r.holder other w e there rests' (held_else s.views r.holder id v m at rests t.1));
          each = each_set P vs other e
              (record { seen = saw; told = saw; ordered = inl (reflexive first); holds = λ h. absurd (false≢true h); spent = λ _. (refl, refl, refl); top = omega arith })
              (λ j u _ d. each_met j u d);
          ordered = pairs_set R vs other e (inl (reflexive first))
              (λ j u _ d. let k = each_met j u d in (inl k.seen.start, inr k.seen.start))
              (pairs_set R s.views id m (inl (reflexive (front_at first v.seen))) (λ j u _ d. (r.ordered id j v u at d, r.ordered j id u v d at)) r.ordered);
          last = last_met s.views id other v w m e r.base at apart there there' weight told told' refl refl (omega arith) r.last;
          weights = counted (λ u. u.weight) (omega arith) ∙ r.weights;
          owned = λ n. ap (λ k. k + below n (length first.changes)) (counted (λ u. times n u.own) (let t = times-append n v.own w.own in omega arith)) ∙ r.owned n;
          lengths = ap (λ k. k + length first.changes) (counted (λ u. length u.own) (let t = length-append v.own w.own in omega arith)) ∙ r.lengths;
          high = ⊎_elim (λ (h : r.base.high ≡ first.high). inl h)
              (λ (h : HasTop r.base.high s.views). inr (top_met s.views id other v w m e r.base.high at apart there there' refl mine.top theirs.top h)) r.high;
        }
      where
        R : View → View → Type 0
        R a b = AreOrdered (front_at first a.seen) (front_at first b.seen)

        here : (views : List View) (id other : ℕ) (v m e : View) → get_elem? views id ≡ some v → other ≢ id → get_elem? (set (set views id m) other e) id ≡ some m
        here views id other v m e at apart = set_else (set views id m) other id e (λ q. apart (sym q)) ∙ set_here views id m (within views id v at)

        same_view : (views : List View) (i j : ℕ) (v u : View) → get_elem? views i ≡ some v → get_elem? views j ≡ some u → j ≡ i → u ≡ v
        same_view views i j v u at there same = some-injective u v (sym there ∙ ap (λ k. get_elem? views k) same ∙ at)

        last_met : (views : List View) (id other : ℕ) (v w m e : View) (base : Seen) → get_elem? views id ≡ some v → other ≢ id → get_elem? (set views id m) other ≡ some w
            → get_elem? views other ≡ some w → 0 < v.weight → v.told ≡ v.seen → w.told ≡ w.seen → m.seen ≡ v.seen → m.told ≡ w.seen → v.weight ≤ m.weight → HasLast base views → HasLast base (set (set views id m) other e)
        last_met views id other v w m e base at apart there there' weight told told' seen_is told_is more last =
            let j = last.0 in
            let u = last.1 in
            dite (ℕ_discrete j id)
            (λ same. let is : u ≡ v = same_view views id j v u at last.2 same in
            let l : IsLast base v = subst (IsLast base) is last.3 in
            (id, m, here views id other v m e at apart, (omega arith, inl (⊎_elim (λ (q : v.seen ≡ base). seen_is ∙ q) (λ (q : v.told ≡ base). seen_is ∙ sym told ∙ q) l.1))))
            (λ not_first. dite (ℕ_discrete j other)
            (λ same. let is : u ≡ w = same_view views other j w u there' last.2 same in
            let l : IsLast base w = subst (IsLast base) is last.3 in
            (id, m, here views id other v m e at apart, (omega arith, inr (⊎_elim (λ (q : w.seen ≡ base). told_is ∙ q) (λ (q : w.told ≡ base). told_is ∙ sym told' ∙ q) l.1))))
            (λ not_second. (j, u, set_else (set views id m) other j e not_second ∙ set_else views id j m not_first ∙ last.2, last.3)))

        top_met : (views : List View) (id other : ℕ) (v w m e : View) (high : ℕ) → get_elem? views id ≡ some v → other ≢ id → get_elem? (set views id m) other ≡ some w
            → get_elem? views other ≡ some w → m.top ≡ max v.top w.top → v.top ≤ high → w.top ≤ high → HasTop high views → HasTop high (set (set views id m) other e)
        top_met views id other v w m e high at apart there there' top_is low low' top =
            let j = top.0 in
            let u = top.1 in
            dite (ℕ_discrete j id)
            (λ same. let is : u.top ≡ v.top = ap (λ (a : View). a.top) (same_view views id j v u at top.2 same) in (id, m, here views id other v m e at apart, (let t = top.3 in omega arith)))
            (λ not_first. dite (ℕ_discrete j other)
            (λ same. let is : u.top ≡ w.top = ap (λ (a : View). a.top) (same_view views other j w u there' top.2 same) in (id, m, here views id other v m e at apart, (let t = top.3 in omega arith)))
            (λ not_second. (j, u, set_else (set views id m) other j e not_second ∙ set_else views id j m not_first ∙ top.2, top.3)))

    -- a step that takes the turn where its word is 0, and leaves a word that isn't
    pub tries : (slots id : ℕ) (me : Me (Option T) View) (f : ℕ → ℕ) → ((n : ℕ) → f n ≢ 0) → 0 < me.0.weight
        → Allows Rule slots id me 1 f (tried first means (step slots 1 0 0 none) me)
    tries slots id me f more weight s r wide at small =
        let n : ℕ = word_of s in dite (ℕ_discrete n 0)
        (λ free.
        let home = r.free free in
        let x : T = home.0 in
        let w : View = holding r.base me.0 in (
          w,
          takes 0 (Some x),
          subst (λ h. get_elem? h 0 ≡ some (some (Some x))) (sym home.1) refl,
          took s r id (f n) me.0 x me.1 at free (more n) home.1 weight,
          ((λ _. (x, refl, record { view = refl; stands = home.2; line = (s, r, id, at, refl) })), λ held. absurd (held free)),
        ))
        (λ held. (me.0, keeps, tt, waits s r id (f n) me.0 me.1 at held (more n), ((λ free. absurd (held free)), λ _. refl)))

    abbrev carried : T → List (ℕ × Option T)
    carried x = (0, Some x) ∷ []

    value_or : T → Option T → T
    value_or d None = d
    value_or d (Some x) = x

    first_value : T → List (ℕ × Option T) → T
    first_value d [] = d
    first_value d (c ∷ cs) = value_or d c.1

    carried_value : (y x : T) → carried y ≡ carried x → y ≡ x
    unfolding value_or first_value
    carried_value y x e = ap (first_value y) e

    -- the step that gives it back
    pub gives_turn : (slots id : ℕ) (me : Me (Option T) View) (x : T) (f : Front) → me.1 ≡ (0, Some x) ∷ [] → me.0.holds ≡ true → 0 < me.0.weight
        → front_at first me.0.seen ⊑ f → means x f → IsSound f → ((g : Front) → front_at first me.0.seen ⊑ g → means x g → g ≡ f)
        → Allows Rule slots id me 1 (λ _. 0) (gave first means (step slots 1 0 0 none) me)
    gives_turn slots id me x f carries holds weight later stands sound alone s r wide at small =
        let back : Rule (stepped s 1 0 id me.1 (given f me.0) gives) = subst (λ (cs : List (ℕ × Option T)). Rule (stepped s 1 0 id cs (given f me.0) gives)) (sym carries)
        (gives_back s r id me.0 x f [] at holds weight later stands sound) in (
          given f me.0,
          gives,
          tt,
          back,
          λ y carries' g later' stands'.
              let same_value : y ≡ x = carried_value y x (sym carries' ∙ carries) in
              let same : f ≡ g = sym (alone g later' (subst (λ (z : T). means z g) same_value stands')) in
              (ap (λ h. given h me.0) same, ap (λ (cs : List (ℕ × Option T)). rest cs) carries),
        )
