-- What the rule says of all passes together, in the words of callers.
use Rattle.std.proofs.Common.{◌≡◌, ◌≢◌, inl, inr, ⊎_elim, ℕ, ◌+◌, ◌-◌, ◌≤◌, List, [], ◌∷◌, ◌++◌, length, map, max, get_or, Option, Some, true, false, refl, sym, ap, subst, ◌∙◌, arith, append-nil}
use mathlib.Core.Logic.{dite}
use mathlib.Core.Option.{some, some-injective}
use native.Mathlib.Decide.{ℕ_discrete}
use lib.ListN.{get_elem?}
use Rattle.atomic_table.specs.Seated.{TableId}
use Rattle.atomic_table.specs.Table.{Final, Seen, State}
use Rattle.ks_machine.specs.declared.change.Entry.{Entry}
use Rattle.ks_machine.specs.Fronts.{Front, ◌⊑◌}
use Rattle.ks_turn.specs.declared.view.Seen.{Seen as Sight}
use Rattle.ks_turn.specs.declared.view.View.{View}
use Rattle.ks_turn.specs.Passes.{Ends, IsPass, IsRest, Met, Passed, Took, Turning, passed, view_of}
use Rattle.ks_turn.specs.Rule.{AreOrdered, HasTop, HeldBy, IsLast, Knows, Told, Turned}
use Rattle.ks_turn.specs.Sums.{below, numbers, times}
use Rattle.ks_turn.specs.Views.{front_at, given, met, risen, since}
use Rattle.ks_turn.proofs.StepLemmas.{risen_not}
use Rattle.ks_turn.proofs.SumLemmas.{only_one, others_none, total_map}
use Rattle.ks_turn.proofs.ViewLemmas.{got_map, map_got}

module _ (first : Front) where
  -- the view of a pass, once it is in a seat
  pub seated : (views : List View) (v : View) (count last : ℕ) → views ≡ v ∷ [] → IsPass first count last views → IsRest first v
  seated views v count last is p = let q = subst (IsPass first count last) is p in record { told = q.told; rests = q.rests; weight = q.weight; sound = q.sound }

  pub pass_is : (views : List View) (v : View) (turn turn' : TableId) (p : Passed) → passed first turn (view_of first views) ≡ p → views ≡ v ∷ [] → turn' ≡ turn → passed first turn' v ≡ p
  pass_is views v turn turn' p is one same = (λ i. passed first (same i) (view_of first (sym one i))) ∙ is

  module _ {T : Type 0} (means : T → Front → Type 0) (s : State (Option T) View) (r : Turned first means s) where
    abbrev base : Front
    base = front_at first r.base

    word : ℕ
    word = get_or s.words 1 0

    knows : (by : ℕ) (v : View) → get_elem? s.views by ≡ some v → Knows first r.base (get_or s.words 1 0) r.holder by v
    knows = r.each

    pub turning : (turn : TableId) → Turning first base (map (passed first turn) s.views)
    turning turn = let f = passed first turn in let passes = map f s.views in record {
      start = r.start;
      sound = r.sound;
      seen = λ by p got. let v = got_map f s.views by p got in let k = (r.each by v.0 v.1).seen in
          subst (λ (q : Passed). (first ⊑ q.seen) × (q.seen ⊑ base)) v.2 (k.start, k.before);
      ordered = λ i j p q gotten got. let v = got_map f s.views i p gotten in let w = got_map f s.views j q got in
          subst (λ (x : Passed × Passed). AreOrdered x.0.seen x.1.seen) (λ k. (v.2 k, w.2 k)) (r.ordered i j v.0 w.0 v.1 w.1);
      weights = total_map (λ p. p.weight) f s.views ∙ r.weights;
      spent = λ by p got. let v = got_map f s.views by p got in
          subst (λ (q : Passed). q.weight ≡ 0 → (q.own ≡ []) × (q.top ≡ 0)) v.2 (λ none. let e = (r.each by v.0 v.1).spent none in (e.1, e.2));
      own = λ n. ap (λ k. k + below n (length first.changes)) (total_map (λ p. times n p.own) f s.views) ∙ r.owned n;
      count = ap (λ k. k + length first.changes) (total_map (λ p. length p.own) f s.views) ∙ r.lengths;
      tops = λ by p got. let v = got_map f s.views by p got in subst (λ (q : Passed). q.top ≤ base.high) v.2 (r.each by v.0 v.1).top;
      high = ⊎_elim (λ (e : r.base.high ≡ first.high). inl e)
          (λ (h : HasTop r.base.high s.views). inr (h.0, f h.1, map_got f s.views h.0 h.1 h.2, sym h.3)) r.high;
    }

    module _ (id : ℕ) (v : View) (at : get_elem? s.views id ≡ some v) (all : v.weight ≡ 1000000) where
      here : (j : ℕ) (u : View) → get_elem? s.views j ≡ some u → j ≡ id → u ≡ v
      here j u e same = some-injective u v (sym e ∙ ap (λ k. get_elem? s.views k) same ∙ at)

      -- each pass beside one with all the weight is spent
      others_spent : (j : ℕ) (u : View) → j ≢ id → get_elem? s.views j ≡ some u → u.weight ≡ 0
      others_spent j u apart e = others_none (λ w. w.weight) s.views id j v u at e apart (all ∙ sym r.weights)

      -- and it has seen what was last seen
      pub alone : v.told ≡ v.seen → v.seen ≡ r.base
      alone told =
          let u = r.last.1 in
          let is : u ≡ v = dite (ℕ_discrete r.last.0 id) (here r.last.0 u r.last.2) (λ apart. let none = others_spent r.last.0 u apart r.last.2 in let some_weight = r.last.3.0 in absurd (omega arith)) in
          let l : IsLast r.base v = subst (IsLast r.base) is r.last.3 in
          ⊎_elim (λ (e : v.seen ≡ r.base). e) (λ (e : v.told ≡ r.base). sym told ∙ e) l.1

      -- nobody holds the turn
      pub nobody_holds : v.holds ≡ false → get_or s.words 1 0 ≡ 0
      nobody_holds rests = dite (ℕ_discrete (get_or s.words 1 0) 0) (λ free. free) (λ held.
          let by : HeldBy r.holder s.views = (r.taken held).1 in
          let holds : by.0.holds ≡ false = dite (ℕ_discrete r.holder id)
          (λ same. ap (λ (u : View). u.holds) (here r.holder by.0 by.1 same) ∙ rests)
          (λ apart. ((r.each r.holder by.0 by.1).spent (others_spent r.holder by.0 apart by.1)).0) in
          absurd (let no : false ≡ true = sym holds ∙ by.2 in cc))

      ends_at : (turn : TableId) → v.seen ≡ r.base → Ends first (passed first turn v)
      ends_at turn is = record {
        start = (r.each id v at).seen.start;
        own = λ n.
            let one = only_one (λ (u : View). times n u.own) s.views id v at (λ j u apart e. ap (times n) ((r.each j u e).spent (others_spent j u apart e)).1) in
            ap (λ k. k + below n (length first.changes)) (sym one) ∙ r.owned n ∙ ap (λ (b : Sight). below n (length b.changes)) (sym is);
        count =
            let one = only_one (λ (u : View). length u.own) s.views id v at (λ j u apart e. ap (λ (l : List ℕ). length l) ((r.each j u e).spent (others_spent j u apart e)).1) in
            ap (λ k. k + length first.changes) (sym one) ∙ r.lengths ∙ ap (λ (b : Sight). length b.changes) (sym is);
        high =
            let high : v.seen.high ≡ r.base.high = ap (λ (b : Sight). b.high) is in
            ⊎_elim (λ (e : r.base.high ≡ first.high). inl (high ∙ e)) (λ (h : HasTop r.base.high s.views). dite (ℕ_discrete h.0 id)
            (λ same. inr (high ∙ sym h.3 ∙ ap (λ (u : View). u.top) (here h.0 h.1 h.2 same)))
            (λ apart. let none = ((r.each h.0 h.1 h.2).spent (others_spent h.0 h.1 apart h.2)).2 in let low = r.start.high in let top = h.3 in
            let zero : r.base.high ≡ 0 = sym top ∙ none in
            inl (high ∙ (let e : r.base.high ≡ first.high = omega arith in e)))) r.high;
      }

      pub closes_at : (turn : TableId) → v.told ≡ v.seen → v.holds ≡ false
          → (x : T) × (s.homes ≡ some (Some x) ∷ []) × means x (front_at first v.seen) × Ends first (passed first turn v)
      closes_at turn told rests =
          let free = r.free (nobody_holds rests) in
          let is = alone told in
          (free.0, free.1, subst (λ (b : Sight). means free.0 (front_at first b)) (sym is) free.2, ends_at turn is)

  module _ {T : Type 0} (means : T → Front → Type 0) where
    -- a pass took the turn
    pub holds_turn : (p : Passed) (turn turn' : TableId) (v w : View) (x : T) → passed first turn v ≡ p → turn' ≡ turn → IsRest first v → Told first means v w x
        → Took first means p (passed first turn' w) x
    holds_turn p turn turn' v w x is same rest t =
        let s = t.line.0 in
        let r = t.line.1 in
        let id = t.line.2 in
        let at = t.line.3 in
        let base : r.base ≡ w.seen = t.line.4 in
        subst (λ (q : Passed). Took first means q (passed first turn' w) x) is (record {
          turn = (
            map (passed first turn) s.views,
            id,
            map_got (passed first turn) s.views id v at,
            subst (λ (b : Sight). Turning first (front_at first b) (map (passed first turn) s.views)) base (turning means s r turn),
          );
          pass = λ i. passed first (same i) (t.view i);
          later = subst (λ (b : Sight). front_at first v.seen ⊑ front_at first b) base (r.each id v at).seen.before;
          stands = t.stands;
          alone = λ all. ap (front_at first) (sym (alone means s r id v at all rest.told ∙ base));
        })

    since_none : (xs : List Entry) → since xs xs ≡ []
    since_none xs = ap (numbers (length xs)) (let e : length xs - length xs ≡ 0 = omega arith in e)

    -- two passes met, and the one that is left saw all that happened
    pub meets : (p q : Passed) (turn turn' turn'' : TableId) (v w m u : View) (x : T) (both : Passed) → passed first turn v ≡ p → passed first turn' w ≡ q → turn'' ≡ turn
        → m ≡ met v w → Told first means m u x → both ≡ passed first turn'' (given (front_at first u.seen) u) → Met first p q both
    meets p q turn turn' turn'' v w m u x both is is' same joined told result =
        let t : Told first means (met v w) u x = subst (λ (y : View). Told first means y u x) joined told in
        let s = t.line.0 in
        let r = t.line.1 in
        let k = r.each t.line.2 (met v w) t.line.3 in
        let up : front_at first r.base ≡ front_at first u.seen = ap (front_at first) t.line.4 in
        let own : u.own ++ since u.seen.changes u.seen.changes ≡ v.own ++ w.own =
        ap (λ l. u.own ++ l) (since_none u.seen.changes) ∙ append-nil u.own ∙ ap (λ (y : View). y.own) t.view in
        let top : risen u.seen.high u.seen.high u.top ≡ max v.top w.top = risen_not u.seen.high u.top ∙ ap (λ (y : View). y.top) t.view in
        let weight : u.weight ≡ v.weight + w.weight = ap (λ (y : View). y.weight) t.view in
        let whole : both ≡ record { turn = turn; seen = front_at first u.seen; own = v.own ++ w.own; top = max v.top w.top; weight = v.weight + w.weight } =
        result ∙ (λ i. record { turn = same i; seen = front_at first u.seen; own = own i; top = top i; weight = weight i }) in
        subst (λ (y : Passed × Passed × Passed). Met first y.0 y.1 y.2) (λ i. (is i, is' i, sym whole i)) (record {
          turn = (
            map (passed first turn) s.views,
            t.line.2,
            map_got (passed first turn) s.views t.line.2 (met v w) t.line.3,
            subst (λ (g : Front). Turning first g (map (passed first turn) s.views)) up (turning means s r turn),
          );
          pass = refl;
          later = subst (λ (g : Front). front_at first v.seen ⊑ g) up k.seen.before;
          later_too = subst (λ (g : Front). front_at first w.seen ⊑ g) up k.told.before;
          ordered = k.ordered;
        })

    -- the end of a turn: the value is where it was left
    pub closes : (id : ℕ) (v : View) (words : List ℕ) (values : List (Option T)) (turn : TableId) → Final (Seen (Turned first means) id v) words values → v.weight ≡ 1000000 → IsRest first v
        → (x : T) × (get_elem? values 0 ≡ some (Some x)) × means x (front_at first v.seen) × Ends first (passed first turn v)
    closes id v words values turn final all rest =
        let s = final.0 in
        let r = final.1.0 in
        let c = closes_at means s r id v final.1.1 all turn rest.told rest.rests in
        (c.0, final.4 0 (Some c.0) (subst (λ (h : List _). get_elem? h 0 ≡ some (some (Some c.0))) (sym c.1) refl), c.2, c.3)

    pub closed : (id : ℕ) (v : View) (words : List ℕ) (values : List (Option T)) (turn : TableId) (p : Passed) → passed first turn v ≡ p → p.weight ≡ 1000000 → IsRest first v
        → Final (Seen (Turned first means) id v) words values → (left : Option T) → get_elem? values 0 ≡ some left
        → (x : T) × (left ≡ Some x) × means x p.seen × Ends first p
    closed id v words values turn p is all rest final left there =
        let c = closes id v words values turn final (ap (λ (q : Passed). q.weight) is ∙ all) rest in
        let left_is : left ≡ Some c.0 = some-injective left (Some c.0) (sym there ∙ c.1) in
        subst (λ (q : Passed). (x : T) × (left ≡ Some x) × means x q.seen × Ends first q) is (c.0, left_is, c.2, c.3)

    pub closed_on : (value : T) (p : Passed) (left : Option T) → left ≡ Some value → (x : T) × (left ≡ Some x) × means x p.seen × Ends first p → means value p.seen
    closed_on value p left is c = subst (λ (y : T). means y p.seen) (let e : Some c.0 ≡ Some value = sym c.1 ∙ is in cc) c.2
