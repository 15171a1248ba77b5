-- Parts joined by an operator, as they are read from the front.
use Rattle.std.proofs.Common.{◌≡◌, refl, sym, ap, ◌∙◌, List, [], ◌∷◌, ◌++◌, append_assoc, append-nil}
use Rattle.std.specs.Prelude.{fold, flat_map}
use Rattle.std.specs.List.{AllByRecursion}
use Rattle.std.proofs.lemmas.List.Sums.{fold_push}
use Rattle.ks_rule.specs.Trees.{Tree}
use Rattle.ks_rule.specs.Tokens.{Token}
use Rattle.ks_rule.specs.Grammar.{Form, Part, Joined}
use Rattle.ks_rule.specs.Reading.{Follow, Ended, Takes, Lacks}

-- what is taken is the same, however it is taken
pub record OneReading (form : Form) (follow : Follow) : Type 0 where
  pub same : (front front' after after' : List Token) (tree tree' : Tree) → front ++ after ≡ front' ++ after'
      → follow after → follow after' → form front tree → form front' tree'
      → (front ≡ front') × (tree ≡ tree') × (after ≡ after')

module _ (operator : Token) (group : Tree → Tree → Tree) (form : Form) (follow : Follow) where
  abbrev chain : List Part → List Token
  chain parts = flat_map (λ part. operator ∷ part.spelled) parts

  abbrev grown : Tree → List Part → Tree
  grown tree parts = fold (λ left part. group left part.tree) tree parts

  abbrev Each : List Part → Type 0
  Each parts = AllByRecursion (λ part. form part.spelled part.tree) parts

  module _ (behind : (rest : List Token) → follow (operator ∷ rest)) where
    -- what follows a part may follow it
    follows : (parts : List Part) (rest : List Token) → follow rest → follow (chain parts ++ rest)
    follows [] rest f = f
    follows (part ∷ parts) rest f = behind ((part.spelled ++ chain parts) ++ rest)

    module _ (one : OneReading form follow) where
      same_chain : (ps qs : List Part) (rest rest' : List Token) → chain ps ++ rest ≡ chain qs ++ rest'
          → Ended operator follow rest → Ended operator follow rest' → Each ps → Each qs
          → (chain ps ≡ chain qs) × ((tree : Tree) → grown tree ps ≡ grown tree qs) × (rest ≡ rest')
      same_chain [] [] rest rest' e f f' all all' = (refl, λ tree. refl, e)
      same_chain [] (q ∷ qs) rest rest' e f f' all all' = absurd (f.1 _ e)
      same_chain (p ∷ ps) [] rest rest' e f f' all all' = absurd (f'.1 _ (sym e))
      same_chain (p ∷ ps) (q ∷ qs) rest rest' e f f' all all' =
          let e' : (p.spelled ++ chain ps) ++ rest ≡ (q.spelled ++ chain qs) ++ rest' = cc in
          let e'' : p.spelled ++ (chain ps ++ rest) ≡ q.spelled ++ (chain qs ++ rest') = sym (append_assoc p.spelled (chain ps) rest) ∙ (e' ∙ append_assoc q.spelled (chain qs) rest') in
          let first = one.same p.spelled q.spelled (chain ps ++ rest) (chain qs ++ rest') p.tree q.tree e'' (follows ps rest f.0) (follows qs rest' f'.0) all.0 all'.0 in
          let others = same_chain ps qs rest rest' first.2 f f' all.1 all'.1 in
          (cc (first.0, others.0), λ tree. ap (λ t. grown (group tree t) ps) first.1 ∙ others.1 (group tree q.tree), others.2)

      -- so it is of parts in a row
      pub one_joined : OneReading (Joined operator group form) (Ended operator follow)
      one_joined = record { same = λ front front' after after' tree tree' e f f' a b. joined front front' after after' tree tree' e f f' a b }
        where
          joined : (front front' after after' : List Token) (tree tree' : Tree) → front ++ after ≡ front' ++ after'
              → Ended operator follow after → Ended operator follow after'
              → Joined operator group form front tree → Joined operator group form front' tree'
              → (front ≡ front') × (tree ≡ tree') × (after ≡ after')
          joined front front' after after' tree tree' e f f' (p, ps, all, spelled, grows) (q, qs, all', spelled', grows') =
              let e' : p.spelled ++ (chain ps ++ after) ≡ q.spelled ++ (chain qs ++ after') =
              sym (append_assoc p.spelled (chain ps) after) ∙ (ap (λ l. l ++ after) (sym spelled) ∙ (e ∙ (ap (λ l. l ++ after') spelled' ∙ append_assoc q.spelled (chain qs) after'))) in
              let first = one.same p.spelled q.spelled (chain ps ++ after) (chain qs ++ after') p.tree q.tree e' (follows ps after f.0) (follows qs after' f'.0) all.0 all'.0 in
              let others = same_chain ps qs after after' first.2 f f' all.1 all'.1 in
              (cc (first.0, others.0), grows ∙ ((ap (λ t. grown t ps) first.1 ∙ others.1 q.tree) ∙ sym grows'), others.2)

  -- a part is parts in a row
  pub joined_one : (front : List Token) (tree : Tree) → form front tree → Joined operator group form front tree
  joined_one front tree has = (record { spelled = front; tree = tree }, [], (has, tt), sym (append-nil front), refl)

  pub begun : (before after : List Token) (tree : Tree) → Takes form follow before tree after → Takes (Joined operator group form) follow before tree after
  begun before after tree (front, is, f, has) = (front, is, f, joined_one front tree has)

  chain_more : (parts : List Part) (part : Part) → chain (parts ++ part ∷ []) ≡ chain parts ++ operator ∷ part.spelled
  chain_more [] part = append-nil (operator ∷ part.spelled)
  chain_more (p ∷ parts) part = ap (λ l. (operator ∷ p.spelled) ++ l) (chain_more parts part) ∙ sym (append_assoc (operator ∷ p.spelled) (chain parts) (operator ∷ part.spelled))

  each_more : (parts : List Part) (part : Part) → Each parts → form part.spelled part.tree → Each (parts ++ part ∷ [])
  each_more [] part all has = (has, tt)
  each_more (p ∷ parts) part all has = (all.0, each_more parts part all.1 has)

  -- one part more
  pub joined_more : (front front' : List Token) (left right : Tree) → Joined operator group form front left → form front' right
      → Joined operator group form (front ++ operator ∷ front') (group left right)
  joined_more front front' left right (first, others, all, spelled, grows) has =
      let part : Part = record { spelled = front'; tree = right } in (
        first,
        others ++ part ∷ [],
        (all.0, each_more others part all.1 has),
        ap (λ l. l ++ operator ∷ front') spelled ∙ (append_assoc first.spelled (chain others) (operator ∷ front') ∙ ap (λ l. first.spelled ++ l) (sym (chain_more others part))),
        ap (λ t. group t right) grows ∙ sym (fold_push (λ left part. group left part.tree) first.tree others part),
      )

  pub more : (before mid after : List Token) (left right : Tree) → Takes (Joined operator group form) follow before left (operator ∷ mid)
      → Takes form follow mid right after → Takes (Joined operator group form) follow before (group left right) after
  more before mid after left right (front, is, f, joined) (front', is', f', has) = (
    front ++ operator ∷ front',
    is ∙ (ap (λ l. front ++ operator ∷ l) is' ∙ sym (append_assoc front (operator ∷ front') after)),
    f',
    joined_more front front' left right joined has,
  )

  pub ended : (before after : List Token) (tree : Tree) → Takes (Joined operator group form) follow before tree after
      → ((rest : List Token) → after ≡ operator ∷ rest → ⊥) → Takes (Joined operator group form) (Ended operator follow) before tree after
  ended before after tree (front, is, f, has) none = (front, is, (f, none), has)

  module _ (behind : (rest : List Token) → follow (operator ∷ rest)) where
    -- without a first part there are none
    pub lacks_first : (before : List Token) → Lacks form follow before → Lacks (Joined operator group form) (Ended operator follow) before
    lacks_first before none front after tree is f (p, ps, all, spelled, grows) =
        none p.spelled (chain ps ++ after) p.tree (is ∙ (ap (λ l. l ++ after) spelled ∙ append_assoc p.spelled (chain ps) after)) (follows behind ps after f.0) all.0

    module _ (one : OneReading form follow) where
      lacks_chain : (ps qs : List Part) (mid after : List Token) → chain ps ++ operator ∷ mid ≡ chain qs ++ after → Ended operator follow after → Lacks form follow mid
          → Each ps → Each qs → ⊥
      lacks_chain [] [] mid after e f none all all' = f.1 mid (sym e)
      lacks_chain [] (q ∷ qs) mid after e f none all all' =
          let e' : mid ≡ (q.spelled ++ chain qs) ++ after = cc in
          none q.spelled (chain qs ++ after) q.tree (e' ∙ append_assoc q.spelled (chain qs) after) (follows behind qs after f.0) all'.0
      lacks_chain (p ∷ ps) [] mid after e f none all all' = f.1 _ (sym e)
      lacks_chain (p ∷ ps) (q ∷ qs) mid after e f none all all' =
          let e' : (p.spelled ++ chain ps) ++ operator ∷ mid ≡ (q.spelled ++ chain qs) ++ after = cc in
          let e'' : p.spelled ++ (chain ps ++ operator ∷ mid) ≡ q.spelled ++ (chain qs ++ after) = sym (append_assoc p.spelled (chain ps) (operator ∷ mid)) ∙ (e' ∙ append_assoc q.spelled (chain qs) after) in
          let first = one.same p.spelled q.spelled (chain ps ++ operator ∷ mid) (chain qs ++ after) p.tree q.tree e'' (follows behind ps (operator ∷ mid) (behind mid)) (follows behind qs after f.0) all.0 all'.0 in
          lacks_chain ps qs mid after first.2 f none all.1 all'.1

      -- behind an operator a part must follow
      pub lacks_next : (before mid : List Token) (left : Tree) → Takes (Joined operator group form) follow before left (operator ∷ mid) → Lacks form follow mid
          → Lacks (Joined operator group form) (Ended operator follow) before
      lacks_next before mid left (front, is, f, (p, ps, all, spelled, grows)) none front' after tree is' f' (q, qs, all', spelled', grows') =
          let e : p.spelled ++ (chain ps ++ operator ∷ mid) ≡ q.spelled ++ (chain qs ++ after) =
          sym (append_assoc p.spelled (chain ps) (operator ∷ mid)) ∙ (ap (λ l. l ++ operator ∷ mid) (sym spelled) ∙ (sym is ∙ (is' ∙ (ap (λ l. l ++ after) spelled' ∙ append_assoc q.spelled (chain qs) after)))) in
          let first = one.same p.spelled q.spelled (chain ps ++ operator ∷ mid) (chain qs ++ after) p.tree q.tree e (follows behind ps (operator ∷ mid) (behind mid)) (follows behind qs after f'.0) all.0 all'.0 in
          lacks_chain ps qs mid after first.2 f' none all.1 all'.1
