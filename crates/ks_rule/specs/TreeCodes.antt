-- A tree is stored as a list of numbers: each node before its parts, and the length of each text before it.
use Rattle.std.proofs.Common.{◌≡◌, ℕ, List, [], ◌∷◌, ◌++◌, length, refl, sym, ap, ◌∙◌, append_assoc, append-nil, arith}
use Rattle.std.specs.Coded.{Coded, coded_list, coded_ℕ}
use base.Stored.{coded_via}
use Rattle.ks_rule.specs.Trees.{Tree, always, never, named, role, compare, negated, both, either}

abbrev pub spelled : List ℕ → List ℕ
spelled text = length text ∷ text

abbrev pub flat : Tree → List ℕ
flat always = 0 ∷ []
flat never = 1 ∷ []
flat (named name) = 2 ∷ spelled name
flat (role text) = 3 ∷ spelled text
flat (compare kind text) = 4 ∷ spelled kind ++ spelled text
flat (negated a) = 5 ∷ flat a
flat (both a b) = 6 ∷ flat a ++ flat b
flat (either a b) = 7 ∷ flat a ++ flat b

texts_apart : (s t xs ys : List ℕ) → length s ≡ length t → s ++ xs ≡ t ++ ys → (s ≡ t) × (xs ≡ ys)
texts_apart [] [] xs ys n e = (refl, e)
texts_apart [] (y ∷ t) xs ys n e = absurd (omega arith)
texts_apart (x ∷ s) [] xs ys n e = absurd (omega arith)
texts_apart (x ∷ s) (y ∷ t) xs ys n e = let rest = texts_apart s t xs ys (omega arith) (cc) in let head : x ≡ y = cc in (λ i. head i ∷ rest.0 i, rest.1)

spelled_apart : (s t xs ys : List ℕ) → spelled s ++ xs ≡ spelled t ++ ys → (s ≡ t) × (xs ≡ ys)
spelled_apart s t xs ys e = texts_apart s t xs ys (cc) (cc)

-- where two trees begin lists that are equal, they are equal, and so is what follows
pub flat_apart : (a b : Tree) (xs ys : List ℕ) → flat a ++ xs ≡ flat b ++ ys → (a ≡ b) × (xs ≡ ys)
flat_apart always always xs ys e = (refl, cc)
flat_apart never never xs ys e = (refl, cc)
flat_apart (named s) (named t) xs ys e = let r = spelled_apart s t xs ys (cc) in (ap named r.0, r.1)
flat_apart (role s) (role t) xs ys e = let r = spelled_apart s t xs ys (cc) in (ap role r.0, r.1)
flat_apart (compare s t) (compare u v) xs ys e =
    let tail : (spelled s ++ spelled t) ++ xs ≡ (spelled u ++ spelled v) ++ ys = cc in
    let r = spelled_apart s u (spelled t ++ xs) (spelled v ++ ys) (sym (append_assoc (spelled s) (spelled t) xs) ∙ tail ∙ append_assoc (spelled u) (spelled v) ys) in
    let q = spelled_apart t v xs ys r.1 in
    (λ i. compare (r.0 i) (q.0 i), q.1)
flat_apart (negated a) (negated b) xs ys e = let r = flat_apart a b xs ys (cc) in (ap negated r.0, r.1)
flat_apart (both a b) (both c d) xs ys e =
    let tail : (flat a ++ flat b) ++ xs ≡ (flat c ++ flat d) ++ ys = cc in
    let r = flat_apart a c (flat b ++ xs) (flat d ++ ys) (sym (append_assoc (flat a) (flat b) xs) ∙ tail ∙ append_assoc (flat c) (flat d) ys) in
    let q = flat_apart b d xs ys r.1 in
    (λ i. both (r.0 i) (q.0 i), q.1)
flat_apart (either a b) (either c d) xs ys e =
    let tail : (flat a ++ flat b) ++ xs ≡ (flat c ++ flat d) ++ ys = cc in
    let r = flat_apart a c (flat b ++ xs) (flat d ++ ys) (sym (append_assoc (flat a) (flat b) xs) ∙ tail ∙ append_assoc (flat c) (flat d) ys) in
    let q = flat_apart b d xs ys r.1 in
    (λ i. either (r.0 i) (q.0 i), q.1)
flat_apart _ _ xs ys e = absurd (cc)

pub flat_alone : (a b : Tree) → flat a ≡ flat b → a ≡ b
flat_alone a b e = (flat_apart a b [] [] (append-nil (flat a) ∙ e ∙ sym (append-nil (flat b)))).0

abbrev pub tree_code : Coded Tree
tree_code = coded_via (coded_list coded_ℕ) flat (λ a b e. flat_alone a b e)
