-- A policy file reads as one list of rules at most, so that a drill has one line.
use Rattle.std.proofs.Common.{◌≡◌, ℕ, List, [], ◌∷◌, Ok, refl, sym, ap, ap₂, subst, ◌∙◌}
use Rattle.serde_json.specs.Data.{Data}
use Rattle.ks_base.specs.Rows.{Text}
use Rattle.ks_machine.specs.Openings.{NamedRule}
use Rattle.ks_policy.specs.declared.texts.RuleText.{RuleText}
use Rattle.ks_policy.specs.Loading.{AreRules, Reads, texts_of}
use Rattle.ks_rule.specs.Grammar.{IsRule}
use Rattle.ks_rule.specs.Trees.{Tree}
use Rattle.ks_drill.specs.Drill.{IsDrill, drill_of}

-- a text has one tree at most
abbrev pub OneTree : Type 0
OneTree = (text : List ℕ) (a b : Tree) → IsRule text a → IsRule text b → a ≡ b

same_rule : (x y : NamedRule) → x.name ≡ y.name → x.tree ≡ y.tree → x ≡ y
same_rule x y p q = λ i. record { name = p i; tree = q i }

same_rules : OneTree → (texts : List RuleText) (xs ys : List NamedRule) → AreRules texts xs → AreRules texts ys → xs ≡ ys
same_rules one [] [] [] p q = refl
same_rules one [] [] (y ∷ ys) p q = absurd q
same_rules one [] (x ∷ xs) ys p q = absurd p
same_rules one (row ∷ texts) [] ys p q = absurd p
same_rules one (row ∷ texts) (x ∷ xs) [] p q = absurd q
same_rules one (row ∷ texts) (x ∷ xs) (y ∷ ys) p q =
    ap₂ (λ rule rules. rule ∷ rules) (same_rule x y (p.0 ∙ sym q.0) (one row.text x.tree y.tree p.1 q.1)) (same_rules one texts xs ys p.2 q.2)

same_texts : (file : Data) (a b : List RuleText) → texts_of file ≡ Ok a → texts_of file ≡ Ok b → a ≡ b
same_texts file a b p q = cc (sym p ∙ q)

read_once : OneTree → (file : Data) (xs ys : List NamedRule) → Reads file xs → Reads file ys → xs ≡ ys
read_once one file xs ys x y =
    let same = same_texts file y.0 x.0 y.1 x.1 in
    same_rules one x.0 xs ys x.2 (subst (λ texts. AreRules texts ys) same y.2)

pub one_line : OneTree → (start count : ℕ) (a b : Text) → IsDrill start count a → IsDrill start count b → a ≡ b
one_line one start count a b x y =
    x.is ∙ ap (λ rules. drill_of rules start count) (read_once one _ x.rules y.rules x.are_default y.are_default) ∙ sym y.is
