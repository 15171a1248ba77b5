-- The command of words that are lent.
use Rattle.std.proofs.Common.{◌≡◌, ℕ, Bool, true, false, List, [], ◌∷◌, Some, None, refl, ap, subst, sym, ◌∙◌, codes}
use Rattle.std.specs.Borrow.{Bor}
use Rattle.std.specs.Prelude.{IfOk, Result, map, slice_get}
use Rattle.std.specs.Str.{bytes_eq}
use Rattle.ks_base.specs.declared.memory.Memory.{Memory}
use Rattle.ks_words.specs.declared.words.Words.{Words}
use Rattle.ks_words.specs.declared.words.Words.TheVariants.{Usage}
use Rattle.ks_words.specs.Words.{check, drill, password, read_by, rotate, serve, setup, talk, words_of}
use Rattle.ks_words.proofs.NameLemmas.{named_check, named_drill, named_else, named_password, named_rotate, named_serve, named_setup, named_talk, not_named}

abbrev texts : List (Bor (List ℕ)) → List (List ℕ)
texts lent = map (λ word. word.now) lent

first_text : (lent : List (Bor (List ℕ))) (name : Bor (List ℕ)) → Some name ≡ slice_get lent 0 → slice_get (texts lent) 0 ≡ Some name.now
first_text [] name first = cc
first_text (word ∷ words) name first =
    let same : word ≡ name = cc in
    ap (λ (w : Bor (List ℕ)). Some w.now) same

pub check_lent : (words : List (List ℕ)) (lent : List (Bor (List ℕ))) (name : Bor (List ℕ)) (b : Bool) → map (λ word. word.now) lent ≡ words
    → Some name ≡ slice_get lent 0 → b ≡ bytes_eq name.now (codes "check") → b ≡ true → read_by check (map (λ word. word.now) lent) ≡ words_of words
check_lent words lent name b are first is h = sym (named_check (texts lent) name.now b (first_text lent name first) is h) ∙ ap words_of are

pub talk_lent : (words : List (List ℕ)) (lent : List (Bor (List ℕ))) (name : Bor (List ℕ)) (b d : Bool) → map (λ word. word.now) lent ≡ words
    → Some name ≡ slice_get lent 0 → b ≡ bytes_eq name.now (codes "check") → b ≡ false → d ≡ bytes_eq name.now (codes "talk") → d ≡ true
    → read_by talk (map (λ word. word.now) lent) ≡ words_of words
talk_lent words lent name b d are first is h also g = sym (named_talk (texts lent) name.now b d (first_text lent name first) is h also g) ∙ ap words_of are

pub setup_lent : (words : List (List ℕ)) (lent : List (Bor (List ℕ))) (name : Bor (List ℕ)) (b d e : Bool) → map (λ word. word.now) lent ≡ words
    → Some name ≡ slice_get lent 0 → b ≡ bytes_eq name.now (codes "check") → b ≡ false → d ≡ bytes_eq name.now (codes "talk") → d ≡ false
    → e ≡ bytes_eq name.now (codes "setup") → e ≡ true → read_by setup (map (λ word. word.now) lent) ≡ words_of words
setup_lent words lent name b d e are first is h also g third f =
    sym (named_setup (texts lent) name.now b d e (first_text lent name first) is h also g third f) ∙ ap words_of are

pub rotate_lent : (words : List (List ℕ)) (lent : List (Bor (List ℕ))) (name : Bor (List ℕ)) (b d e r : Bool) → map (λ word. word.now) lent ≡ words
    → Some name ≡ slice_get lent 0 → b ≡ bytes_eq name.now (codes "check") → b ≡ false → d ≡ bytes_eq name.now (codes "talk") → d ≡ false
    → e ≡ bytes_eq name.now (codes "setup") → e ≡ false → r ≡ bytes_eq name.now (codes "rotate") → r ≡ true
    → read_by rotate (map (λ word. word.now) lent) ≡ words_of words
rotate_lent words lent name b d e r are first is h also g third f fourth k =
    sym (named_rotate (texts lent) name.now b d e r (first_text lent name first) is h also g third f fourth k) ∙ ap words_of are

pub serve_lent : (words : List (List ℕ)) (lent : List (Bor (List ℕ))) (name : Bor (List ℕ)) (b d e r v : Bool) → map (λ word. word.now) lent ≡ words
    → Some name ≡ slice_get lent 0 → b ≡ bytes_eq name.now (codes "check") → b ≡ false → d ≡ bytes_eq name.now (codes "talk") → d ≡ false
    → e ≡ bytes_eq name.now (codes "setup") → e ≡ false → r ≡ bytes_eq name.now (codes "rotate") → r ≡ false
    → v ≡ bytes_eq name.now (codes "serve") → v ≡ true → read_by serve (map (λ word. word.now) lent) ≡ words_of words
serve_lent words lent name b d e r v are first is h also g third f fourth k fifth j =
    sym (named_serve (texts lent) name.now b d e r v (first_text lent name first) is h also g third f fourth k fifth j) ∙ ap words_of are

pub password_lent : (words : List (List ℕ)) (lent : List (Bor (List ℕ))) (name : Bor (List ℕ)) (b d e r v w : Bool) → map (λ word. word.now) lent ≡ words
    → Some name ≡ slice_get lent 0 → b ≡ bytes_eq name.now (codes "check") → b ≡ false → d ≡ bytes_eq name.now (codes "talk") → d ≡ false
    → e ≡ bytes_eq name.now (codes "setup") → e ≡ false → r ≡ bytes_eq name.now (codes "rotate") → r ≡ false
    → v ≡ bytes_eq name.now (codes "serve") → v ≡ false → w ≡ bytes_eq name.now (codes "password") → w ≡ true
    → read_by password (map (λ word. word.now) lent) ≡ words_of words
password_lent words lent name b d e r v w are first is h also g third f fourth k fifth j sixth i =
    sym (named_password (texts lent) name.now b d e r v w (first_text lent name first) is h also g third f fourth k fifth j sixth i) ∙ ap words_of are

pub drill_lent : (words : List (List ℕ)) (lent : List (Bor (List ℕ))) (name : Bor (List ℕ)) (b d e r v w x : Bool) → map (λ word. word.now) lent ≡ words
    → Some name ≡ slice_get lent 0 → b ≡ bytes_eq name.now (codes "check") → b ≡ false → d ≡ bytes_eq name.now (codes "talk") → d ≡ false
    → e ≡ bytes_eq name.now (codes "setup") → e ≡ false → r ≡ bytes_eq name.now (codes "rotate") → r ≡ false
    → v ≡ bytes_eq name.now (codes "serve") → v ≡ false → w ≡ bytes_eq name.now (codes "password") → w ≡ false
    → x ≡ bytes_eq name.now (codes "drill") → x ≡ true → read_by drill (map (λ word. word.now) lent) ≡ words_of words
drill_lent words lent name b d e r v w x are first is h also g third f fourth k fifth j sixth i seventh l =
    sym (named_drill (texts lent) name.now b d e r v w x (first_text lent name first) is h also g third f fourth k fifth j sixth i seventh l) ∙ ap words_of are

pub else_lent : (words : List (List ℕ)) (lent : List (Bor (List ℕ))) (name : Bor (List ℕ)) (b d e r v w x : Bool) → map (λ word. word.now) lent ≡ words
    → Some name ≡ slice_get lent 0 → b ≡ bytes_eq name.now (codes "check") → b ≡ false → d ≡ bytes_eq name.now (codes "talk") → d ≡ false
    → e ≡ bytes_eq name.now (codes "setup") → e ≡ false → r ≡ bytes_eq name.now (codes "rotate") → r ≡ false
    → v ≡ bytes_eq name.now (codes "serve") → v ≡ false → w ≡ bytes_eq name.now (codes "password") → w ≡ false
    → x ≡ bytes_eq name.now (codes "drill") → x ≡ false → Usage ≡ words_of words
else_lent words lent name b d e r v w x are first is h also g third f fourth k fifth j sixth i seventh l =
    sym (named_else (texts lent) name.now b d e r v w x (first_text lent name first) is h also g third f fourth k fifth j sixth i seventh l) ∙ ap words_of are

pub none_lent : (words : List (List ℕ)) (lent : List (Bor (List ℕ))) → map (λ word. word.now) lent ≡ words → None ≡ slice_get lent 0 → Usage ≡ words_of words
none_lent words [] are first = sym (not_named [] refl) ∙ ap words_of are
none_lent words (word ∷ lent) are first = cc

pub result_is : (r : Result Words Memory) (x y : Words) → x ≡ y → IfOk r (λ read. read ≡ x) → IfOk r (λ read. read ≡ y)
result_is r x y e h = subst (λ (z : Words). IfOk r (λ read. read ≡ z)) e h
