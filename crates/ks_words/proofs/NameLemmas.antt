-- The first word names the command.
use Rattle.std.proofs.Common.{◌≡◌, ℕ, Bool, true, false, List, [], ◌∷◌, Some, None, refl, ap, subst, sym, ◌∙◌, inl, inr, codes}
use Rattle.std.specs.Prelude.{slice_get}
use Rattle.std.specs.Str.{bytes_eq}
use Rattle.std.proofs.lemmas.Bool.{cases_Bool}
use Rattle.std.proofs.lemmas.Slice.Eq.{bytes_eq-Decides}
use Rattle.ks_words.specs.declared.words.Words.{Words}
use Rattle.ks_words.specs.declared.words.Words.TheVariants.{Usage}
use Rattle.ks_words.specs.Words.{check, drill, password, read_by, rotate, serve, setup, talk, words_of}

pub named_check : (words : List (List ℕ)) (name : List ℕ) (b : Bool) → slice_get words 0 ≡ Some name → b ≡ bytes_eq name (codes "check") → b ≡ true
    → words_of words ≡ read_by check words
unfolding words_of
named_check [] name b first is h = cc
named_check (word ∷ words) name b first is h =
    let same : word ≡ name = cc in
    let test : bytes_eq word (codes "check") ≡ true = ap (λ w. bytes_eq w (codes "check")) same ∙ sym is ∙ h in
    rw test refl

pub named_talk : (words : List (List ℕ)) (name : List ℕ) (b d : Bool) → slice_get words 0 ≡ Some name → b ≡ bytes_eq name (codes "check") → b ≡ false
    → d ≡ bytes_eq name (codes "talk") → d ≡ true → words_of words ≡ read_by talk words
unfolding words_of
named_talk [] name b d first is h also g = cc
named_talk (word ∷ words) name b d first is h also g =
    let same : word ≡ name = cc in
    let test : bytes_eq word (codes "check") ≡ false = ap (λ w. bytes_eq w (codes "check")) same ∙ sym is ∙ h in
    let next : bytes_eq word (codes "talk") ≡ true = ap (λ w. bytes_eq w (codes "talk")) same ∙ sym also ∙ g in
    rw (test, next) refl

pub named_setup : (words : List (List ℕ)) (name : List ℕ) (b d e : Bool) → slice_get words 0 ≡ Some name → b ≡ bytes_eq name (codes "check") → b ≡ false
    → d ≡ bytes_eq name (codes "talk") → d ≡ false → e ≡ bytes_eq name (codes "setup") → e ≡ true → words_of words ≡ read_by setup words
unfolding words_of
named_setup [] name b d e first is h also g third f = cc
named_setup (word ∷ words) name b d e first is h also g third f =
    let same : word ≡ name = cc in
    let test : bytes_eq word (codes "check") ≡ false = ap (λ w. bytes_eq w (codes "check")) same ∙ sym is ∙ h in
    let next : bytes_eq word (codes "talk") ≡ false = ap (λ w. bytes_eq w (codes "talk")) same ∙ sym also ∙ g in
    let last : bytes_eq word (codes "setup") ≡ true = ap (λ w. bytes_eq w (codes "setup")) same ∙ sym third ∙ f in
    rw (test, next, last) refl

-- none of the names of the first three commands
record IsNotFirst (name : List ℕ) : Type 0 where
  check_no : bytes_eq name (codes "check") ≡ false
  talk_no : bytes_eq name (codes "talk") ≡ false
  setup_no : bytes_eq name (codes "setup") ≡ false

not_first : (word name : List ℕ) (b d e : Bool) → word ≡ name → b ≡ bytes_eq name (codes "check") → b ≡ false → d ≡ bytes_eq name (codes "talk") → d ≡ false
    → e ≡ bytes_eq name (codes "setup") → e ≡ false → IsNotFirst word
not_first word name b d e same is h also g third f = record {
  check_no = ap (λ w. bytes_eq w (codes "check")) same ∙ sym is ∙ h;
  talk_no = ap (λ w. bytes_eq w (codes "talk")) same ∙ sym also ∙ g;
  setup_no = ap (λ w. bytes_eq w (codes "setup")) same ∙ sym third ∙ f;
}

pub named_rotate : (words : List (List ℕ)) (name : List ℕ) (b d e r : Bool) → slice_get words 0 ≡ Some name → b ≡ bytes_eq name (codes "check") → b ≡ false
    → d ≡ bytes_eq name (codes "talk") → d ≡ false → e ≡ bytes_eq name (codes "setup") → e ≡ false → r ≡ bytes_eq name (codes "rotate") → r ≡ true
    → words_of words ≡ read_by rotate words
unfolding words_of
named_rotate [] name b d e r first is h also g third f fourth k = cc
named_rotate (word ∷ words) name b d e r first is h also g third f fourth k =
    let same : word ≡ name = cc in
    let tests = not_first word name b d e same is h also g third f in
    let last : bytes_eq word (codes "rotate") ≡ true = ap (λ w. bytes_eq w (codes "rotate")) same ∙ sym fourth ∙ k in
    rw (tests.check_no, tests.talk_no, tests.setup_no, last) refl

pub named_serve : (words : List (List ℕ)) (name : List ℕ) (b d e r v : Bool) → slice_get words 0 ≡ Some name → b ≡ bytes_eq name (codes "check") → b ≡ false
    → d ≡ bytes_eq name (codes "talk") → d ≡ false → e ≡ bytes_eq name (codes "setup") → e ≡ false → r ≡ bytes_eq name (codes "rotate") → r ≡ false
    → v ≡ bytes_eq name (codes "serve") → v ≡ true → words_of words ≡ read_by serve words
unfolding words_of
named_serve [] name b d e r v first is h also g third f fourth k fifth j = cc
named_serve (word ∷ words) name b d e r v first is h also g third f fourth k fifth j =
    let same : word ≡ name = cc in
    let tests = not_first word name b d e same is h also g third f in
    let next : bytes_eq word (codes "rotate") ≡ false = ap (λ w. bytes_eq w (codes "rotate")) same ∙ sym fourth ∙ k in
    let last : bytes_eq word (codes "serve") ≡ true = ap (λ w. bytes_eq w (codes "serve")) same ∙ sym fifth ∙ j in
    rw (tests.check_no, tests.talk_no, tests.setup_no, next, last) refl

pub named_password : (words : List (List ℕ)) (name : List ℕ) (b d e r v w : Bool) → slice_get words 0 ≡ Some name → b ≡ bytes_eq name (codes "check") → b ≡ false
    → d ≡ bytes_eq name (codes "talk") → d ≡ false → e ≡ bytes_eq name (codes "setup") → e ≡ false → r ≡ bytes_eq name (codes "rotate") → r ≡ false
    → v ≡ bytes_eq name (codes "serve") → v ≡ false → w ≡ bytes_eq name (codes "password") → w ≡ true → words_of words ≡ read_by password words
unfolding words_of
named_password [] name b d e r v w first is h also g third f fourth k fifth j sixth i = cc
named_password (word ∷ words) name b d e r v w first is h also g third f fourth k fifth j sixth i =
    let same : word ≡ name = cc in
    let tests = not_first word name b d e same is h also g third f in
    let next : bytes_eq word (codes "rotate") ≡ false = ap (λ w. bytes_eq w (codes "rotate")) same ∙ sym fourth ∙ k in
    let later : bytes_eq word (codes "serve") ≡ false = ap (λ w. bytes_eq w (codes "serve")) same ∙ sym fifth ∙ j in
    let last : bytes_eq word (codes "password") ≡ true = ap (λ w. bytes_eq w (codes "password")) same ∙ sym sixth ∙ i in
    rw (tests.check_no, tests.talk_no, tests.setup_no, next, later, last) refl

pub named_drill : (words : List (List ℕ)) (name : List ℕ) (b d e r v w x : Bool) → slice_get words 0 ≡ Some name → b ≡ bytes_eq name (codes "check") → b ≡ false
    → d ≡ bytes_eq name (codes "talk") → d ≡ false → e ≡ bytes_eq name (codes "setup") → e ≡ false → r ≡ bytes_eq name (codes "rotate") → r ≡ false
    → v ≡ bytes_eq name (codes "serve") → v ≡ false → w ≡ bytes_eq name (codes "password") → w ≡ false
    → x ≡ bytes_eq name (codes "drill") → x ≡ true → words_of words ≡ read_by drill words
unfolding words_of
named_drill [] name b d e r v w x first is h also g third f fourth k fifth j sixth i seventh l = cc
named_drill (word ∷ words) name b d e r v w x first is h also g third f fourth k fifth j sixth i seventh l =
    let same : word ≡ name = cc in
    let tests = not_first word name b d e same is h also g third f in
    let next : bytes_eq word (codes "rotate") ≡ false = ap (λ w. bytes_eq w (codes "rotate")) same ∙ sym fourth ∙ k in
    let later : bytes_eq word (codes "serve") ≡ false = ap (λ w. bytes_eq w (codes "serve")) same ∙ sym fifth ∙ j in
    let further : bytes_eq word (codes "password") ≡ false = ap (λ w. bytes_eq w (codes "password")) same ∙ sym sixth ∙ i in
    let last : bytes_eq word (codes "drill") ≡ true = ap (λ w. bytes_eq w (codes "drill")) same ∙ sym seventh ∙ l in
    rw (tests.check_no, tests.talk_no, tests.setup_no, next, later, further, last) refl

pub named_else : (words : List (List ℕ)) (name : List ℕ) (b d e r v w x : Bool) → slice_get words 0 ≡ Some name → b ≡ bytes_eq name (codes "check") → b ≡ false
    → d ≡ bytes_eq name (codes "talk") → d ≡ false → e ≡ bytes_eq name (codes "setup") → e ≡ false → r ≡ bytes_eq name (codes "rotate") → r ≡ false
    → v ≡ bytes_eq name (codes "serve") → v ≡ false → w ≡ bytes_eq name (codes "password") → w ≡ false
    → x ≡ bytes_eq name (codes "drill") → x ≡ false → words_of words ≡ Usage
unfolding words_of
named_else [] name b d e r v w x first is h also g third f fourth k fifth j sixth i seventh l = cc
named_else (word ∷ words) name b d e r v w x first is h also g third f fourth k fifth j sixth i seventh l =
    let same : word ≡ name = cc in
    let tests = not_first word name b d e same is h also g third f in
    let next : bytes_eq word (codes "rotate") ≡ false = ap (λ w. bytes_eq w (codes "rotate")) same ∙ sym fourth ∙ k in
    let later : bytes_eq word (codes "serve") ≡ false = ap (λ w. bytes_eq w (codes "serve")) same ∙ sym fifth ∙ j in
    let further : bytes_eq word (codes "password") ≡ false = ap (λ w. bytes_eq w (codes "password")) same ∙ sym sixth ∙ i in
    let last : bytes_eq word (codes "drill") ≡ false = ap (λ w. bytes_eq w (codes "drill")) same ∙ sym seventh ∙ l in
    rw (tests.check_no, tests.talk_no, tests.setup_no, next, later, further, last) refl

pub not_named : (words : List (List ℕ)) → slice_get words 0 ≡ None → words_of words ≡ Usage
unfolding words_of
not_named [] first = refl
not_named (word ∷ words) first = cc

pub check_name : (name : List ℕ) (rest : List (List ℕ)) → bytes_eq name (codes "check") ≡ true → words_of (name ∷ rest) ≡ read_by check (name ∷ rest)
check_name name rest h = named_check (name ∷ rest) name true refl (sym h) refl

pub talk_name : (name : List ℕ) (rest : List (List ℕ)) → bytes_eq name (codes "check") ≡ false → bytes_eq name (codes "talk") ≡ true → words_of (name ∷ rest) ≡ read_by talk (name ∷ rest)
talk_name name rest h g = named_talk (name ∷ rest) name false true refl (sym h) refl (sym g) refl

-- whatever holds of the other commands holds of the words of another name
of_later : (P : Words → Type 0) (name : List ℕ) (rest : List (List ℕ)) → bytes_eq name (codes "check") ≡ false → bytes_eq name (codes "talk") ≡ false
    → bytes_eq name (codes "setup") ≡ false → P (read_by rotate (name ∷ rest)) → P (read_by serve (name ∷ rest)) → P (read_by password (name ∷ rest))
    → P (read_by drill (name ∷ rest)) → P Usage → P (words_of (name ∷ rest))
of_later P name rest h g e of_rotate of_serve of_password of_drill of_none = elim (cases_Bool (bytes_eq name (codes "rotate"))) [
  | inl r ↦ subst P (sym (named_rotate (name ∷ rest) name false false false true refl (sym h) refl (sym g) refl (sym e) refl (sym r) refl)) of_rotate
  | inr r ↦ elim (cases_Bool (bytes_eq name (codes "serve"))) [
    | inl v ↦ subst P (sym (named_serve (name ∷ rest) name false false false false true refl (sym h) refl (sym g) refl (sym e) refl (sym r) refl (sym v) refl)) of_serve
    | inr v ↦ elim (cases_Bool (bytes_eq name (codes "password"))) [
      | inl w ↦ subst P (sym (named_password (name ∷ rest) name false false false false false true refl (sym h) refl (sym g) refl (sym e) refl (sym r) refl (sym v) refl (sym w) refl)) of_password
      | inr w ↦ elim (cases_Bool (bytes_eq name (codes "drill"))) [
        | inl x ↦ subst P (sym (named_drill (name ∷ rest) name false false false false false false true refl (sym h) refl (sym g) refl (sym e) refl (sym r) refl (sym v) refl (sym w) refl (sym x) refl)) of_drill
        | inr x ↦ subst P (sym (named_else (name ∷ rest) name false false false false false false false refl (sym h) refl (sym g) refl (sym e) refl (sym r) refl (sym v) refl (sym w) refl (sym x) refl)) of_none
      ]
    ]
  ]
]

pub other_name : (P : Words → Type 0) (name : List ℕ) (rest : List (List ℕ)) → bytes_eq name (codes "check") ≡ false → bytes_eq name (codes "talk") ≡ false
    → (bytes_eq name (codes "setup") ≡ true → P (read_by setup (name ∷ rest))) → P (read_by rotate (name ∷ rest)) → P (read_by serve (name ∷ rest))
    → P (read_by password (name ∷ rest)) → P (read_by drill (name ∷ rest)) → P Usage → P (words_of (name ∷ rest))
other_name P name rest h g of_setup of_rotate of_serve of_password of_drill of_none = elim (cases_Bool (bytes_eq name (codes "setup"))) [
  | inl e ↦ subst P (sym (named_setup (name ∷ rest) name false false true refl (sym h) refl (sym g) refl (sym e) refl)) (of_setup e)
  | inr e ↦ of_later P name rest h g e of_rotate of_serve of_password of_drill of_none
]

-- whatever holds of all commands, and where there is none, holds of any words
pub any_name : (P : Words → Type 0) (name : List ℕ) (rest : List (List ℕ)) → P (read_by check (name ∷ rest)) → P (read_by talk (name ∷ rest))
    → (bytes_eq name (codes "setup") ≡ true → P (read_by setup (name ∷ rest))) → P (read_by rotate (name ∷ rest)) → P (read_by serve (name ∷ rest))
    → P (read_by password (name ∷ rest)) → P (read_by drill (name ∷ rest)) → P Usage → P (words_of (name ∷ rest))
any_name P name rest of_check of_talk of_setup of_rotate of_serve of_password of_drill of_none = elim (cases_Bool (bytes_eq name (codes "check"))) [
  | inl h ↦ subst P (sym (check_name name rest h)) of_check
  | inr h ↦ elim (cases_Bool (bytes_eq name (codes "talk"))) [
    | inl g ↦ subst P (sym (talk_name name rest h g)) of_talk
    | inr g ↦ other_name P name rest h g of_setup of_rotate of_serve of_password of_drill of_none
  ]
]

pub is_name : (name text : List ℕ) → bytes_eq name text ≡ true → name ≡ text
is_name name text h = (bytes_eq-Decides name text).0 h
