-- What is known after some work.
use Rattle.std.proofs.Common.{◌≡◌, inl, inr, ℕ, zero, suc, ◌+◌, ◌<◌, ◌≤◌, ◌==◌, Bool, true, false, List, [], ◌∷◌, ◌++◌, length, take, get_or, map, Option, Some, None, IfSome, is_some, option_copied, Bor, if◌then◌else◌, refl, sym, ap, subst, ◌∙◌, arith, bytes_eq}
use Rattle.std.specs.List.{All, list_any}
use Rattle.std.proofs.lemmas.Bool.Decides.{nat_tests}
use Rattle.std.proofs.lemmas.List.{map-id, take_all}
use Rattle.std.proofs.lemmas.List.Elements.{All-more, All-weaker}
use Rattle.std.proofs.lemmas.List.Folds.{list_any-append}
use Rattle.std.proofs.lemmas.Slice.Eq.{bytes_eq-Decides}
use Rattle.std.proofs.lemmas.Bool.{or_left, or_right, and_from}
use Rattle.ks_auth.specs.Facts.{FactsState, has_derived, has_opened, is_derived, is_of, told}
use Rattle.ks_base.specs.Rows.{Text}
use Rattle.ks_fernet.specs.Opened.{Opening}
use Rattle.ks_fernet.specs.declared.opening.OpenAnswer.{OpenAnswer}
use Rattle.ks_fernet.specs.Opening.{open_of}
use Rattle.ks_machine.specs.Derivations.{Derivation}
use Rattle.ks_ring.specs.declared.held_key.HeldKey.{HeldKey}
use Rattle.ks_service.specs.Work.{AreKept, IsDerived, IsOpened, is_open}

pub kept_trans : (a b c : FactsState) → AreKept a b → AreKept b c → AreKept a c
kept_trans a b c h k = record { opened = λ held text is. k.opened held text (h.opened held text is); derived = λ password salt rounds is. k.derived password salt rounds (h.derived password salt rounds is) }

-- one fact more

any_last : {X : Type 0} (p : X → Bool) (xs : List X) (x : X) → p x ≡ true → list_any p (xs ++ x ∷ []) ≡ true
any_last p xs x is = list_any-append p xs (x ∷ []) ∙ or_right (list_any p xs) (list_any p (x ∷ [])) (or_left (p x) false is)

same_bytes : (bytes : List ℕ) → bytes_eq bytes bytes ≡ true
same_bytes bytes = (bytes_eq-Decides bytes bytes).1 refl

same_number : (n : ℕ) → (n == n) ≡ true
same_number n = grind (arith, nat_tests)

pub opened_now : (old new : FactsState) (held : HeldKey) (text : Text) (fact : Opening) → fact ≡ record { number = held.number; key = held.key; text = text }
    → new ≡ record old { opened = old.opened ++ fact ∷ [] } → has_opened held text new.opened ≡ true
opened_now old new held text fact is grew =
    let itself : is_of held text (record { number = held.number; key = held.key; text = text }) ≡ true =
    and_from _ _ (same_number held.number) (and_from _ _ (and_from _ _ (same_bytes held.key.signing) (same_bytes held.key.encryption)) (same_bytes text)) in
    let of : is_of held text fact ≡ true = ap (is_of held text) is ∙ itself in
    ap (λ (f : FactsState). has_opened held text f.opened) grew ∙ any_last (is_of held text) old.opened fact of

pub derived_now : (old new : FactsState) (password copy salt digest : List ℕ) (rounds : ℕ) (fact : Derivation) → copy ≡ password
    → fact ≡ record { password = copy; salt = salt; rounds = rounds; digest = digest } → new ≡ record old { derived = old.derived ++ fact ∷ [] }
    → has_derived password salt rounds new.derived ≡ true
derived_now old new password copy salt digest rounds fact same is grew =
    let itself : is_derived password salt rounds (record { password = password; salt = salt; rounds = rounds; digest = digest }) ≡ true =
    and_from _ _ (same_bytes password) (and_from _ _ (same_bytes salt) (same_number rounds)) in
    let of : is_derived password salt rounds fact ≡ true =
    ap (is_derived password salt rounds) (is ∙ ap (λ (p : List ℕ). record { password = p; salt = salt; rounds = rounds; digest = digest }) same) ∙ itself in
    ap (λ (f : FactsState). has_derived password salt rounds f.derived) grew ∙ any_last (is_derived password salt rounds) old.derived fact of

pub derived_for : (given : Option (Bor (List ℕ × ℕ))) (shown : Option (Bor Text)) (by : Bor (List ℕ × ℕ)) (password : Bor Text) (facts : FactsState) → given ≡ Some by → shown ≡ Some password
    → has_derived password.now by.now.0 by.now.1 facts.derived ≡ true → IfSome (option_copied given) (λ b. IfSome (option_copied shown) (IsDerived b facts))
derived_for given shown by password facts is was known =
    subst (λ (o : Option (Bor (List ℕ × ℕ)) × Option (Bor Text)). IfSome (option_copied o.0) (λ b. IfSome (option_copied o.1) (IsDerived b facts))) (λ i. (sym is i, sym was i)) known

-- what is found is known

some_if : {X : Type 0} (b : Bool) (x y : X) → Some x ≡ (if b then Some y else None) → b ≡ true
some_if true x y is = refl
some_if false x y is = absurd (cc)

pub found_opened : (facts : FactsState) (held : HeldKey) (text : Text) (found : Option (Bor OpenAnswer)) → is_some found ≡ true
    → option_copied found ≡ (told facts).answer held text → has_opened held text facts.opened ≡ true
unfolding told
found_opened facts held text None some is = absurd (cc)
found_opened facts held text (Some answer) some is = some_if (has_opened held text facts.opened) _ _ is

some_given : {X : Type 0} (b : Bool) (x y : X) → Some x ≡ (if b then Some y else None) → x ≡ y
some_given true x y is = cc
some_given false x y is = absurd (cc)

-- what a known answer is
pub found_answer : (facts : FactsState) (held : HeldKey) (text : Text) (found : Option (Bor OpenAnswer)) (answer : Bor OpenAnswer) → found ≡ Some answer
    → option_copied found ≡ (told facts).answer held text → answer.now ≡ open_of held.key text
unfolding told
found_answer facts held text found answer some is =
    some_given (has_opened held text facts.opened) answer.now (open_of held.key text) (sym (ap option_copied some) ∙ is)

pub found_derived : (facts : FactsState) (password salt : List ℕ) (rounds : ℕ) (found : Option (List ℕ)) → is_some found ≡ true
    → found ≡ (told facts).derive password salt rounds → has_derived password salt rounds facts.derived ≡ true
unfolding told
found_derived facts password salt rounds None some is = absurd (cc)
found_derived facts password salt rounds (Some digest) some is = some_if (has_derived password salt rounds facts.derived) _ _ is

-- keys one after the other, each by the held key that it stands for

abbrev Knows : {K : Type 0} → (K → HeldKey) → Text → FactsState → K → Type 0
Knows held text facts key = has_opened (held key) text facts.opened ≡ true

later_keys : {K : Type 0} (held : K → HeldKey) (text : Text) (old new : FactsState) (keys : List K) → AreKept old new → All (Knows held text old) keys
    → All (Knows held text new) keys
later_keys held text old new keys kept known =
    All-weaker (Knows held text old) (Knows held text new) (λ key is. kept.opened (held key) text is) keys known

pub opened_more : {K : Type 0} (held : K → HeldKey) (keys : List K) (i : ℕ) (text : Text) (old new : FactsState) (key : K) → key ≡ get_or keys i key → i < length keys
    → All (Knows held text old) (take i keys) → AreKept old new → Knows held text new key → All (Knows held text new) (take (i + 1) keys)
opened_more held keys i text old new key is within known kept now =
    All-more (Knows held text new) keys i key within (later_keys held text old new (take i keys) kept known) (subst (Knows held text new) is now)

all_opened : {K : Type 0} (held : K → HeldKey) (keys : List K) (facts : FactsState) (text : Text) → All (Knows held text facts) keys
    → IsOpened (map held keys) facts text
all_opened held [] facts text known = tt
all_opened held (key ∷ keys) facts text known =
    (known 0 key (omega arith), inr (all_opened held keys facts text (λ i d within. known (suc i) d (omega (arith, within)))))

pub opened_whole : {K : Type 0} (held : K → HeldKey) (given : Option (Bor Text)) (text : Bor Text) (keys : List K) (i : ℕ) (facts : FactsState) → given ≡ Some text
    → length keys ≤ i → All (Knows held text.now facts) (take i keys) → IfSome (option_copied given) (IsOpened (map held keys) facts)
opened_whole held given text keys i facts is whole known =
    let all : All (Knows held text.now facts) keys = subst (All (Knows held text.now facts)) (take_all i keys whole) known in
    subst (λ (o : Option (Bor Text)). IfSome (option_copied o) (IsOpened (map held keys) facts)) (sym is) (all_opened held keys facts text.now all)

-- what is known stays known
pub opened_later : (old new : FactsState) (keys : List HeldKey) (text : Text) → AreKept old new → IsOpened keys old text → IsOpened keys new text
opened_later old new [] text kept known = tt
opened_later old new (held ∷ keys) text kept (known, inl opens) = (kept.opened held text known, inl opens)
opened_later old new (held ∷ keys) text kept (known, inr others) = (kept.opened held text known, inr (opened_later old new keys text kept others))

-- held keys stand for themselves
pub opened_held : (keys : List HeldKey) (facts : FactsState) (text : Text) → IsOpened (map (λ held. held) keys) facts text → IsOpened keys facts text
opened_held keys facts text known = subst (λ same. IsOpened same facts text) (map-id keys) known

-- all before the first that opens the text
first_opened : {K : Type 0} (held : K → HeldKey) (keys : List K) (i : ℕ) (facts : FactsState) (text : Text) (d : K) → i < length keys
    → All (Knows held text facts) (take i keys) → Knows held text facts (get_or keys i d) → is_open (open_of (held (get_or keys i d)).key text) ≡ true
    → IsOpened (map held keys) facts text
first_opened held [] i facts text d within known now opens = absurd (omega (arith, within))
first_opened held (key ∷ keys) zero facts text d within known now opens = (now, inl opens)
first_opened held (key ∷ keys) (suc i) facts text d within known now opens = (
  known 0 key (omega arith),
  inr (first_opened held keys i facts text d (omega (arith, within)) (λ j e under. known (suc j) e (omega (arith, under))) now opens),
)

pub opened_first : {K : Type 0} (held : K → HeldKey) (given : Option (Bor Text)) (text : Bor Text) (keys : List K) (i : ℕ) (old new : FactsState) (key : K) (opens : Bool)
    → given ≡ Some text → key ≡ get_or keys i key → i < length keys → All (Knows held text.now old) (take i keys) → AreKept old new → Knows held text.now new key
    → opens ≡ is_open (open_of (held key).key text.now) → opens ≡ true → IfSome (option_copied given) (IsOpened (map held keys) new)
opened_first held given text keys i old new key opens given_is is within known kept now said holds =
    let opened : is_open (open_of (held (get_or keys i key)).key text.now) ≡ true =
    subst (λ k. is_open (open_of (held k).key text.now) ≡ true) is (sym said ∙ holds) in
    subst (λ (o : Option (Bor Text)). IfSome (option_copied o) (IsOpened (map held keys) new)) (sym given_is)
    (first_opened held keys i new text.now key within (later_keys held text.now old new (take i keys) kept known) (subst (Knows held text.now new) is now) opened)
