-- What the keys of a ring find, one after the other.
use Rattle.std.proofs.Common.{◌≡◌, ℕ, ◌+◌, ◌<◌, ◌≤◌, Bool, true, false, List, [], ◌∷◌, length, Option, Some, None, Bor, IfOk, IfErr, refl, sym, ap, subst, ◌∙◌, get_or, drop}
use Rattle.std.proofs.lemmas.List.{drop_more, drop_all}
use Rattle.ks_base.specs.Rows.{Text}
use Rattle.ks_fernet.specs.declared.opening.OpenAnswer.{OpenAnswer}
use Rattle.ks_fernet.specs.declared.opening.OpenAnswer.TheVariants.{NotText, No, Yes}
use Rattle.ks_machine.specs.Attempts.{Attempt, Go, Lacks, Keys, Known}
use Rattle.ks_machine.specs.Validity.{opened_by, opened, lacking_by, lacking, unless_lacking, opens}
use Rattle.ks_machine.specs.declared.why.Why.{Why}
use Rattle.ks_ring.specs.declared.held_key.HeldKey.{HeldKey}
use Rattle.ks_auth.specs.Lines.{IsOpened, IsUnopened, first_unless}

-- of all keys, those that are left decide: none before them lacks its fact, or one does
abbrev pub Lacking : Bool → List HeldKey → List HeldKey → Type 0
Lacking false all left = all ≡ left
Lacking true all left = (key : HeldKey) × (keys : List HeldKey) × (all ≡ key ∷ keys)

-- none before them has found that the text is no token, or one did
abbrev pub Found : Bool → OpenAnswer → OpenAnswer → Type 0
Found true all left = all ≡ left
Found false all left = all ≡ NotText

pub record IsSoFar (known : Known) (text : Text) (keys left : List HeldKey) (lacks is_text : Bool) : Type 0 where
  pub lacking_is : Lacking lacks (lacking known text keys) (lacking known text left)
  pub opened_is : Found is_text (opened known text keys) (opened known text left)

pub so_far_here : (known : Known) (text : Text) (keys : List HeldKey) (k : ℕ) (other : HeldKey) (lacks is_text : Bool) → k < length keys →
    IsSoFar known text keys (drop k keys) lacks is_text → IsSoFar known text keys (get_or keys k other ∷ drop (k + 1) keys) lacks is_text
so_far_here known text keys k other lacks is_text within so_far =
    let P : List HeldKey → Type 0 = λ left. IsSoFar known text keys left lacks is_text in
    subst P (drop_more keys k other within) so_far

pub so_far_end : (known : Known) (text : Text) (keys : List HeldKey) (k : ℕ) (lacks is_text : Bool) → length keys ≤ k →
    IsSoFar known text keys (drop k keys) lacks is_text → IsSoFar known text keys [] lacks is_text
so_far_end known text keys k lacks is_text end so_far =
    let P : List HeldKey → Type 0 = λ left. IsSoFar known text keys left lacks is_text in
    subst P (drop_all k keys end) so_far

-- a key without a fact
lacks_now : (lacks : Bool) (key : HeldKey) (all rest : List HeldKey) → Lacking lacks all (key ∷ rest) → Lacking true all rest
lacks_now true key all rest so_far = so_far
lacks_now false key all rest so_far = (key, rest, so_far)

pub past_none : (known : Known) (text : Text) (keys : List HeldKey) (key : HeldKey) (rest : List HeldKey) (lacks is_text : Bool) →
    known.answer key text ≡ None → IsSoFar known text keys (key ∷ rest) lacks is_text → IsSoFar known text keys rest true is_text
unfolding lacking opened
past_none known text keys key rest lacks is_text none so_far = record {
  lacking_is =
      lacks_now lacks key (lacking known text keys) (lacking known text rest)
      (let P : Option OpenAnswer → Type 0 = λ said. Lacking lacks (lacking known text keys) (lacking_by said key (lacking known text rest)) in
      subst P none so_far.lacking_is);
  opened_is =
      let P : Option OpenAnswer → Type 0 = λ said. Found is_text (opened known text keys) (opened_by said (opened known text rest)) in
      subst P none so_far.opened_is;
}

-- a key that does not open the text
pub past_no : (known : Known) (text : Text) (keys : List HeldKey) (key : HeldKey) (rest : List HeldKey) (lacks is_text : Bool) →
    known.answer key text ≡ Some No → IsSoFar known text keys (key ∷ rest) lacks is_text → IsSoFar known text keys rest lacks is_text
unfolding lacking opened
past_no known text keys key rest lacks is_text none so_far = record {
  lacking_is =
      let P : Option OpenAnswer → Type 0 = λ said. Lacking lacks (lacking known text keys) (lacking_by said key (lacking known text rest)) in
      subst P none so_far.lacking_is;
  opened_is =
      let P : Option OpenAnswer → Type 0 = λ said. Found is_text (opened known text keys) (opened_by said (opened known text rest)) in
      subst P none so_far.opened_is;
}

-- a key that finds no token
no_text : (is_text : Bool) (all rest : OpenAnswer) → Found is_text all NotText → Found false all rest
no_text true all rest so_far = so_far
no_text false all rest so_far = so_far

pub past_not_text : (known : Known) (text : Text) (keys : List HeldKey) (key : HeldKey) (rest : List HeldKey) (lacks is_text : Bool) →
    known.answer key text ≡ Some NotText → IsSoFar known text keys (key ∷ rest) lacks is_text → IsSoFar known text keys rest lacks false
unfolding lacking opened
past_not_text known text keys key rest lacks is_text none so_far = record {
  lacking_is =
      let P : Option OpenAnswer → Type 0 = λ said. Lacking lacks (lacking known text keys) (lacking_by said key (lacking known text rest)) in
      subst P none so_far.lacking_is;
  opened_is =
      no_text is_text (opened known text keys) (opened known text rest)
      (let P : Option OpenAnswer → Type 0 = λ said. Found is_text (opened known text keys) (opened_by said (opened known text rest)) in
      subst P none so_far.opened_is);
}

-- what the keys find, where no key that is left lacks its fact, and these find this
abbrev pub Decided : Bool → Bool → OpenAnswer → Attempt Why OpenAnswer → Type 0
Decided true is_text answer lines = (keys : List HeldKey) × (lines ≡ Lacks (Keys keys))
Decided false true answer lines = lines ≡ Go answer
Decided false false answer lines = lines ≡ Go NotText

decided_by : (lacks is_text : Bool) (all : List HeldKey) (said answer : OpenAnswer) → Lacking lacks all [] → Found is_text said answer →
    Decided lacks is_text answer (unless_lacking all said)
decided_by true is_text all said answer lacking_is opened_is =
    let more : List HeldKey = lacking_is.0 ∷ lacking_is.1 in
    let P : List HeldKey → Type 0 = λ list. (keys : List HeldKey) × (unless_lacking {E = Why} list said ≡ Lacks (Keys keys)) in
    subst P (sym lacking_is.2) (more, refl)
decided_by false true all said answer lacking_is opened_is = rw (lacking_is, opened_is) refl
decided_by false false all said answer lacking_is opened_is = rw (lacking_is, opened_is) refl

-- a key that opens the text
pub at_yes : (known : Known) (text : Text) (keys : List HeldKey) (key : HeldKey) (rest : List HeldKey) (lacks is_text : Bool) (time : ℕ) (plain : List ℕ) →
    known.answer key text ≡ Some (Yes time plain) → IsSoFar known text keys (key ∷ rest) lacks is_text →
    Decided lacks is_text (Yes time plain) (opens known keys text)
unfolding lacking opened opens
at_yes known text keys key rest lacks is_text time plain opens_it so_far =
    decided_by lacks is_text (lacking known text keys) (opened known text keys) (Yes time plain)
    (let P : Option OpenAnswer → Type 0 = λ said. Lacking lacks (lacking known text keys) (lacking_by said key (lacking known text rest)) in
    subst P opens_it so_far.lacking_is)
    (let P : Option OpenAnswer → Type 0 = λ said. Found is_text (opened known text keys) (opened_by said (opened known text rest)) in
    subst P opens_it so_far.opened_is)

-- no key does
pub at_end : (known : Known) (text : Text) (keys : List HeldKey) (lacks is_text : Bool) → IsSoFar known text keys [] lacks is_text →
    Decided lacks is_text No (opens known keys text)
unfolding lacking opened opens
at_end known text keys lacks is_text so_far =
    decided_by lacks is_text (lacking known text keys) (opened known text keys) No so_far.lacking_is so_far.opened_is

-- what is returned

abbrev pub Answered : Option (ℕ × Bor (List ℕ)) → OpenAnswer → Type 0
Answered None answer = answer ≡ No
Answered (Some found) answer = answer ≡ Yes found.0 found.1.now

pub opened_first : (lacks is_text : Bool) (found : Option (ℕ × Bor (List ℕ))) (answer : OpenAnswer) (lines : Attempt Why OpenAnswer) →
    Decided lacks is_text answer lines → Answered found answer → IfOk (first_unless lacks is_text found) (λ first. IsOpened lines first.0 first.1.now)
opened_first true is_text found answer lines decided answered = tt
opened_first false false found answer lines decided answered = tt
opened_first false true None answer lines decided answered = tt
opened_first false true (Some found) answer lines decided answered = decided ∙ ap Go answered

pub unopened_first : (lacks is_text : Bool) (found : Option (ℕ × Bor (List ℕ))) (answer : OpenAnswer) (lines : Attempt Why OpenAnswer) →
    Decided lacks is_text answer lines → Answered found answer → IfErr (first_unless lacks is_text found) (λ stop. IsUnopened lines stop)
unopened_first true is_text found answer lines decided answered = decided
unopened_first false false found answer lines decided answered = decided
unopened_first false true None answer lines decided answered = decided ∙ ap Go answered
unopened_first false true (Some found) answer lines decided answered = tt
