-- Changes that are made once more, one after the other.
use Rattle.std.proofs.Common.{◌≡◌, ℕ, ◌+◌, List, [], ◌∷◌, ◌++◌, length, refl, sym, subst, ◌∙◌, arith, append_assoc, append-nil, length-append}
use Rattle.ks_machine.specs.declared.change.Entry.{Entry}
use Rattle.ks_machine.specs.Fronts.{first_front}
use Rattle.ks_machine.specs.Openings.{PlainOpening}
use Rattle.ks_state.specs.Restoring.{IsFirstUnfit, MayFollow, last_moment_in, redone, restored_front}
use Rattle.ks_state.specs.Shown.{Shown}
use Rattle.ks_state.specs.Standing.{StandsWithAllKept}
use Rattle.ks_state.specs.StandingLaws.{made_so_far}

-- the moment of the last is that of the one behind all
last_moment_behind : (moment : ℕ) (entries : List Entry) (entry : Entry) → last_moment_in moment (entries ++ entry ∷ []) ≡ entry.moment
unfolding last_moment_in
last_moment_behind moment [] entry = refl
last_moment_behind moment (next ∷ entries) entry = last_moment_behind next.moment entries entry

-- one entry more is redone behind the others
pub redone_is : (opening : PlainOpening) (entries : List Entry) (entry : Entry) → redone (restored_front opening entries) entry ≡ restored_front opening (entries ++ entry ∷ [])
redone_is opening entries entry =
    let high = sym (last_moment_behind 0 entries entry) in
    let kept : length entries + 1 ≡ length (entries ++ entry ∷ []) = omega (arith, length-append entries (entry ∷ [])) in
    λ i. record { opening = opening; changes = entries ++ entry ∷ []; high = high i; kept = kept i }

-- so far the changes before the rest are made
pub record HasRedone (opening : PlainOpening) (entries rest : List Entry) (identity : Shown) : Type 0 where
  pub before : List Entry
  pub entries_are : entries ≡ before ++ rest
  pub stands : StandsWithAllKept identity (restored_front opening before)

pub none_redone : (opening : PlainOpening) (entries : List Entry) (identity : Shown) → StandsWithAllKept identity (first_front opening) →
    HasRedone opening entries entries identity
unfolding last_moment_in
none_redone opening entries identity stands = record { before = []; entries_are = refl; stands = stands }

pub one_redone : (opening : PlainOpening) (entries : List Entry) (entry : Entry) (rest : List Entry) (old new : Shown) →
    (so_far : HasRedone opening entries (entry ∷ rest) old) → StandsWithAllKept new (redone (restored_front opening so_far.before) entry) → HasRedone opening entries rest new
one_redone opening entries entry rest old new so_far stands = record {
  before = so_far.before ++ entry ∷ [];
  entries_are = so_far.entries_are ∙ sym (append_assoc so_far.before (entry ∷ []) rest);
  stands = subst (StandsWithAllKept new) (redone_is opening so_far.before entry) stands;
}

pub all_redone : (opening : PlainOpening) (entries rest : List Entry) (identity : Shown) → HasRedone opening entries rest identity → length rest ≡ 0 →
    StandsWithAllKept identity (restored_front opening entries)
all_redone opening entries [] identity so_far none =
    subst (λ (l : List Entry). StandsWithAllKept identity (restored_front opening l)) (sym (so_far.entries_are ∙ append-nil so_far.before)) so_far.stands
all_redone opening entries (entry ∷ rest) identity so_far none = absurd (omega arith)

pub first_unfit : (opening : PlainOpening) (entries : List Entry) (entry : Entry) (rest : List Entry) (identity : Shown) (number : ℕ) →
    (so_far : HasRedone opening entries (entry ∷ rest) identity) → number ≡ identity.state.made → (MayFollow (restored_front opening so_far.before) entry → ⊥) →
    IsFirstUnfit opening entries number
first_unfit opening entries entry rest identity number so_far is unfit = record {
  before = so_far.before;
  entry = entry;
  later = rest;
  entries_are = so_far.entries_are;
  count = sym (is ∙ made_so_far identity (restored_front opening so_far.before) so_far.stands.stands);
  lawful = so_far.stands.stands.lawful;
  unfit = unfit;
}
