-- Reading one key more.
use Rattle.std.proofs.Common.{◌≡◌, ℕ, zero, suc, ◌<◌, ◌≤◌, List, [], ◌∷◌, ◌++◌, length, get_or, drop, refl, sym, ap, subst, arith, append-nil}
use Rattle.ks_base.specs.declared.key.Key.{Key}
use Rattle.ks_setup.specs.Openings.{AreKeys, IsFirstBad}

-- of these texts those before the number i are read, and their keys are these
pub record Reading (texts : List (List ℕ)) (i : ℕ) (ring : List (ℕ × Key)) : Type 0 where
  pub keys : (more : List (ℕ × Key)) → AreKeys i (drop i texts) more → AreKeys 0 texts (ring ++ more)
  pub bad : (at : ℕ) → IsFirstBad i (drop i texts) at → IsFirstBad 0 texts at

drop_at : (texts : List (List ℕ)) (i : ℕ) (text : List ℕ) → i < length texts → text ≡ get_or texts i text → drop i texts ≡ text ∷ drop (suc i) texts
drop_at [] i text lt is = absurd (omega arith)
drop_at (t ∷ texts) zero text lt is = ap (λ x. x ∷ texts) (sym is)
drop_at (t ∷ texts) (suc i) text lt is = drop_at texts i text (omega arith) is

pub reading_none : (texts : List (List ℕ)) → Reading texts 0 []
reading_none [] = record { keys = λ more h. h; bad = λ at h. h }
reading_none (text ∷ texts) = record { keys = λ more h. h; bad = λ at h. h }

nothing_left : (texts : List (List ℕ)) (i : ℕ) → length texts ≤ i → drop i texts ≡ []
nothing_left [] zero le = refl
nothing_left [] (suc i) le = refl
nothing_left (text ∷ texts) zero le = absurd (omega arith)
nothing_left (text ∷ texts) (suc i) le = nothing_left texts i (omega arith)

pub reading_end : (texts : List (List ℕ)) (i : ℕ) (ring : List (ℕ × Key)) → length texts ≤ i → Reading texts i ring → AreKeys 0 texts ring
reading_end texts i ring le h =
    let P : List (ℕ × Key) → Type 0 = λ l. AreKeys 0 texts l in
    let Q : List (List ℕ) → Type 0 = λ l. AreKeys i l [] in
    subst P (append-nil ring) (h.keys [] (subst Q (sym (nothing_left texts i le)) tt))
