-- A rotation, step by step.
use Rattle.std.proofs.Common.{◌≡◌, ◌⊎◌, ℕ, ◌+◌, ◌-◌, ◌≤◌, List, ◌∷◌, ◌++◌, length, take, drop, Option, Some, None, Err, refl, sym, ap, subst, ◌∙◌, arith, inl, inr}
use Rattle.std.proofs.lemmas.List.{length-map, take-append-drop}
use Rattle.ks_base.specs.declared.faults.KeysFault.{KeysFault}
use Rattle.ks_base.specs.declared.faults.KeysFault.TheVariants.{Failed, NoKeys, BadKey, TooMany, AlreadySet, IndexEnd, Memory}
use Rattle.ks_base.specs.declared.key.Key.{Key}
use Rattle.ks_outside.specs.Files.{AreIndices, IsFree, KeyFile, indices_of}
use Rattle.ks_keyfiles.specs.Readings.{IsCallFault}
use Rattle.ks_keyfiles.specs.Rotations.{AreRotated, IsRotating, RotatesFiles, excess, highest, promoted, removals, removed, rotated, rotation_fault, staged_anew}
use Rattle.ks_keyfiles.specs.Setups.{IsOneOf, key_text}
use Rattle.ks_keyfiles.specs.steps.Removals.{AreOldest, promoted_indices}
use Rattle.ks_keyfiles.proofs.IndexLemmas.{dropped_rises, promoted_rises}
use Rattle.ks_keyfiles.proofs.PromotionLemmas.{promoted_listed, staged_first, staging_is_free}
use Rattle.ks_keyfiles.proofs.RemovalLemmas.{indices_dropped, left_by, removed_is}

-- what a promotion leaves, by the indices that were listed and those that are now
record Promoted (files : List KeyFile) (indices : List ℕ) : Type 0 where
  listed : indices_of (promoted files) ≡ indices
  rising : AreIndices 1 indices

promoted_of : (files : List KeyFile) (were now : List ℕ) → AreIndices 0 were → highest were + 1 ≤ 999999999 → were ≡ indices_of files → now ≡ promoted_indices were → Promoted files now
promoted_of files were now rising small listed is = record {
  listed = promoted_listed files (subst (λ l. AreIndices 0 l) listed rising) ∙ ap promoted_indices (sym listed) ∙ sym is;
  rising = subst (λ l. AreIndices 1 l) (sym is) (promoted_rises were rising small);
}

rises : (files : List KeyFile) (indices : List ℕ) → Promoted files indices → AreIndices 1 (indices_of (promoted files))
rises files indices p = subst (λ l. AreIndices 1 l) (sym p.listed) p.rising

-- then the index 0 is free
pub may_be_staged : (before files : List KeyFile) (were now : List ℕ) → AreIndices 0 were → highest were + 1 ≤ 999999999 → were ≡ indices_of before → now ≡ promoted_indices were
    → promoted before ≡ files → IsFree 0 files
may_be_staged before files were now rising small listed is same =
    subst (λ l. IsFree 0 l) same (staging_is_free (promoted before) (rises before now (promoted_of before were now rising small listed is)))

-- and the new key comes first
staged_shape : (new : Key) (files : List KeyFile) (indices : List ℕ) → Promoted files indices → staged_anew new files ≡ (0, key_text new) ∷ promoted files
staged_shape new files indices p = staged_first (key_text new) (promoted files) (rises files indices p)

pub staged_oldest : (new : Key) (before files : List KeyFile) (were now gone left : List ℕ) → AreIndices 0 were → highest were + 1 ≤ 999999999 → were ≡ indices_of before
    → now ≡ promoted_indices were → gone ++ left ≡ now → staged_anew new before ≡ files → AreOldest gone files
staged_oldest new before files were now gone left rising small listed is parts same =
    let p = promoted_of before were now rising small listed is in
    subst (λ l. AreOldest gone l) same (
      left,
      ap indices_of (staged_shape new before now p) ∙ ap (λ l. 0 ∷ l) (p.listed ∙ sym parts),
      subst (λ l. AreIndices 1 l) (sym parts) p.rising,
    )

-- how many go
pub gone_is_excess : (new : Key) (most : ℕ) (files : List KeyFile) (were now gone : List ℕ) → AreIndices 0 were → highest were + 1 ≤ 999999999 → were ≡ indices_of files
    → now ≡ promoted_indices were → 2 ≤ most → length gone ≡ length now - (most - 1) → length gone ≡ excess most (staged_anew new files)
gone_is_excess new most files were now gone rising small listed is least many =
    let p = promoted_of files were now rising small listed is in
    omega (arith, many, least, ap length (staged_shape new files now p), ap length p.listed, length-map (promoted files) (λ (f : KeyFile). f.0))

-- a rotation that stopped while the oldest went
stopped : (new : Key) (most : ℕ) (files : List KeyFile) (now : Option (List KeyFile)) (fault : KeysFault) → IsCallFault fault → IsRotating new most files now
    → RotatesFiles new most files now (Err fault)
stopped new most files now Failed cause left = left
stopped new most files now Memory cause left = left
stopped new most files now NoKeys cause left = absurd cause
stopped new most files now (BadKey index) cause left = absurd cause
stopped new most files now TooMany cause left = absurd cause
stopped new most files now AlreadySet cause left = absurd cause
stopped new most files now IndexEnd cause left = absurd cause

removing : (new : Key) (most n : ℕ) (files : List KeyFile) (now : Option (List KeyFile)) → rotation_fault (indices_of files) ≡ None → n ≡ excess most (staged_anew new files)
    → (now ≡ Some (staged_anew new files)) ⊎ IsOneOf (removals n (staged_anew new files)) now → IsRotating new most files now
removing new most n files now none many (inl same) = inr (none, inr (inl same))
removing new most n files now none many (inr left) = inr (none, inr (inr (subst (λ m. IsOneOf (removals m (staged_anew new files)) now) many left)))

pub removing_stopped : (new : Key) (most n : ℕ) (files : List KeyFile) (now : Option (List KeyFile)) (fault : KeysFault) → rotation_fault (indices_of files) ≡ None
    → n ≡ excess most (staged_anew new files) → IsCallFault fault → (now ≡ Some (staged_anew new files)) ⊎ IsOneOf (removals n (staged_anew new files)) now
    → RotatesFiles new most files now (Err fault)
removing_stopped new most n files now fault none many cause left = stopped new most files now fault cause (removing new most n files now none many left)

-- or for want of memory behind all
pub answer_lost : (new : Key) (most n : ℕ) (files : List KeyFile) (now : Option (List KeyFile)) (fault : KeysFault) → rotation_fault (indices_of files) ≡ None
    → n ≡ excess most (staged_anew new files) → fault ≡ Memory → now ≡ Some (removed n (staged_anew new files)) → RotatesFiles new most files now (Err fault)
answer_lost new most n files now fault none many memory is =
    rw memory (removing new most n files now none many (left_by n n (staged_anew new files) now (omega arith) is))

-- the indices that are left
pub left_is : (new : Key) (most : ℕ) (files : List KeyFile) (were now gone left answer : List ℕ) → AreIndices 0 were → highest were + 1 ≤ 999999999 → were ≡ indices_of files
    → now ≡ promoted_indices were → length gone ≡ excess most (staged_anew new files) → length gone ≤ length now → left ≡ drop (length gone) now → answer ≡ 0 ∷ left
    → answer ≡ indices_of (rotated new most files)
left_is new most files were now gone left answer rising small listed is many few behind made =
    let p = promoted_of files were now rising small listed is in
    let n : ℕ = length gone in
    let within : n ≤ length (promoted files) = omega (arith, few, ap length p.listed, length-map (promoted files) (λ (f : KeyFile). f.0)) in
    let all : indices_of (removed n (staged_anew new files)) ≡ 0 ∷ left =
    ap (λ l. indices_of (removed n l)) (staged_shape new files now p)
    ∙ ap indices_of (removed_is n (key_text new) (promoted files) (rises files now p) within)
    ∙ ap (λ l. 0 ∷ l) (indices_dropped n (promoted files) ∙ ap (drop n) p.listed ∙ sym behind) in
    made ∙ sym all ∙ ap (λ m. indices_of (removed m (staged_anew new files))) many

pub are_rotated : (most n : ℕ) (were now left answer : List ℕ) → AreIndices 0 were → highest were + 1 ≤ 999999999 → now ≡ promoted_indices were
    → left ≡ drop n now → length left + 1 ≤ most → answer ≡ 0 ∷ left → AreRotated most answer
are_rotated most n were now left answer rising small is behind few made =
    let from_one : AreIndices 1 now = subst (λ l. AreIndices 1 l) (sym is) (promoted_rises were rising small) in
    rw made (refl, subst (λ l. AreIndices 1 l) (sym behind) (dropped_rises 1 n now from_one), few)

-- a list and its two parts
pub parts_are : (lent items front back : List ℕ) (n : ℕ) → lent ≡ items → front ≡ take n lent → back ≡ drop n lent → front ++ back ≡ items
parts_are lent items front back n same first second = rw (first, second) (take-append-drop n lent ∙ same)
