-- The oldest files of a folder go, one after the other.
use Rattle.std.proofs.Common.{◌≡◌, ◌⊎◌, ℕ, zero, suc, ◌+◌, ◌<◌, ◌≤◌, List, [], ◌∷◌, ◌++◌, length, drop, get_or, Option, Some, refl, sym, ap, subst, ◌∙◌, arith, add-one, lt-ltb, le-ltb, eq-eqb, ne_eqb, inl, inr}
use Rattle.std.proofs.Math.Seq.{drop-cons}
use Rattle.std.proofs.lemmas.List.{length-append, length-map, get_or-map, get_or_append_left}
use Rattle.ks_outside.specs.Files.{AreIndices, KeyFile, Stands, indices_of, without}
use Rattle.ks_outside.proofs.FileLemmas.{all_above, AllAbove}
use Rattle.ks_keyfiles.specs.Rotations.{oldest, removals, removed}
use Rattle.ks_keyfiles.specs.Setups.{IsOneOf}
use Rattle.ks_keyfiles.specs.steps.Removals.{AreOldest}
use Rattle.ks_keyfiles.proofs.IndexLemmas.{dropped_rises}

pub none_removed : (files : List KeyFile) → removed 0 files ≡ files
unfolding removed
none_removed files = refl

-- one removal more is one behind the others
pub removed_more : (k : ℕ) (files : List KeyFile) → removed (suc k) files ≡ without (oldest (removed k files)) (removed k files)
unfolding removed
removed_more zero files = refl
removed_more (suc k) files = removed_more k (without (oldest files) files)

-- each of them is told
pub one_removed : (n k : ℕ) (files : List KeyFile) → k < n → IsOneOf (removals n files) (Some (removed (suc k) files))
unfolding removed removals
one_removed zero k files under = absurd (omega arith)
one_removed (suc n) zero files under = inl refl
one_removed (suc n) (suc k) files under = inr (one_removed n k (without (oldest files) files) (omega (arith, under)))

pub left_by : (n k : ℕ) (files : List KeyFile) (now : Option (List KeyFile)) → k ≤ n → now ≡ Some (removed k files) → (now ≡ Some files) ⊎ IsOneOf (removals n files) now
left_by n zero files now under is = inl (is ∙ ap Some (none_removed files))
left_by n (suc k) files now under is = inr (subst (λ o. IsOneOf (removals n files) o) (sym is) (one_removed n k files (omega (arith, under))))

-- the first file behind the staged one is the oldest
oldest_is : (staged : List ℕ) (file : KeyFile) (files : List KeyFile) → 0 < file.0 → oldest ((0, staged) ∷ file ∷ files) ≡ file.0
oldest_is staged file files over = let t = lt-ltb 0 file.0 over in rw t refl

without_oldest : (staged : List ℕ) (file : KeyFile) (files : List KeyFile) → AreIndices 1 (indices_of (file ∷ files)) →
    without (oldest ((0, staged) ∷ file ∷ files)) ((0, staged) ∷ file ∷ files) ≡ (0, staged) ∷ files
without_oldest staged file files rising =
    let over : 0 < file.0 = omega (arith, rising.0) in
    let r : AllAbove file.0 files = all_above file.0 (file.0 + 1) files (omega arith) rising.2 in
    let t1 = lt-ltb 0 file.0 over in
    let t2 = le-ltb file.0 file.0 (omega arith) in
    let t3 = le-ltb file.0 0 (omega arith) in
    ap (λ i. without i ((0, staged) ∷ file ∷ files)) (oldest_is staged file files over) ∙ rw (t1, t2, t3, r.below, r.above) refl

-- what is left behind so many removals
pub removed_is : (n : ℕ) (staged : List ℕ) (files : List KeyFile) → AreIndices 1 (indices_of files) → n ≤ length files →
    removed n ((0, staged) ∷ files) ≡ (0, staged) ∷ drop n files
unfolding removed
removed_is zero staged files rising few = refl
removed_is (suc n) staged [] rising few = absurd (omega arith)
removed_is (suc n) staged (file ∷ files) rising few =
    ap (removed n) (without_oldest staged file files rising)
    ∙ removed_is n staged files (dropped_rises 1 1 (indices_of (file ∷ files)) rising) (omega (arith, few))

pub indices_dropped : (k : ℕ) (files : List KeyFile) → indices_of (drop k files) ≡ drop k (indices_of files)
indices_dropped zero files = refl
indices_dropped (suc k) [] = refl
indices_dropped (suc k) (file ∷ files) = indices_dropped k files

-- the next file to go
record IsNext (index : ℕ) (files : List KeyFile) : Type 0 where
  is : oldest files ≡ index
  stands : Stands index files

next_of : (staged : List ℕ) (files : List KeyFile) (k : ℕ) (d : KeyFile) → AreIndices 1 (indices_of files) → k < length files →
    IsNext (get_or files k d).0 ((0, staged) ∷ drop k files)
next_of staged files k d rising within =
    let file : KeyFile = get_or files k d in
    let split = drop-cons files k d within in
    let rises : AreIndices 1 (indices_of (file ∷ drop (suc k) files)) = subst (λ l. AreIndices 1 l) (sym (indices_dropped k files) ∙ ap indices_of split) (dropped_rises 1 k (indices_of files) rising) in
    let over : 0 < file.0 = omega (arith, rises.0) in
    let t1 = ne_eqb 0 file.0 (λ e. omega (arith, e, over)) in
    let t2 = eq-eqb file.0 file.0 refl in
    record {
      is = ap (λ l. oldest ((0, staged) ∷ l)) split ∙ oldest_is staged file (drop (suc k) files) over;
      stands = subst (λ l. Stands file.0 ((0, staged) ∷ l)) (sym split) (file.1, rw (t1, t2) refl);
    }

next_to_go : (gone : List ℕ) (files : List KeyFile) (k : ℕ) → AreOldest gone files → k < length gone → IsNext (get_or gone k 0) (removed k files)
next_to_go gone [] k old within = absurd (omega (arith, ap length old.1))
next_to_go gone (file ∷ files) k old within =
    let first : file.0 ≡ 0 = cc old.1 in
    let others : indices_of files ≡ gone ++ old.0 = cc old.1 in
    let rising : AreIndices 1 (indices_of files) = subst (λ l. AreIndices 1 l) (sym others) old.2 in
    let d : KeyFile = (0, []) in
    let few : k < length files = omega (arith, within, ap length others, length-append gone old.0, length-map files (λ (f : KeyFile). f.0)) in
    let shape : removed k (file ∷ files) ≡ (0, file.1) ∷ drop k files =
    ap (λ i. removed k ((i, file.1) ∷ files)) first ∙ removed_is k file.1 files rising (omega (arith, few)) in
    let at : get_or gone k 0 ≡ (get_or files k d).0 =
    sym (get_or_append_left gone old.0 0 k within) ∙ ap (λ l. get_or l k 0) (sym others) ∙ get_or-map (λ (f : KeyFile). f.0) files k d 0 few in
    rw (at, shape) (next_of file.1 files k d rising few)

-- the next one stands, and where it goes one more is removed
pub next_stands : (gone : List ℕ) (files : List KeyFile) (k : ℕ) → AreOldest gone files → k < length gone → Stands (get_or gone k 0) (removed k files)
next_stands gone files k old within = (next_to_go gone files k old within).stands

pub next_removed : (gone : List ℕ) (files : List KeyFile) (k : ℕ) → AreOldest gone files → k < length gone →
    without (get_or gone k 0) (removed k files) ≡ removed (k + 1) files
next_removed gone files k old within =
    rw (add-one, removed_more) (ap (λ i. without i (removed k files)) (sym (next_to_go gone files k old within).is))

-- what a removal leaves that failed
pub stopped_at : (gone : List ℕ) (files : List KeyFile) (k : ℕ) (now : Option (List KeyFile)) → AreOldest gone files → k < length gone →
    (now ≡ Some (removed k files)) ⊎ (now ≡ Some (without (get_or gone k 0) (removed k files))) → (now ≡ Some files) ⊎ IsOneOf (removals (length gone) files) now
stopped_at gone files k now old within (inl same) = left_by (length gone) k files now (omega (arith, within)) same
stopped_at gone files k now old within (inr made) =
    left_by (length gone) (k + 1) files now (omega (arith, within)) (made ∙ ap Some (next_removed gone files k old within))
