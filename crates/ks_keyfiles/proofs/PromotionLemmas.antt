-- The files of a folder after its staged key was promoted, and the new one staged.
use Rattle.std.proofs.Common.{◌≡◌, ◌⊎◌, ℕ, ◌+◌, ◌<◌, ◌≤◌, List, [], ◌∷◌, ◌++◌, length, get_or, Option, Some, None, refl, sym, ap, subst, ◌∙◌, arith, eq-eqb, ne_eqb, lt-ltb, le-ltb, inl, inr}
use Rattle.std.proofs.lemmas.Bool.{cases_order}
use Rattle.std.proofs.lemmas.List.{map-append}
use Rattle.ks_outside.specs.Files.{AreIndices, IsFree, KeyFile, Stands, content_at, files_above, files_below, indices_of, with_file, without}
use Rattle.ks_outside.proofs.FileLemmas.{all_above, AllAbove}
use Rattle.ks_keyfiles.specs.Rotations.{highest, promoted, promoted_by}
use Rattle.ks_keyfiles.specs.steps.Removals.{promoted_indices}

-- every file is below the index
record AllBelow (index : ℕ) (files : List KeyFile) : Type 0 where
  below : files_below index files ≡ files
  above : files_above index files ≡ []
  content : content_at index files ≡ None

all_below : (index : ℕ) (files : List KeyFile) → highest (indices_of files) < index → AllBelow index files
all_below index [] under = record { below = refl; above = refl; content = refl }
all_below index (file ∷ files) under =
    let r : AllBelow index files = all_below index files (omega (arith, under)) in
    let below : file.0 < index = omega (arith, under) in
    let t1 = lt-ltb file.0 index below in
    let t2 = le-ltb index file.0 (omega arith) in
    let t3 = ne_eqb file.0 index (λ e. omega (arith, e)) in
    record {
      below = rw (t1, r.below) refl;
      above = rw (t2, r.above) refl;
      content = rw (t3, r.content) refl;
    }

-- a folder whose first file is staged
pub staged_promoted : (content : List ℕ) (files : List KeyFile) → AreIndices 1 (indices_of files) →
    promoted ((0, content) ∷ files) ≡ files ++ (highest (indices_of files) + 1, content) ∷ []
staged_promoted content files rising =
    let r : AllAbove 0 files = all_above 0 1 files (omega arith) rising in
    let next : ℕ = highest (indices_of files) + 1 in
    let b : AllBelow next files = all_below next files (omega arith) in
    let top : highest (indices_of ((0, content) ∷ files)) ≡ highest (indices_of files) = omega arith in
    let rest : without 0 ((0, content) ∷ files) ≡ files = rw (r.below, r.above) refl in
    ap (λ i. with_file (i + 1) content (without 0 ((0, content) ∷ files))) top
    ∙ ap (λ l. with_file next content l) rest
    ∙ rw (b.below, b.above) refl

-- a folder where none is
none_staged : (file : KeyFile) (files : List KeyFile) → 0 < file.0 → AreIndices 0 (indices_of (file ∷ files)) → content_at 0 (file ∷ files) ≡ None
none_staged file files over rising = (all_above 0 1 (file ∷ files) (omega arith) (omega (arith, over), rising.1, rising.2)).content

pub promoted_listed : (files : List KeyFile) → AreIndices 0 (indices_of files) → indices_of (promoted files) ≡ promoted_indices (indices_of files)
promoted_listed [] rising = refl
promoted_listed (file ∷ files) rising = elim (cases_order file.0 0) [
  | inl same ↦
      let from_one : AreIndices 1 (indices_of files) = subst (λ i. AreIndices (i + 1) (indices_of files)) same rising.2 in
      subst (λ i. indices_of (promoted ((i, file.1) ∷ files)) ≡ promoted_indices (i ∷ indices_of files)) (sym same)
      (ap indices_of (staged_promoted file.1 files from_one) ∙ map-append (λ (f : KeyFile). f.0) files ((highest (indices_of files) + 1, file.1) ∷ []))
  | inr (inl under) ↦ absurd (omega (arith, under))
  | inr (inr over) ↦
      let no = ne_eqb file.0 0 (λ e. omega (arith, e, over)) in
      let same : promoted_indices (indices_of (file ∷ files)) ≡ indices_of (file ∷ files) = rw no refl in
      ap (λ o. indices_of (promoted_by o (file ∷ files))) (none_staged file files over rising) ∙ sym same
]

-- what stands under 0 is the first file
pub staged_stands : (files : List KeyFile) (indices : List ℕ) (first : ℕ) → indices ≡ indices_of files → 0 < length indices → first ≡ get_or indices 0 first → first ≡ 0
    → Stands 0 files
staged_stands [] indices first listed some is same = absurd (omega (arith, some, ap length listed))
staged_stands (file ∷ files) indices first listed some is same =
    let yes = eq-eqb file.0 0 (sym (is ∙ ap (λ l. get_or l 0 first) listed) ∙ same) in
    (file.1, rw yes refl)

pub none_stands : (files : List KeyFile) (indices : List ℕ) (first : ℕ) → AreIndices 0 indices → indices ≡ indices_of files → first ≡ get_or indices 0 first
    → (first ≡ 0 → ⊥) → promoted files ≡ files
none_stands [] indices first rising listed is other = refl
none_stands (file ∷ files) indices first rising listed is other =
    let here : first ≡ file.0 = is ∙ ap (λ l. get_or l 0 first) listed in
    let over : 0 < file.0 = omega (arith, other, here) in
    rw (none_staged file files over (subst (λ l. AreIndices 0 l) listed rising)) refl

-- the index next to the highest is free
pub next_is_free : (files : List KeyFile) (indices : List ℕ) (next : ℕ) → indices ≡ indices_of files → next ≡ highest indices + 1 → next ≤ 999999999 → IsFree next files
next_is_free files indices next listed is small =
    (small, (all_below next files (omega (arith, is, ap highest listed))).content)

-- the step of a promotion
promotes : (files : List KeyFile) (indices : List ℕ) (next : ℕ) (content : List ℕ) → indices ≡ indices_of files → next ≡ highest indices + 1 → content_at 0 files ≡ Some content
    → with_file next content (without 0 files) ≡ promoted files
promotes files indices next content listed is stands = rw (stands, is, listed) refl

pub is_promoted : (files : List KeyFile) (indices : List ℕ) (next : ℕ) (content : List ℕ) (now : Option (List KeyFile)) → indices ≡ indices_of files
    → next ≡ highest indices + 1 → content_at 0 files ≡ Some content → now ≡ Some (with_file next content (without 0 files)) → now ≡ Some (promoted files)
is_promoted files indices next content now listed is stands made = made ∙ ap Some (promotes files indices next content listed is stands)

pub may_be_promoted : (files : List KeyFile) (indices : List ℕ) (next : ℕ) (content : List ℕ) (now : Option (List KeyFile)) → indices ≡ indices_of files
    → next ≡ highest indices + 1 → content_at 0 files ≡ Some content → (now ≡ Some files) ⊎ (now ≡ Some (with_file next content (without 0 files)))
    → (now ≡ Some files) ⊎ (now ≡ Some (promoted files))
may_be_promoted files indices next content now listed is stands (inl same) = inl same
may_be_promoted files indices next content now listed is stands (inr made) = inr (is_promoted files indices next content now listed is stands made)

-- the new key is staged in front of all
pub staging_is_free : (files : List KeyFile) → AreIndices 1 (indices_of files) → IsFree 0 files
staging_is_free files rising = (omega arith, (all_above 0 1 files (omega arith) rising).content)

pub staged_first : (text : List ℕ) (files : List KeyFile) → AreIndices 1 (indices_of files) → with_file 0 text files ≡ (0, text) ∷ files
staged_first text files rising =
    let r : AllAbove 0 files = all_above 0 1 files (omega arith) rising in
    rw (r.below, r.above) refl
