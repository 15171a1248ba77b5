-- What a setup and a rotation leave, as a whole and on the way.
use Rattle.std.proofs.Common.{◌≡◌, ◌⊎◌, ℕ, zero, suc, ◌+◌, ◌-◌, ◌<◌, ◌≤◌, List, [], ◌∷◌, ◌++◌, length, drop, Some, None, Ok, refl, sym, ap, subst, ◌∙◌, arith, eq-eqb, ne_eqb, inl, inr}
use Rattle.std.proofs.lemmas.Bool.{cases_eq, cases_order}
use Rattle.std.proofs.lemmas.List.{drop-drop}
use Rattle.ks_base.specs.declared.key.Key.{Key}
use Rattle.ks_base.specs.declared.faults.KeysFault.TheVariants.{IndexEnd}
use Rattle.ks_fernet.specs.KeyText.{IsKeyText}
use Rattle.ks_outside.specs.Files.{AreIndices, KeyFile, content_at, indices_of, without}
use Rattle.ks_outside.proofs.FileLemmas.{all_above, AllAbove}
use Rattle.ks_keyfiles.specs.Folders.{folder_of, key_in_file, keys_in}
use Rattle.ks_keyfiles.specs.Laws.{IsKey, MayRotate, newest}
use Rattle.ks_keyfiles.specs.Rotations.{IsRotating, excess, highest, oldest, promoted, removals, removed, rotated, rotation_fault, staged_anew}
use Rattle.ks_keyfiles.specs.Setups.{IsOneOf, key_text, set_up}
use Rattle.ks_keyfiles.proofs.IndexLemmas.{promoted_rises, dropped_rises}
use Rattle.ks_keyfiles.proofs.KeyFileLemmas.{file_is_read}
use Rattle.ks_keyfiles.proofs.PromotionLemmas.{none_stands, promoted_listed, staged_first, staged_promoted}
use Rattle.ks_keyfiles.proofs.RemovalLemmas.{indices_dropped, none_removed, removed_is}

-- a setup

text_is_read : (key : Key) → IsKey key → key_in_file (key_text key) ≡ Some key
text_is_read key is =
    let text : IsKeyText (key_text key) key =
    record { spelled = inl refl; signing_long = is.0; encryption_long = is.1; signing_bytes = is.2; encryption_bytes = is.3 } in
    file_is_read (key_text key) key (key_text key, text, inl refl)

pub set_up_read : (staged primary : Key) → IsKey staged → IsKey primary → folder_of (set_up staged primary) ≡ Ok ((0, staged) ∷ (1, primary) ∷ [])
unfolding folder_of keys_in
set_up_read staged primary first second = rw (text_is_read staged first, text_is_read primary second) refl

-- the indices of a folder that is rotated

highest_small : (low : ℕ) (indices : List ℕ) → AreIndices low indices → highest indices ≤ 999999999
highest_small low [] rising = omega arith
highest_small low (index ∷ indices) rising =
    let rest = highest_small (index + 1) indices rising.2 in
    omega (arith, rest, rising.1)

not_at_end : (indices : List ℕ) → rotation_fault indices ≡ None → highest indices ≡ 999999999 → ⊥
not_at_end [] none end = omega (arith, end)
not_at_end (index ∷ indices) none end =
    let some = ne_eqb (length (index ∷ indices)) 0 (λ e. omega (arith, e)) in
    let yes = eq-eqb (highest (index ∷ indices)) 999999999 end in
    let fault : rotation_fault (index ∷ indices) ≡ Some IndexEnd = rw (some, yes) refl in
    cc (sym none ∙ fault)

next_small : (indices : List ℕ) → AreIndices 0 indices → rotation_fault indices ≡ None → highest indices + 1 ≤ 999999999
next_small indices rising none =
    let small = highest_small 0 indices rising in
    let other = not_at_end indices none in
    omega (arith, small, other)

-- the others behind the staged one
rises : (files : List KeyFile) → AreIndices 0 (indices_of files) → rotation_fault (indices_of files) ≡ None → AreIndices 1 (indices_of (promoted files))
rises files rising none =
    subst (λ l. AreIndices 1 l) (sym (promoted_listed files rising)) (promoted_rises (indices_of files) rising (next_small (indices_of files) rising none))

staged_is : (new : Key) (most : ℕ) (files : List KeyFile) → MayRotate most files → staged_anew new files ≡ (0, key_text new) ∷ promoted files
staged_is new most files may = staged_first (key_text new) (promoted files) (rises files may.1 may.2)

-- a rotation as a whole
pub leaves_newest : (new : Key) (most : ℕ) (files : List KeyFile) → MayRotate most files → rotated new most files ≡ (0, key_text new) ∷ newest (most - 1) (promoted files)
leaves_newest new most files may =
    let others = promoted files in
    let staged = staged_is new most files may in
    let count : excess most (staged_anew new files) ≡ length others - (most - 1) = omega (arith, ap length staged, may.0) in
    ap (λ n. removed n (staged_anew new files)) count
    ∙ ap (removed (length others - (most - 1))) staged
    ∙ removed_is (length others - (most - 1)) (key_text new) others (rises files may.1 may.2) (omega arith)

-- what stands in the rest of a folder stands in the whole
behind_first : (file : KeyFile) (files : List KeyFile) (index : ℕ) (content : List ℕ) → (file.0 ≡ index → ⊥) → content_at index files ≡ Some content
    → content_at index (file ∷ files) ≡ Some content
behind_first file files index content other stands = let no = ne_eqb file.0 index other in rw no stands

in_rest : (file : KeyFile) (files : List KeyFile) (index : ℕ) (content : List ℕ) → (file.0 ≡ index → ⊥) → content_at index (file ∷ files) ≡ Some content
    → content_at index files ≡ Some content
in_rest file files index content other stands = let no = ne_eqb file.0 index other in rw no at stands

first_is_other : (file : KeyFile) (files : List KeyFile) (index : ℕ) (content : List ℕ) → AreIndices (file.0 + 1) (indices_of files) → content_at index files ≡ Some content
    → file.0 ≡ index → ⊥
first_is_other file files index content rising stands same =
    let r : AllAbove index files = all_above index (file.0 + 1) files (omega (arith, same)) rising in
    cc (sym r.content ∙ stands)

dropped_stands : (low k : ℕ) (files : List KeyFile) (index : ℕ) (content : List ℕ) → AreIndices low (indices_of files) → content_at index (drop k files) ≡ Some content
    → content_at index files ≡ Some content
dropped_stands low zero files index content rising stands = stands
dropped_stands low (suc k) [] index content rising stands = stands
dropped_stands low (suc k) (file ∷ files) index content rising stands =
    let rest = dropped_stands (file.0 + 1) k files index content rising.2 stands in
    behind_first file files index content (first_is_other file files index content rising.2 rest) rest

-- what stands in a promoted folder stood before it

at_end_or_before : (files : List KeyFile) (last : KeyFile) (index : ℕ) (content : List ℕ) → content_at index (files ++ last ∷ []) ≡ Some content
    → (content_at index files ≡ Some content) ⊎ (last.1 ≡ content)
at_end_or_before [] last index content stands = elim (cases_eq last.0 index) [
  | inl same ↦ let yes = eq-eqb last.0 index same in inr (cc (rw yes at stands))
  | inr other ↦ let no = ne_eqb last.0 index other in let none : None ≡ Some content = rw no at stands in absurd (cc none)
]
at_end_or_before (file ∷ files) last index content stands = elim (cases_eq file.0 index) [
  | inl same ↦ let yes = eq-eqb file.0 index same in inl (rw yes (rw yes at stands))
  | inr other ↦ elim (at_end_or_before files last index content (in_rest file (files ++ last ∷ []) index content other stands)) [
    | inl before ↦ inl (behind_first file files index content other before)
    | inr end ↦ inr end
  ]
]

stood : (files : List KeyFile) (index : ℕ) (content : List ℕ) → AreIndices 0 (indices_of files) → 0 < index → content_at index (promoted files) ≡ Some content
    → (at : ℕ) × (content_at at files ≡ Some content)
stood [] index content rising behind stands = (index, stands)
stood (file ∷ files) index content rising behind stands = elim (cases_order file.0 0) [
  | inl same ↦
      let from_one : AreIndices 1 (indices_of files) = subst (λ i. AreIndices (i + 1) (indices_of files)) same rising.2 in
      let made : promoted (file ∷ files) ≡ files ++ (highest (indices_of files) + 1, file.1) ∷ [] =
      ap (λ i. promoted ((i, file.1) ∷ files)) same ∙ staged_promoted file.1 files from_one in
      let yes = eq-eqb file.0 0 same in
      elim (at_end_or_before files (highest (indices_of files) + 1, file.1) index content (ap (content_at index) (sym made) ∙ stands)) [
        | inl before ↦ (index, behind_first file files index content (λ e. omega (arith, e, same, behind)) before)
        | inr end ↦ (0, rw (yes, end) refl)
      ]
  | inr (inl under) ↦ absurd (omega (arith, under))
  | inr (inr over) ↦
      let kept = none_stands (file ∷ files) (indices_of (file ∷ files)) file.0 rising refl refl (λ e. omega (arith, e, over)) in
      (index, ap (content_at index) (sym kept) ∙ stands)
]

-- each folder on the way

one_of : (n : ℕ) (files now : List KeyFile) → IsOneOf (removals n files) (Some now) → (k : ℕ) × (k ≤ n) × (now ≡ removed k files)
unfolding removals removed
one_of zero files now one = absurd one
one_of (suc n) files now (inl is) = (1, omega arith, cc is)
one_of (suc n) files now (inr one) =
    let rest = one_of n (without (oldest files) files) now one in
    (suc rest.0, omega (arith, rest.1), rest.2)

drop_further : (k n : ℕ) (files : List KeyFile) → k ≤ n → drop n files ≡ drop (n - k) (drop k files)
drop_further k n files le =
    let parts : n ≡ k + (n - k) = omega (arith, le) in
    ap (λ m. drop m files) parts ∙ sym (drop-drop (n - k) k files)

on_the_way : (new : Key) (most k : ℕ) (files : List KeyFile) (index : ℕ) (content : List ℕ) → MayRotate most files → k ≤ length (promoted files) - (most - 1) → 0 < index
    → content_at index (drop (length (promoted files) - (most - 1)) (promoted files)) ≡ Some content
    → content_at index (removed k (staged_anew new files)) ≡ Some content
on_the_way new most k files index content may few behind stands =
    let others = promoted files in
    let n : ℕ = length others - (most - 1) in
    let rising = rises files may.1 may.2 in
    let later : AreIndices 1 (indices_of (drop k others)) = subst (λ l. AreIndices 1 l) (sym (indices_dropped k others)) (dropped_rises 1 k (indices_of others) rising) in
    let shape : removed k (staged_anew new files) ≡ (0, key_text new) ∷ drop k others =
    ap (removed k) (staged_is new most files may) ∙ removed_is k (key_text new) others rising (omega (arith, few)) in
    let rest = dropped_stands 1 (n - k) (drop k others) index content later (ap (content_at index) (sym (drop_further k n others few)) ∙ stands) in
    ap (content_at index) shape ∙ behind_first (0, key_text new) (drop k others) index content (λ e. omega (arith, e, behind)) rest

pub loses_no_key : (new : Key) (most : ℕ) (files now : List KeyFile) → MayRotate most files → IsRotating new most files (Some now) →
    (index : ℕ) (content : List ℕ) → 0 < index → content_at index (rotated new most files) ≡ Some content → (at : ℕ) × (content_at at now ≡ Some content)
loses_no_key new most files now may rotating index content behind stands =
    let others = promoted files in
    let n : ℕ = length others - (most - 1) in
    let kept : content_at index (drop n others) ≡ Some content =
    in_rest (0, key_text new) (drop n others) index content (λ e. omega (arith, e, behind)) (ap (content_at index) (sym (leaves_newest new most files may)) ∙ stands) in
    let here : content_at index others ≡ Some content = dropped_stands 1 n others index content (rises files may.1 may.2) kept in
    elim rotating [
      | inl same ↦
          let found = stood files index content may.1 behind here in
          let is : now ≡ files = cc same in
          (found.0, ap (content_at found.0) is ∙ found.1)
      | inr way ↦ elim way.1 [
        | inl is ↦ let same : now ≡ others = cc is in (index, ap (content_at index) same ∙ here)
        | inr later ↦ elim later [
          | inl is ↦
              let same : now ≡ staged_anew new files = cc is in
              (index, ap (content_at index) (same ∙ sym (none_removed (staged_anew new files))) ∙ on_the_way new most 0 files index content may (omega arith) behind kept)
          | inr one ↦
              let found = one_of (excess most (staged_anew new files)) (staged_anew new files) now one in
              let few : found.0 ≤ n = omega (arith, found.1, ap length (staged_is new most files may), may.0) in
              (index, ap (content_at index) found.2 ∙ on_the_way new most found.0 files index content may few behind kept)
        ]
      ]
    ]
