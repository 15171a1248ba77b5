-- The content of a file, and the key in it.
use Rattle.std.proofs.Common.{◌≡◌, ℕ, zero, suc, ◌+◌, ◌<◌, ◌≤◌, List, [], ◌∷◌, length, get_or, refl, arith, eq-eqb, ne_eqb, Option, Some, None, inl, inr}
use Rattle.std.proofs.lemmas.Bool.{le-leb, lt-leb, cases_order}
use Rattle.std.specs.Option.{option_and_then}
use Rattle.ks_outside.specs.Files.{KeyFile, AreIndices, indices_of, content_at, short_content, Gives}
use Rattle.ks_fernet.specs.KeyText.{key_of}
use Rattle.ks_keyfiles.specs.Folders.{key_in_file, line_of}
use Rattle.ks_keyfiles.specs.Readings.{key_at}

-- a file behind the first has an index from the next on
above : (low k : ℕ) (files : List KeyFile) (d : KeyFile) → AreIndices low (indices_of files) → k < length files → low ≤ (get_or files k d).0
above low k [] d rising within = absurd (omega arith)
above low zero (file ∷ files) d rising within = rising.0
above low (suc k) (file ∷ files) d rising within =
    let next = above (file.0 + 1) k files d rising.2 (omega arith) in
    omega (arith, next, rising.0)

-- what stands under a file's index is its content
pub content_here : (low k : ℕ) (files : List KeyFile) (d : KeyFile) → AreIndices low (indices_of files) → k < length files →
    content_at (get_or files k d).0 files ≡ Some (get_or files k d).1
content_here low k [] d rising within = absurd (omega arith)
content_here low zero (file ∷ files) d rising within = let same = eq-eqb file.0 file.0 refl in rw same refl
content_here low (suc k) (file ∷ files) d rising within =
    let next = above (file.0 + 1) k files d rising.2 (omega arith) in
    let other = ne_eqb file.0 (get_or files k d).0 (λ e. omega (arith, e, next)) in
    rw other (content_here (file.0 + 1) k files d rising.2 (omega arith))

-- a content that is too long is no key
pub key_too_long : (content : List ℕ) → 64 < length content → key_in_file content ≡ None
unfolding key_in_file
key_too_long content long = let no = lt-leb (length content) 64 long in rw no refl

pub key_in_short : (content : List ℕ) → length content ≤ 64 → key_in_file content ≡ key_of (line_of content)
unfolding key_in_file
key_in_short content short = let yes = le-leb (length content) 64 short in rw yes refl

gives_none_of : (content : Option (List ℕ)) (into : List ℕ) → Gives (short_content content) into None →
    option_and_then key_in_file content ≡ None
gives_none_of None into gives = refl
gives_none_of (Some content) into gives = elim (cases_order (length content) 64) [
  | inl same ↦ let yes = le-leb (length content) 64 (omega (arith, same)) in let some = rw yes at gives in cc some.0
  | inr (inl under) ↦ let yes = le-leb (length content) 64 (omega (arith, under)) in let some = rw yes at gives in cc some.0
  | inr (inr over) ↦ key_too_long content over
]

-- where a read finds no short file there is no key
pub gives_none : (index : ℕ) (files : List KeyFile) (into : List ℕ) → Gives (short_content (content_at index files)) into None →
    key_at index files ≡ None
gives_none index files into gives = gives_none_of (content_at index files) into gives
