-- The keys that are read so far, and those that are still to come.
use Rattle.std.proofs.Common.{◌≡◌, ℕ, suc, ◌+◌, ◌<◌, ◌≤◌, List, [], ◌∷◌, ◌++◌, length, take, drop, get_or, map, refl, sym, ap, subst, ◌∙◌, arith, add-one, append_assoc, ◌≢◌, eq-eqb, ne_eqb, lt-ltb, le-ltb, Some, None, Result, Ok, Err}
use Rattle.std.proofs.Math.Seq.{drop-cons}
use Rattle.std.proofs.lemmas.List.{drop_all, append-nil, length-map, get_or-map, map-append, take_more}
use Rattle.std.specs.Option.{option_and_then}
use Rattle.ks_base.specs.declared.faults.KeysFault.{KeysFault}
use Rattle.ks_base.specs.declared.faults.KeysFault.TheVariants.{BadKey, NoKeys, TooMany}
use Rattle.ks_base.specs.declared.key.Key.{Key}
use Rattle.ks_outside.specs.Files.{KeyFile, AreIndices, indices_of}
use Rattle.ks_keyfiles.specs.Folders.{key_in_file, keys_in, with_key, folder_of}
use Rattle.ks_keyfiles.specs.Readings.{key_at}
use Rattle.ks_keyfiles.proofs.FileLemmas.{content_here}

-- these keys, and behind them those that are still to be read
abbrev pub onto : List (ℕ × Key) → Result (List (ℕ × Key)) KeysFault → Result (List (ℕ × Key)) KeysFault
onto made (Ok keys) = Ok (made ++ keys)
onto made (Err fault) = Err fault

pub onto_none : (rest : Result (List (ℕ × Key)) KeysFault) → onto [] rest ≡ rest
onto_none (Ok keys) = refl
onto_none (Err fault) = refl

onto_one : (made : List (ℕ × Key)) (index : ℕ) (key : Key) (rest : Result (List (ℕ × Key)) KeysFault) →
    onto made (with_key index (Some key) rest) ≡ onto (made ++ (index, key) ∷ []) rest
onto_one made index key (Ok keys) = ap Ok (sym (append_assoc made ((index, key) ∷ []) keys))
onto_one made index key (Err fault) = refl

keys_more : (file : KeyFile) (files : List KeyFile) → keys_in (file ∷ files) ≡ with_key file.0 (key_in_file file.1) (keys_in files)
unfolding keys_in
keys_more file files = refl

pub keys_none : keys_in [] ≡ Ok []
unfolding keys_in
keys_none = refl

next_keys_of : (files : List KeyFile) (k : ℕ) → AreIndices 0 (indices_of files) → k < length files →
    keys_in (drop k files) ≡ with_key (get_or (indices_of files) k 0) (key_at (get_or (indices_of files) k 0) files) (keys_in (drop (k + 1) files))
next_keys_of files k rising within =
    let d : KeyFile = (0, []) in
    let at : get_or (indices_of files) k 0 ≡ (get_or files k d).0 = get_or-map (λ (f : KeyFile). f.0) files k d 0 within in
    let here : key_at (get_or files k d).0 files ≡ key_in_file (get_or files k d).1 =
    ap (option_and_then key_in_file) (content_here 0 k files d rising within) in
    ap keys_in (drop-cons files k d within) ∙ keys_more (get_or files k d) (drop (suc k) files)
    ∙ rw (add-one, at, here) refl

-- the files that are left begin with the one of this index
next_keys : (indices : List ℕ) (files : List KeyFile) (k : ℕ) → AreIndices 0 indices → indices ≡ indices_of files → k < length indices →
    keys_in (drop k files) ≡ with_key (get_or indices k 0) (key_at (get_or indices k 0) files) (keys_in (drop (k + 1) files))
next_keys indices files k rising listed within =
    let inside : k < length files = omega (arith, within, ap length listed, length-map files (λ (f : KeyFile). f.0)) in
    rw listed (next_keys_of files k (subst (λ l. AreIndices 0 l) listed rising) inside)

-- one key more
pub read_more : (indices : List ℕ) (files : List KeyFile) (made : List (ℕ × Key)) (k : ℕ) (key : Key) → AreIndices 0 indices → indices ≡ indices_of files →
    k < length indices → Some key ≡ key_at (get_or indices k 0) files → onto made (keys_in (drop k files)) ≡ keys_in files →
    onto (made ++ (get_or indices k 0, key) ∷ []) (keys_in (drop (k + 1) files)) ≡ keys_in files
read_more indices files made k key rising listed within found so_far =
    let index : ℕ = get_or indices k 0 in
    let rest = keys_in (drop (k + 1) files) in
    sym (onto_one made index key rest)
    ∙ ap (λ r. onto made r) (ap (λ o. with_key index o rest) found ∙ sym (next_keys indices files k rising listed within))
    ∙ so_far

-- the next file is no key
pub read_bad : (indices : List ℕ) (files : List KeyFile) (made : List (ℕ × Key)) (k : ℕ) → AreIndices 0 indices → indices ≡ indices_of files →
    k < length indices → None ≡ key_at (get_or indices k 0) files → onto made (keys_in (drop k files)) ≡ keys_in files →
    keys_in files ≡ Err (BadKey (get_or indices k 0))
read_bad indices files made k rising listed within none so_far =
    let index : ℕ = get_or indices k 0 in
    let rest = keys_in (drop (k + 1) files) in
    sym so_far ∙ ap (λ r. onto made r) (next_keys indices files k rising listed within ∙ ap (λ o. with_key index o rest) (sym none))

-- no file is left
pub read_all : (indices : List ℕ) (files : List KeyFile) (made : List (ℕ × Key)) (k : ℕ) → indices ≡ indices_of files →
    length indices ≤ k → onto made (keys_in (drop k files)) ≡ keys_in files → keys_in files ≡ Ok made
read_all indices files made k listed end so_far =
    let past : length files ≤ k = omega (arith, end, ap length listed, length-map files (λ (f : KeyFile). f.0)) in
    sym so_far ∙ ap (λ l. onto made (keys_in l)) (drop_all k files past) ∙ ap (λ r. onto made r) keys_none ∙ ap Ok (append-nil made)

-- the index of one key more
pub indices_more : (indices : List ℕ) (made : List (ℕ × Key)) (k : ℕ) (key : Key) → k < length indices → map (λ entry. entry.0) made ≡ take k indices →
    map (λ entry. entry.0) (made ++ (get_or indices k 0, key) ∷ []) ≡ take (k + 1) indices
indices_more indices made k key within read = map-append (λ (entry : ℕ × Key). entry.0) made _ ∙ rw (read, take_more indices k 0 within) refl

-- a folder with no file
pub folder_empty : (files : List KeyFile) → length (indices_of files) ≡ 0 → folder_of files ≡ Err NoKeys
unfolding folder_of
folder_empty files none =
    let yes = eq-eqb (length files) 0 (sym (length-map files (λ (f : KeyFile). f.0)) ∙ none) in
    rw yes refl

-- a folder with too many
pub folder_full : (files : List KeyFile) → 32 < length (indices_of files) → folder_of files ≡ Err TooMany
unfolding folder_of
folder_full files many =
    let over : 32 < length files = omega (arith, length-map files (λ (f : KeyFile). f.0)) in
    let no = ne_eqb (length files) 0 (λ e. omega (arith, e, over)) in
    let yes = lt-ltb 32 (length files) over in
    rw (no, yes) refl

-- any other folder is read file by file
pub folder_read : (files : List KeyFile) → length (indices_of files) ≢ 0 → length (indices_of files) ≤ 32 → folder_of files ≡ keys_in files
unfolding folder_of
folder_read files some few =
    let same = length-map files (λ (f : KeyFile). f.0) in
    let no = ne_eqb (length files) 0 (λ e. some (same ∙ e)) in
    let under = le-ltb 32 (length files) (omega (arith, same)) in
    rw (no, under) refl
