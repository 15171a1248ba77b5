-- The text of a key, and the folders that writes leave.
use Rattle.std.proofs.Common.{◌≡◌, ◌⊎◌, inl, inr, ℕ, ◌≤◌, List, [], ◌∷◌, length, drop, append-nil, Option, Some, None, Result, Ok, Err, IfErr, refl, sym, ap, ◌∙◌, arith}
use Rattle.std.proofs.Math.ListN.{drop_of_length-le}
use Rattle.base64.specs.Engines.{url_safe}
use Rattle.base64.specs.GeneralPurpose.{IsEncodedOver, encode_of, encoded_size_of}
use Rattle.base64.specs.declared.encode.EncodeSliceError.{EncodeSliceError}
use Rattle.ks_base.specs.declared.faults.KeysFault.{KeysFault}
use Rattle.ks_base.specs.declared.faults.KeysFault.TheVariants.{Failed, NoKeys, BadKey, TooMany, AlreadySet, IndexEnd, Memory}
use Rattle.ks_base.specs.declared.key.Key.{Key}
use Rattle.ks_fernet.specs.Base64Url.{padded_text}
use Rattle.ks_outside.specs.Files.{KeyFile, Changes, IsFree, indices_of, with_file}
use Rattle.ks_keyfiles.specs.Readings.{IsCallFault}
use Rattle.ks_keyfiles.specs.Setups.{IsSettingUp, SetsUpFiles, begun, key_text, setup_fault}

padded_is : (bytes : List ℕ) → encode_of url_safe bytes ≡ padded_text bytes
unfolding padded_text
padded_is bytes = refl

size_is : (bytes : List ℕ) → length bytes ≡ 32 → encoded_size_of url_safe (length bytes) ≡ 44
size_is bytes long = rw long refl

-- 32 bytes fill 44 characters
pub written_key : (bytes old new : List ℕ) → length bytes ≡ 32 → length old ≡ 44 → IsEncodedOver url_safe bytes old new → new ≡ padded_text bytes
written_key bytes old new long room written =
    let none : drop (encoded_size_of url_safe (length bytes)) old ≡ [] = rw (size_is bytes long) (drop_of_length-le old {i = 44} (omega (arith, room))) in
    written ∙ (rw none (append-nil (encode_of url_safe bytes))) ∙ padded_is bytes

-- and have room there
pub fits_key : (r : Result ℕ EncodeSliceError) (bytes old : List ℕ) (e : EncodeSliceError) → length bytes ≡ 32 → length old ≡ 44
    → (encoded_size_of url_safe (length bytes) ≤ length old → r ≡ Ok (encoded_size_of url_safe (length bytes))) → r ≡ Err e → ⊥
fits_key r bytes old e long room fits is =
    let ok = fits (omega (arith, size_is bytes long, room)) in
    cc

-- what a folder that tells its files told before
pub told_before : (before now : Option (List KeyFile)) → (before ≡ None → now ≡ None) → (files : List KeyFile) → now ≡ Some files
    → (were : List KeyFile) × (before ≡ Some were)
told_before None now untold files told = absurd (cc (sym (untold refl) ∙ told))
told_before (Some were) now untold files told = (were, refl)

-- a folder that lists nothing is empty

pub nothing_listed : (indices : List ℕ) (files : List KeyFile) → length indices ≡ 0 → indices ≡ indices_of files → files ≡ []
nothing_listed indices [] none listed = refl
nothing_listed indices (file ∷ files) none listed = absurd (omega (arith, ap length listed, none))

pub something_listed : (indices : List ℕ) (files : List KeyFile) → (length indices ≡ 0 → ⊥) → indices ≡ indices_of files → setup_fault files ≡ Some AlreadySet
something_listed indices [] some listed = absurd (some (ap length listed))
something_listed indices (file ∷ files) some listed = refl

-- the writes of a setup

pub first_is_free : (files : List KeyFile) → files ≡ [] → IsFree 1 files
first_is_free files none = rw none (omega arith, refl)

pub second_is_free : (primary : Key) (were files : List KeyFile) (now : Option (List KeyFile)) → were ≡ [] → now ≡ Some (with_file 1 (key_text primary) were)
    → now ≡ Some files → IsFree 0 files
second_is_free primary were files now none made told =
    let is : files ≡ begun primary = cc (sym told ∙ made ∙ ap (λ l. Some (with_file 1 (key_text primary) l)) none) in
    rw is (omega arith, refl)

-- what failed in the middle leaves the folder as after one of the steps

stopped : (staged primary : Key) (files : List KeyFile) (now : Option (List KeyFile)) (fault : KeysFault) → IsCallFault fault
    → IsSettingUp staged primary files now → SetsUpFiles staged primary files now (Err fault)
stopped staged primary files now Failed cause left = left
stopped staged primary files now Memory cause left = left
stopped staged primary files now NoKeys cause left = absurd cause
stopped staged primary files now (BadKey index) cause left = absurd cause
stopped staged primary files now TooMany cause left = absurd cause
stopped staged primary files now AlreadySet cause left = absurd cause
stopped staged primary files now IndexEnd cause left = absurd cause

pub first_failed : (staged primary : Key) (files : List KeyFile) (now : Option (List KeyFile)) (fault : KeysFault) → files ≡ [] → IsCallFault fault
    → (now ≡ Some files) ⊎ (now ≡ Some (with_file 1 (key_text primary) files)) → SetsUpFiles staged primary files now (Err fault)
first_failed staged primary [] now fault none cause (inl same) = stopped staged primary [] now fault cause (inl same)
first_failed staged primary [] now fault none cause (inr made) = stopped staged primary [] now fault cause (inr (refl, inl made))
first_failed staged primary (file ∷ files) now fault none cause changes = cc

pub second_done : (staged primary : Key) (files : List KeyFile) (now : Option (List KeyFile)) (r : Result (Unit {0}) KeysFault) → files ≡ []
    → IfErr r IsCallFault → Changes (with_file 1 (key_text primary) files) (with_file 0 (key_text staged) (with_file 1 (key_text primary) files)) now r
    → SetsUpFiles staged primary files now r
second_done staged primary [] now (Ok done) none cause changes = (refl, changes)
second_done staged primary [] now (Err fault) none cause (inl same) = stopped staged primary [] now fault cause (inr (refl, inl same))
second_done staged primary [] now (Err fault) none cause (inr made) = stopped staged primary [] now fault cause (inr (refl, inr (inl made)))
second_done staged primary (file ∷ files) now r none cause changes = cc
