-- How rows are derived with salts, one after the other.
use Rattle.std.proofs.Common.{◌≡◌, ℕ, suc, ◌+◌, ◌*◌, ◌<◌, Bool, true, false, List, [], ◌∷◌, ◌++◌, length, take, drop, Option, Some, None, refl, sym, ap, subst, ◌∙◌, arith, append_assoc, append-nil, length-append}
use Rattle.std.specs.Prelude.{cond, count_by, if◌then◌else◌}
use Rattle.std.specs.List.{concat}
use Rattle.std.proofs.lemmas.List.Recursion.{is_count_by}
use Rattle.ks_base.specs.declared.users.UserRow.{UserRow}
use Rattle.ks_base.proofs.ListLemmas.{take_front, drop_front}
use Rattle.ks_written.specs.declared.written.WrittenPassword.{WrittenPassword}
use Rattle.ks_written.specs.declared.written.WrittenPassword.TheVariants.{Plain, Record}
use Rattle.ks_written.specs.declared.written.WrittenUser.{WrittenUser}
use Rattle.ks_setup.specs.Openings.{is_plain, password_row, passwords, user_row, users_from}
use Rattle.ks_setup.specs.Steps.{Leaves}

one_more : (plain : Bool) (others : ℕ) → (if plain then suc others else others) ≡ cond plain (1 + others) others
one_more true others = omega arith
one_more false others = refl

pub passwords_counted : (users : List WrittenUser) → passwords users ≡ count_by (λ user. is_plain user.password) users
passwords_counted users = is_count_by passwords (λ user. is_plain user.password) refl (λ user others. one_more (is_plain user.password) (passwords others)) users

-- one salt

pub first_salt : (salt : List ℕ) (salts left : List (List ℕ)) → length salt ≡ 16 → salts ≡ salt ∷ left → take 16 (concat salts) ≡ salt
first_salt salt salts left long is = ap (λ all. take 16 (concat all)) is ∙ take_front 16 salt (concat left) long

others_left : (password : Option WrittenPassword) (salts left : List (List ℕ)) → Leaves password salts left
    → (if is_plain password then drop 16 (concat salts) else concat salts) ≡ concat left
others_left None salts left h = ap concat (sym h)
others_left (Some (Record row)) salts left h = ap concat (sym h)
others_left (Some (Plain password)) salts left h = ap (λ all. drop 16 (concat all)) h.2 ∙ drop_front 16 h.0 (concat left) h.1

-- how many salts a password takes
abbrev salts_for : Bool → ℕ
salts_for plain = if plain then 1 else 0

count_left : (password : Option WrittenPassword) (salts left : List (List ℕ)) → Leaves password salts left
    → length salts ≡ salts_for (is_plain password) + length left
count_left None salts left h = omega (arith, ap length h)
count_left (Some (Record row)) salts left h = omega (arith, ap length h)
count_left (Some (Plain password)) salts left h = omega (arith, ap length h.2)

bytes_left : (password : Option WrittenPassword) (salts left : List (List ℕ)) → Leaves password salts left
    → length (concat salts) ≡ 16 * salts_for (is_plain password) + length (concat left)
bytes_left None salts left h = omega (arith, ap (λ all. length (concat all)) h)
bytes_left (Some (Record row)) salts left h = omega (arith, ap (λ all. length (concat all)) h)
bytes_left (Some (Plain password)) salts left h =
    let first : length (concat salts) ≡ length h.0 + length (concat left) =
    ap (λ all. length (concat all)) h.2 ∙ length-append h.0 (concat left) in
    omega (arith, first, h.1)

-- rows that were derived with the first of the salts, the users to whom it has not come yet, and the salts that are left
pub record Deriving (rounds : ℕ) (users rest : List WrittenUser) (rows : List UserRow) (salts left : List (List ℕ)) : Type 0 where
  pub counted : length left ≡ passwords rest
  pub whole : length (concat salts) + 16 * passwords rest ≡ 16 * passwords users + length (concat left)
  pub so_far : rows ++ users_from rounds rest (concat left) ≡ users_from rounds users (concat salts)

pub deriving_none : (rounds : ℕ) (users : List WrittenUser) (salts : List (List ℕ)) → length salts ≡ passwords users
    → Deriving rounds users users [] salts salts
deriving_none rounds users salts as_many = record { counted = as_many; whole = omega arith; so_far = refl }

plain_more : (plain : Bool) (others : ℕ) → (if plain then suc others else others) ≡ salts_for plain + others
plain_more true others = omega arith
plain_more false others = omega arith

passwords_more : (user : WrittenUser) (users : List WrittenUser) → passwords (user ∷ users) ≡ salts_for (is_plain user.password) + passwords users
passwords_more user users = plain_more (is_plain user.password) (passwords users)

-- where a password is plain, a salt is left for it
pub deriving_given : (rounds : ℕ) (users rest others : List WrittenUser) (user : WrittenUser) (rows : List UserRow) (salts left : List (List ℕ))
    → rest ≡ user ∷ others → Deriving rounds users rest rows salts left → is_plain user.password ≡ true → 0 < length left
deriving_given rounds users rest others user rows salts left is h plain =
    let one : salts_for (is_plain user.password) ≡ 1 = ap salts_for plain in
    let all : passwords rest ≡ salts_for (is_plain user.password) + passwords others = ap passwords is ∙ passwords_more user others in
    omega (arith, h.counted, all, one)

users_more : (rounds : ℕ) (user : WrittenUser) (users : List WrittenUser) (salts left : List (List ℕ)) → Leaves user.password salts left
    → users_from rounds (user ∷ users) (concat salts)
    ≡ user_row user (password_row rounds user.password (take 16 (concat salts))) ∷ users_from rounds users (concat left)
unfolding users_from
users_more rounds user users salts left h =
    ap (λ drawn. user_row user (password_row rounds user.password (take 16 (concat salts))) ∷ users_from rounds users drawn)
    (others_left user.password salts left h)

pub deriving_more : (rounds : ℕ) (users rest others : List WrittenUser) (user : WrittenUser) (rows : List UserRow) (row : UserRow)
    (salts mid left : List (List ℕ)) → rest ≡ user ∷ others → Deriving rounds users rest rows salts mid
    → row ≡ user_row user (password_row rounds user.password (take 16 (concat mid))) → Leaves user.password mid left
    → Deriving rounds users others (rows ++ row ∷ []) salts left
deriving_more rounds users rest others user rows row salts mid left is h row_is leaves =
    let all : passwords rest ≡ salts_for (is_plain user.password) + passwords others = ap passwords is ∙ passwords_more user others in
    let count = count_left user.password mid left leaves in
    let bytes = bytes_left user.password mid left leaves in
    record {
      counted = omega (arith, h.counted, all, count);
      whole = omega (arith, h.whole, all, bytes);
      so_far =
          append_assoc rows (row ∷ []) (users_from rounds others (concat left))
          ∙ ap (λ first. rows ++ first ∷ users_from rounds others (concat left)) row_is
          ∙ ap (λ last. rows ++ last) (sym (users_more rounds user others mid left leaves))
          ∙ ap (λ coming. rows ++ users_from rounds coming (concat mid)) (sym is)
          ∙ h.so_far;
    }

none_left : {X : Type 0} (rest : List X) → length rest ≡ 0 → rest ≡ []
none_left [] h = refl
none_left (x ∷ rest) h = absurd (omega arith)

pub deriving_end : (rounds : ℕ) (users rest : List WrittenUser) (rows : List UserRow) (salts left : List (List ℕ)) → length rest ≡ 0
    → Deriving rounds users rest rows salts left
    → (rows ≡ users_from rounds users (concat salts)) × (length (concat salts) ≡ 16 * passwords users)
unfolding users_from
deriving_end rounds users rest rows salts left over h =
    let is : rest ≡ [] = none_left rest over in
    let no_more : passwords rest ≡ 0 = ap passwords is in
    let empty : left ≡ [] = none_left left (h.counted ∙ no_more) in
    let no_bytes : length (concat left) ≡ 0 = ap (λ all. length (concat all)) empty in
    let rows_are : rows ++ [] ≡ users_from rounds users (concat salts) =
    ap (λ coming. rows ++ users_from rounds coming (concat left)) (sym is) ∙ h.so_far in
    (sym (append-nil rows) ∙ rows_are, omega (arith, h.whole, no_more, no_bytes))
