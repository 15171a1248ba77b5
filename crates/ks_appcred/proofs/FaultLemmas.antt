-- What is so where no cause refuses a new credential.
use Rattle.std.proofs.Common.{◌≡◌, [], ◌∷◌, Option, Some, None, is_some, refl}
use Rattle.ks_base.specs.AppCreds.{AppCredsState, add_cred_fault, cred_id_taken, cred_name_taken, cred_named, cred_of, creds_full}
use Rattle.ks_base.specs.Refusals.{fault_if, first_of}
use Rattle.ks_base.specs.declared.app_creds.AppCredRow.{AppCredRow}
use Rattle.ks_base.proofs.OptionLemmas.{none_mapped}

first_and_last : {F : Type 0} (a b c : Option F) → None ≡ first_of (a ∷ b ∷ c ∷ []) → (a ≡ None) × (c ≡ None)
first_and_last None None None none = (refl, refl)
first_and_last None None (Some fault) none = cc
first_and_last None (Some fault) c none = cc
first_and_last (Some fault) b c none = cc

none_if : {X F : Type 0} (found : Option X) (fault : F) → fault_if (is_some found) fault ≡ None → found ≡ None
none_if None fault none = refl
none_if (Some x) fault none = cc

causes : (creds : AppCredsState) (row : AppCredRow) → None ≡ add_cred_fault creds row → (cred_name_taken creds row ≡ None) × (cred_id_taken creds row.id ≡ None)
unfolding add_cred_fault
causes creds row none = first_and_last (cred_name_taken creds row) (creds_full creds) (cred_id_taken creds row.id) none

pub name_free : (creds : AppCredsState) (row : AppCredRow) → None ≡ add_cred_fault creds row → cred_named row.user row.name creds ≡ None
name_free creds row none = none_mapped _ (cred_named row.user row.name creds) (causes creds row none).0

pub id_free : (creds : AppCredsState) (row : AppCredRow) → None ≡ add_cred_fault creds row → cred_of row.id creds ≡ None
id_free creds row none = none_if (cred_of row.id creds) _ (causes creds row none).1
