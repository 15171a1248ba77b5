-- The spellings of changes and of entries of the journal.
use Rattle.std.specs.Prelude.{ℕ, List, [], ◌∷◌, refl}
use Rattle.ks_machine.specs.declared.change.Change.{Change}
use Rattle.ks_machine.specs.declared.change.Change.TheVariants as changes
use Rattle.ks_machine.specs.declared.change.Entry.{Entry}
use Rattle.ks_spelling.specs.Codes.{Code, IsSpelling}
use Rattle.ks_spelling.specs.Leaves.{fixed, number32, number64}
use Rattle.ks_spelling.specs.Wholes.{both, made, listed}
use Rattle.ks_spelling.specs.Variants.{Variant, Part, variant, part, there, InPlace, IsThere, one_of}
use Rattle.ks_spelling.specs.Values.{id_code}
use Rattle.ks_spelling.specs.Rows.{app_cred_code, mfa_code, secret_code, domain_code, project_code, user_code, group_code, role_code, trust_code, member_code, imply_code, grant_code, key_code, region_code, service_code, endpoint_code}

-- | the place of each variant of a change, and what it holds; the variants by their places; a change as bytes
abbrev pub change_parts : Change → Part Change
change_parts (changes.PutDomain x) = part 0 domain_code changes.PutDomain x
change_parts (changes.PutProject x) = part 1 project_code changes.PutProject x
change_parts (changes.PutUser x) = part 2 user_code changes.PutUser x
change_parts (changes.PutGroup x) = part 3 group_code changes.PutGroup x
change_parts (changes.PutRole x) = part 4 role_code changes.PutRole x
change_parts (changes.PutTrust x) = part 5 trust_code changes.PutTrust x
change_parts (changes.DropDomain x) = part 6 id_code changes.DropDomain x
change_parts (changes.DropProject x) = part 7 id_code changes.DropProject x
change_parts (changes.DropUser x) = part 8 id_code changes.DropUser x
change_parts (changes.DropGroup x) = part 9 id_code changes.DropGroup x
change_parts (changes.DropRole x) = part 10 id_code changes.DropRole x
change_parts (changes.DropTrust x) = part 11 id_code changes.DropTrust x
change_parts (changes.Join x) = part 12 member_code changes.Join x
change_parts (changes.Leave x) = part 13 member_code changes.Leave x
change_parts (changes.Imply x) = part 14 imply_code changes.Imply x
change_parts (changes.Unimply x) = part 15 imply_code changes.Unimply x
change_parts (changes.Grant x) = part 16 grant_code changes.Grant x
change_parts (changes.Ungrant x) = part 17 grant_code changes.Ungrant x
change_parts (changes.UseTrust x) = part 18 id_code changes.UseTrust x
change_parts (changes.RevokeToken x) = part 19 (fixed 16) changes.RevokeToken x
change_parts (changes.Rotate x) = part 20 key_code changes.Rotate x
change_parts (changes.Load x) = part 21 (listed number32 (both number32 key_code)) changes.Load x
change_parts (changes.PutRegion x) = part 22 region_code changes.PutRegion x
change_parts (changes.PutService x) = part 23 service_code changes.PutService x
change_parts (changes.PutEndpoint x) = part 24 endpoint_code changes.PutEndpoint x
change_parts (changes.DropRegion x) = part 25 id_code changes.DropRegion x
change_parts (changes.DropService x) = part 26 id_code changes.DropService x
change_parts (changes.DropEndpoint x) = part 27 id_code changes.DropEndpoint x
change_parts (changes.PutAppCred x) = part 28 app_cred_code changes.PutAppCred x
change_parts (changes.DropAppCred x) = part 29 id_code changes.DropAppCred x
change_parts (changes.PutSecret x) = part 30 secret_code changes.PutSecret x
change_parts (changes.DropSecret x) = part 31 id_code changes.DropSecret x
change_parts (changes.PutUserWith x y) = part 32 (both user_code mfa_code) (λ p. changes.PutUserWith p.0 p.1) (x, y)

abbrev pub change_table : List (Variant Change)
change_table =
    variant domain_code changes.PutDomain
    ∷ variant project_code changes.PutProject
    ∷ variant user_code changes.PutUser
    ∷ variant group_code changes.PutGroup
    ∷ variant role_code changes.PutRole
    ∷ variant trust_code changes.PutTrust
    ∷ variant id_code changes.DropDomain
    ∷ variant id_code changes.DropProject
    ∷ variant id_code changes.DropUser
    ∷ variant id_code changes.DropGroup
    ∷ variant id_code changes.DropRole
    ∷ variant id_code changes.DropTrust
    ∷ variant member_code changes.Join
    ∷ variant member_code changes.Leave
    ∷ variant imply_code changes.Imply
    ∷ variant imply_code changes.Unimply
    ∷ variant grant_code changes.Grant
    ∷ variant grant_code changes.Ungrant
    ∷ variant id_code changes.UseTrust
    ∷ variant (fixed 16) changes.RevokeToken
    ∷ variant key_code changes.Rotate
    ∷ variant (listed number32 (both number32 key_code)) changes.Load
    ∷ variant region_code changes.PutRegion
    ∷ variant service_code changes.PutService
    ∷ variant endpoint_code changes.PutEndpoint
    ∷ variant id_code changes.DropRegion
    ∷ variant id_code changes.DropService
    ∷ variant id_code changes.DropEndpoint
    ∷ variant app_cred_code changes.PutAppCred
    ∷ variant id_code changes.DropAppCred
    ∷ variant secret_code changes.PutSecret
    ∷ variant id_code changes.DropSecret
    ∷ variant (both user_code mfa_code) (λ p. changes.PutUserWith p.0 p.1)
    ∷ []

pub change_in_place : InPlace change_parts change_table 0
change_in_place =
    (λ x. refl, (λ x. refl, (λ x. refl, (λ x. refl, (λ x. refl, (λ x. refl, (λ x. refl, (λ x. refl, (λ x. refl, (λ x. refl, (λ x. refl, (λ x. refl, (λ x. refl, (λ x. refl, (λ x. refl, (λ x. refl, (λ x. refl, (λ x. refl, (λ x. refl, (λ x. refl, (λ x. refl, (λ x. refl, (λ x. refl, (λ x. refl, (λ x. refl, (λ x. refl, (λ x. refl, (λ x. refl, (λ x. refl, (λ x. refl, (λ x. refl, (λ x. refl, (λ x. refl, tt)))))))))))))))))))))))))))))))))

pub change_there : (x : Change) → IsThere change_table x (change_parts x)
change_there (changes.PutDomain x) rest fits = there 0 domain_code changes.PutDomain x rest fits
change_there (changes.PutProject x) rest fits = there 1 project_code changes.PutProject x rest fits
change_there (changes.PutUser x) rest fits = there 2 user_code changes.PutUser x rest fits
change_there (changes.PutGroup x) rest fits = there 3 group_code changes.PutGroup x rest fits
change_there (changes.PutRole x) rest fits = there 4 role_code changes.PutRole x rest fits
change_there (changes.PutTrust x) rest fits = there 5 trust_code changes.PutTrust x rest fits
change_there (changes.DropDomain x) rest fits = there 6 id_code changes.DropDomain x rest fits
change_there (changes.DropProject x) rest fits = there 7 id_code changes.DropProject x rest fits
change_there (changes.DropUser x) rest fits = there 8 id_code changes.DropUser x rest fits
change_there (changes.DropGroup x) rest fits = there 9 id_code changes.DropGroup x rest fits
change_there (changes.DropRole x) rest fits = there 10 id_code changes.DropRole x rest fits
change_there (changes.DropTrust x) rest fits = there 11 id_code changes.DropTrust x rest fits
change_there (changes.Join x) rest fits = there 12 member_code changes.Join x rest fits
change_there (changes.Leave x) rest fits = there 13 member_code changes.Leave x rest fits
change_there (changes.Imply x) rest fits = there 14 imply_code changes.Imply x rest fits
change_there (changes.Unimply x) rest fits = there 15 imply_code changes.Unimply x rest fits
change_there (changes.Grant x) rest fits = there 16 grant_code changes.Grant x rest fits
change_there (changes.Ungrant x) rest fits = there 17 grant_code changes.Ungrant x rest fits
change_there (changes.UseTrust x) rest fits = there 18 id_code changes.UseTrust x rest fits
change_there (changes.RevokeToken x) rest fits = there 19 (fixed 16) changes.RevokeToken x rest fits
change_there (changes.Rotate x) rest fits = there 20 key_code changes.Rotate x rest fits
change_there (changes.Load x) rest fits = there 21 (listed number32 (both number32 key_code)) changes.Load x rest fits
change_there (changes.PutRegion x) rest fits = there 22 region_code changes.PutRegion x rest fits
change_there (changes.PutService x) rest fits = there 23 service_code changes.PutService x rest fits
change_there (changes.PutEndpoint x) rest fits = there 24 endpoint_code changes.PutEndpoint x rest fits
change_there (changes.DropRegion x) rest fits = there 25 id_code changes.DropRegion x rest fits
change_there (changes.DropService x) rest fits = there 26 id_code changes.DropService x rest fits
change_there (changes.DropEndpoint x) rest fits = there 27 id_code changes.DropEndpoint x rest fits
change_there (changes.PutAppCred x) rest fits = there 28 app_cred_code changes.PutAppCred x rest fits
change_there (changes.DropAppCred x) rest fits = there 29 id_code changes.DropAppCred x rest fits
change_there (changes.PutSecret x) rest fits = there 30 secret_code changes.PutSecret x rest fits
change_there (changes.DropSecret x) rest fits = there 31 id_code changes.DropSecret x rest fits
change_there (changes.PutUserWith x y) rest fits = there 32 (both user_code mfa_code) (λ p. changes.PutUserWith p.0 p.1) (x, y) rest fits

unfoldable pub change_code : Code Change
change_code = one_of change_parts change_table change_in_place change_there

-- | an entry: its number and its moment in 8 bytes each, and its change
unfoldable pub entry_code : Code Entry
entry_code = made (both number64 (both number64 change_code)) (record {
  make = λ p. record { number = p.0; moment = p.1.0; change = p.1.1 };
  of = λ entry. (entry.number, (entry.moment, entry.change));
  of_made = λ p. refl;
  made_of = λ entry. refl;
})

-- the bytes are the spelling of the entry
abbrev pub IsEntry : List ℕ → Entry → Type 0
IsEntry bytes entry = IsSpelling entry_code bytes entry
