-- What is read of a body is in range.
use Rattle.std.proofs.Common.{◌≡◌, ℕ, ◌≤◌, Bool, true, false, List, [], length, Option, Some, None, Ok, Err, refl, arith}
use Rattle.std.specs.Prelude.{Result, IfOk, IfSome, codes, if◌then◌else◌, is_some, not, option_and_then, unwrap_or, ◌&&◌, ◌-◌, ◌^◌}
use Rattle.std.specs.Int.{IsInRange, is_in_range}
use Rattle.std.specs.List.{AllByRecursion}
use Rattle.std.specs.Str.{bytes_eq}
use Rattle.serde_json.specs.Data.{Data, Items}
use Rattle.serde_json.specs.Find.{as_number, as_object, as_u64}
use Rattle.ks_base.specs.declared.limits.TheConstants.{DESCRIPTION_BYTES, NAME_BYTES, PASSWORD_BYTES, TRUST_ROLES, USES}
use Rattle.ks_base.specs.declared.shapes.ShapeFault.{ShapeFault}
use Rattle.ks_base.specs.declared.shapes.ShapeFault.TheVariants as fault
use Rattle.ks_base.specs.Rows.{Id, Text}
use Rattle.ks_base.specs.Results.{◌>>=◌, found, need}
use Rattle.ks_machine.specs.declared.bodies.AppCredBody.{AppCredBody}
use Rattle.ks_machine.specs.declared.bodies.LoginBody.{LoginBody}
use Rattle.ks_machine.specs.declared.bodies.Made.{Made}
use Rattle.ks_machine.specs.declared.bodies.MfaIn.{MfaIn}
use Rattle.ks_machine.specs.declared.bodies.Named.{Named}
use Rattle.ks_machine.specs.declared.bodies.ScopeIn.TheVariants as scope
use Rattle.ks_machine.specs.declared.bodies.SecretBody.{SecretBody}
use Rattle.ks_machine.specs.declared.bodies.UserNamed.{UserNamed}
use Rattle.ks_machine.specs.declared.row_kind.MadeKind.{MadeKind}
use Rattle.ks_machine.specs.declared.row_kind.MadeKind.TheVariants as kind
use Rattle.ks_machine.specs.Fit.{IsAppCredBody, IsCredNamed, IsMadeName, IsNamed, IsProjectNamed, IsProof, IsScope, IsTrustBody, IsUserNamed}
use Rattle.ks_machine.specs.Ranges.{AreMfaRules, AreUses, IsCode, IsCredSecret, IsDescription, IsExpiry, IsName, IsPassable, IsPassword, IsTotpSecret}
use Rattle.ks_shape.specs.declared.form.BodyIn.{BodyIn}
use Rattle.ks_shape.specs.declared.form.Form.{Form}
use Rattle.ks_shape.specs.declared.form.Form.TheVariants as form
use Rattle.ks_shape.specs.declared.method.LoginMethod.{LoginMethod}
use Rattle.ks_shape.specs.declared.method.LoginMethod.TheVariants as method
use Rattle.ks_shape.specs.declared.misfit.Misfit.TheVariants as misfit
use Rattle.ks_shape.specs.declared.trust.Limits.{Limits}
use Rattle.ks_shape.specs.Bodies.{body_of, document, form_of, password_of, whole_document}
use Rattle.ks_shape.specs.Fields.{judged, needed, needed_if, optional, unless_null}
use Rattle.ks_shape.specs.Logins.{both_proof, code_part, code_proof, cred_proof, domain_scope, login_of, object_scope, password_part, password_proof, project_scope, proof_by, scope_at, scope_by, scope_from, system_scope, token_proof, trust_scope, unscoped_text}
use Rattle.ks_shape.specs.Names.{all_named, cred_at, cred_by, name_and_domain, name_and_user, named_at, named_by, own_id, own_name, project_at, project_by, user_at, user_by}
use Rattle.ks_shape.specs.Places.{Place, names, path_at, place_at}
use Rattle.ks_shape.specs.Ranges.{BodiesAreInRange, IsBodyFor, IsMadeFor}
use Rattle.ks_shape.specs.Rows.{domain_of, group_of, id_at, made_of, project_of, role_of, user_of}
use Rattle.ks_shape.specs.AppCreds.{app_cred_of, roles_from, roles_given}
use Rattle.ks_shape.specs.Factors.{factors_at}
use Rattle.ks_shape.specs.Methods.{login_methods}
use Rattle.ks_shape.specs.Secrets.{code_text, secret_of}
use Rattle.ks_shape.specs.Times.{time_of}
use Rattle.ks_shape.specs.Trusts.{limits_asked, limits_of, roles_at, trust_of}
use Rattle.ks_shape.specs.Types.{affirmation, any_text, count_of, cred_secret, description_text, falsehood, id_text, list_of, name_text, password_text, text_of, time_text, truth, whole}
use Rattle.ks_shape.proofs.FactorLemmas.{factors_in}
use Rattle.ks_shape.proofs.ListLemmas.{AreEach, each_in, list_in}
use Rattle.ks_shape.proofs.MomentLemmas.{last_moment}
use Rattle.ks_shape.proofs.PropertyLemmas.{If, judged_in, needed_in, optional_in, skip, step, weaken}
use Rattle.ks_shape.proofs.SecretLemmas.{code_is, secret_is}
use Rattle.ks_shape.proofs.TimeLemmas.{in_range_from, time_is}

-- fields

-- texts of so many bytes

text_by : (least most : ℕ) (text : List ℕ) (fits : Bool) → is_in_range least most (length text) ≡ fits
    → IfOk (need fits misfit.Range >>= (λ _. Ok text)) (λ t. IsInRange least most (length t))
text_by least most text true is = in_range_from least most (length text) is
text_by least most text false is = tt

pub text_in : (least most : ℕ) (value : Data) → IfOk (text_of least most value) (λ text. IsInRange least most (length text))
unfolding text_of
text_in least most value = skip (λ t. IsInRange least most (length t)) (any_text value) _ (λ text. text_by least most text _ refl)

pub name_in : (value : Data) → IfOk (name_text value) IsName
name_in value = text_in 1 NAME_BYTES value

password_in : (value : Data) → IfOk (password_text value) IsPassword
password_in value = text_in 1 PASSWORD_BYTES value

pub cred_secret_in : (value : Data) → IfOk (cred_secret value) IsCredSecret
cred_secret_in value = text_in 1 NAME_BYTES value

pub description_in : (value : Data) → IfOk (description_text value) IsDescription
description_in value =
    weaken IsDescription (λ text. IsInRange 0 DESCRIPTION_BYTES (length text)) (description_text value) (text_in 0 DESCRIPTION_BYTES value) (λ text is. is.1)

-- names

own_name_in : (place : Place) → IfOk (own_name place) IsName
own_name_in place = needed_in IsName name_text name_in (names (codes "name")) place

named_by_in : (id : Option Id) (place : Place) → IfOk (named_by id place) IsNamed
named_by_in (Some id) place = tt
named_by_in None place = step IsNamed IsName (own_name place) _ (own_name_in place) (λ name is. is)

named_in : (place : Place) → IfOk (named_at place) IsNamed
unfolding named_at
named_in place = skip IsNamed (own_id place) _ (λ id. named_by_in id place)

abbrev AreBoth : Text × Named → Type 0
AreBoth both = IsName both.0 × IsNamed both.1

both_in : (place : Place) → IfOk (name_and_domain place) AreBoth
unfolding name_and_domain
both_in place =
    step AreBoth IsName (own_name place) _ (own_name_in place) (λ name is_name.
    skip AreBoth (place_at (names (codes "domain")) place) _ (λ below.
    step AreBoth IsNamed (named_at below) _ (named_in below) (λ domain is_domain. (is_name, is_domain))))

user_by_in : (id : Option Id) (place : Place) → IfOk (user_by id place) IsUserNamed
user_by_in (Some id) place = tt
user_by_in None place = step IsUserNamed AreBoth (name_and_domain place) _ (both_in place) (λ both are. are)

user_in : (place : Place) → IfOk (user_at place) IsUserNamed
unfolding user_at
user_in place = skip IsUserNamed (own_id place) _ (λ id. user_by_in id place)

project_by_in : (id : Option Id) (place : Place) → IfOk (project_by id place) IsProjectNamed
project_by_in (Some id) place = tt
project_by_in None place = step IsProjectNamed AreBoth (name_and_domain place) _ (both_in place) (λ both are. are)

project_in : (place : Place) → IfOk (project_at place) IsProjectNamed
unfolding project_at
project_in place = skip IsProjectNamed (own_id place) _ (λ id. project_by_in id place)

abbrev AreNameAndUser : Text × UserNamed → Type 0
AreNameAndUser both = IsName both.0 × IsUserNamed both.1

name_and_user_in : (place : Place) → IfOk (name_and_user place) AreNameAndUser
unfolding name_and_user
name_and_user_in place =
    step AreNameAndUser IsName (own_name place) _ (own_name_in place) (λ name is_name.
    skip AreNameAndUser (place_at (names (codes "user")) place) _ (λ below.
    step AreNameAndUser IsUserNamed (user_at below) _ (user_in below) (λ user is_user. (is_name, is_user))))

cred_by_in : (id : Option Id) (place : Place) → IfOk (cred_by id place) IsCredNamed
cred_by_in (Some id) place = tt
cred_by_in None place = step IsCredNamed AreNameAndUser (name_and_user place) _ (name_and_user_in place) (λ both are. are)

cred_in : (place : Place) → IfOk (cred_at place) IsCredNamed
unfolding cred_at
cred_in place = skip IsCredNamed (own_id place) _ (λ id. cred_by_in id place)

-- logins

abbrev IsPasswordPart : UserNamed × Text → Type 0
IsPasswordPart part = IsUserNamed part.0 × IsPassword part.1

password_part_in : (body : Place) → IfOk (password_part body) IsPasswordPart
unfolding password_part
password_part_in body =
    skip IsPasswordPart (place_at (names (codes "auth.identity.password.user")) body) _ (λ user.
    step IsPasswordPart IsPassword (needed password_text (names (codes "password")) user) _ (needed_in IsPassword password_text password_in _ user) (λ password is_password.
    step IsPasswordPart IsUserNamed (user_at user) _ (user_in user) (λ named is_named. (is_named, is_password))))

abbrev IsCodePart : UserNamed × ℕ → Type 0
IsCodePart part = IsUserNamed part.0 × IsCode part.1

code_part_in : (body : Place) → IfOk (code_part body) IsCodePart
unfolding code_part
code_part_in body =
    skip IsCodePart (place_at (names (codes "auth.identity.totp.user")) body) _ (λ user.
    step IsCodePart IsCode (needed code_text (names (codes "passcode")) user) _ (needed_in IsCode code_text code_is _ user) (λ code is_code.
    step IsCodePart IsUserNamed (user_at user) _ (user_in user) (λ named is_named. (is_named, is_code))))

password_proof_in : (body : Place) → IfOk (password_proof body) IsProof
unfolding password_proof
password_proof_in body = step IsProof IsPasswordPart (password_part body) _ (password_part_in body) (λ part is. is)

code_proof_in : (body : Place) → IfOk (code_proof body) IsProof
unfolding code_proof
code_proof_in body = step IsProof IsCodePart (code_part body) _ (code_part_in body) (λ part is. is)

both_proof_in : (body : Place) → IfOk (both_proof body) IsProof
unfolding both_proof
both_proof_in body =
    step IsProof IsPasswordPart (password_part body) _ (password_part_in body) (λ password is_password.
    step IsProof IsCodePart (code_part body) _ (code_part_in body) (λ code is_code.
    (is_password.0, is_password.1, is_code.0, is_code.1)))

token_proof_in : (body : Place) → IfOk (token_proof body) IsProof
unfolding token_proof
token_proof_in body = skip IsProof (needed any_text (names (codes "auth.identity.token.id")) body) _ (λ token. tt {0})

cred_proof_in : (body : Place) → IfOk (cred_proof body) IsProof
unfolding cred_proof
cred_proof_in body =
    skip IsProof (place_at (names (codes "auth.identity.application_credential")) body) _ (λ below.
    step IsProof IsCredNamed (cred_at below) _ (cred_in below) (λ named is_named.
    step IsProof IsCredSecret (needed cred_secret (names (codes "secret")) below) _ (needed_in IsCredSecret cred_secret cred_secret_in _ below) (λ secret is_secret.
    (is_named, is_secret))))

proof_in : (method : LoginMethod) (body : Place) → IfOk (proof_by method body) IsProof
proof_in method.Password body = password_proof_in body
proof_in method.Totp body = code_proof_in body
proof_in method.Both body = both_proof_in body
proof_in method.Token body = token_proof_in body
proof_in method.AppCred body = cred_proof_in body

unscoped_by : (given : Bool) → IfOk (need given misfit.Range >>= (λ _. Ok scope.Unscoped)) IsScope
unscoped_by true = tt
unscoped_by false = tt

unscoped_in : (value : Data) → IfOk (unscoped_text value) IsScope
unfolding unscoped_text
unscoped_in value = skip IsScope (any_text value) _ (λ text. unscoped_by (bytes_eq text (codes "unscoped")))

domain_scope_in : (place : Place) → IfOk (domain_scope place) IsScope
unfolding domain_scope
domain_scope_in place =
    skip IsScope (place_at (names (codes "domain")) place) _ (λ below. step IsScope IsNamed (named_at below) _ (named_in below) (λ domain is. is))

project_scope_in : (place : Place) → IfOk (project_scope place) IsScope
unfolding project_scope
project_scope_in place =
    skip IsScope (place_at (names (codes "project")) place) _ (λ below. step IsScope IsProjectNamed (project_at below) _ (project_in below) (λ project is. is))

trust_scope_in : (place : Place) → IfOk (trust_scope place) IsScope
unfolding trust_scope
trust_scope_in place = skip IsScope (needed id_text (names (codes "OS-TRUST:trust.id")) place) _ (λ id. tt {0})

system_scope_in : (place : Place) → IfOk (system_scope place) IsScope
unfolding system_scope
system_scope_in place = skip IsScope (needed affirmation (names (codes "system.all")) place) _ (λ all. tt {0})

scope_by_in : (unscoped domain project system trust : Bool) (place : Place) → IfOk (scope_by unscoped domain project system trust place) IsScope
scope_by_in true false false false false place = tt
scope_by_in false true false false false place = domain_scope_in place
scope_by_in false false true false false place = project_scope_in place
scope_by_in false false false true false place = system_scope_in place
scope_by_in false false false false true place = trust_scope_in place
scope_by_in _ _ _ _ _ place = tt

object_scope_in : (value : Data) (place : Place) → IfOk (object_scope value place) IsScope
unfolding object_scope
object_scope_in value place = scope_by_in _ _ _ _ _ place

scope_value_in : (value : Data) (place : Place) (object : Bool)
    → IfOk (if object then object_scope value place else judged place.path (unscoped_text value)) IsScope
scope_value_in value place true = object_scope_in value place
scope_value_in value place false = judged_in IsScope place.path (unscoped_text value) (unscoped_in value)

scope_from_in : (value : Option Data) (place : Place) → IfOk (scope_from value place) IsScope
scope_from_in None place = tt
scope_from_in (Some value) place = scope_value_in value place (is_some (as_object value))

abbrev IsLogin : LoginBody → Type 0
IsLogin login = IsProof login.proof × IsScope login.scope

login_in : (body : Place) → IfOk (login_of body) IsLogin
unfolding login_of
login_in body =
    skip IsLogin (needed login_methods (names (codes "auth.identity.methods")) body) _ (λ method.
    step IsLogin IsProof (proof_by method body) _ (proof_in method body) (λ proof is_proof.
    skip IsLogin (place_at (names (codes "auth.scope")) body) _ (λ below.
    step IsLogin IsScope (scope_at below) _ (scope_from_in (unless_null below.value) below) (λ scope is_scope. (is_proof, is_scope)))))

-- rows

-- a new row has no id
abbrev IsIdFor : Bool → Option Id → Type 0
IsIdFor true id = id ≡ None
IsIdFor false id = Unit {0}

row_name_in : (new : Bool) (names : List (List ℕ)) (body : Place) → IfOk (needed_if new name_text names body) (IsMadeName new None)
row_name_in true names body = step (IsMadeName true None) IsName (needed name_text names body) _ (needed_in IsName name_text name_in names body) (λ name is. (refl, is))
row_name_in false names body = optional_in IsName name_text name_in names body

any_id : (r : Result (Option Id) ShapeFault) → IfOk r (IsIdFor false)
any_id (Ok id) = tt
any_id (Err fault) = tt

row_id_in : (new : Bool) (names : List (List ℕ)) (body : Place) → IfOk (id_at new names body) (IsIdFor new)
row_id_in true names body = refl
row_id_in false names body = any_id (optional id_text names body)

pub described : (names : List (List ℕ)) (body : Place) → IfOk (optional description_text names body) (If IsDescription)
described names body = optional_in IsDescription description_text description_in names body

made_name : (new : Bool) (id : Option Id) (name : Option Text) → IsMadeName new None name → IsIdFor new id → IsMadeName new id name
made_name true id (Some name) is none = (none, is.1)
made_name true id None is none = absurd is
made_name false id name is none = is

domain_row_in : (new : Bool) (body : Place) → IfOk (domain_of new body) (IsMadeFor kind.Domain new)
unfolding domain_of
domain_row_in new body =
    let Q : Made → Type 0 = IsMadeFor kind.Domain new in
    step Q (IsMadeName new None) (needed_if new name_text (names (codes "domain.name")) body) _ (row_name_in new _ body) (λ name is_name.
    step Q (If IsDescription) (optional description_text (names (codes "domain.description")) body) _ (described _ body) (λ description is_description.
    skip Q (optional truth (names (codes "domain.enabled")) body) _ (λ enabled.
    step Q (IsIdFor new) (id_at new (names (codes "domain.id")) body) _ (row_id_in new _ body) (λ id is_id.
    (refl, (made_name new id name is_name is_id, is_description))))))

project_row_in : (new : Bool) (body : Place) → IfOk (project_of new body) (IsMadeFor kind.Project new)
unfolding project_of
project_row_in new body =
    let Q : Made → Type 0 = IsMadeFor kind.Project new in
    step Q (IsMadeName new None) (needed_if new name_text (names (codes "project.name")) body) _ (row_name_in new _ body) (λ name is_name.
    skip Q (optional id_text (names (codes "project.domain_id")) body) _ (λ domain.
    skip Q (optional id_text (names (codes "project.parent_id")) body) _ (λ parent.
    step Q (If IsDescription) (optional description_text (names (codes "project.description")) body) _ (described _ body) (λ description is_description.
    skip Q (optional truth (names (codes "project.enabled")) body) _ (λ enabled.
    skip Q (optional falsehood (names (codes "project.is_domain")) body) _ (λ is_domain.
    step Q (IsIdFor new) (id_at new (names (codes "project.id")) body) _ (row_id_in new _ body) (λ id is_id.
    (refl, (made_name new id name is_name is_id, is_description)))))))))

user_row_in : (new : Bool) (body : Place) → IfOk (user_of new body) (IsMadeFor kind.User new)
unfolding user_of
user_row_in new body =
    let Q : Made → Type 0 = IsMadeFor kind.User new in
    step Q (IsMadeName new None) (needed_if new name_text (names (codes "user.name")) body) _ (row_name_in new _ body) (λ name is_name.
    skip Q (optional id_text (names (codes "user.domain_id")) body) _ (λ domain.
    step Q (If IsPassword) (optional password_text (names (codes "user.password")) body) _ (optional_in IsPassword password_text password_in _ body) (λ password is_password.
    skip Q (optional truth (names (codes "user.enabled")) body) _ (λ enabled.
    step Q (If (λ (said : MfaIn). AreMfaRules said.rules)) (factors_at body) _ (factors_in body) (λ factors are_factors.
    step Q (IsIdFor new) (id_at new (names (codes "user.id")) body) _ (row_id_in new _ body) (λ id is_id.
    (refl, (made_name new id name is_name is_id, is_password, are_factors))))))))

group_row_in : (new : Bool) (body : Place) → IfOk (group_of new body) (IsMadeFor kind.Group new)
unfolding group_of
group_row_in new body =
    let Q : Made → Type 0 = IsMadeFor kind.Group new in
    step Q (IsMadeName new None) (needed_if new name_text (names (codes "group.name")) body) _ (row_name_in new _ body) (λ name is_name.
    skip Q (optional id_text (names (codes "group.domain_id")) body) _ (λ domain.
    step Q (If IsDescription) (optional description_text (names (codes "group.description")) body) _ (described _ body) (λ description is_description.
    step Q (IsIdFor new) (id_at new (names (codes "group.id")) body) _ (row_id_in new _ body) (λ id is_id.
    (refl, (made_name new id name is_name is_id, is_description))))))

role_row_in : (new : Bool) (body : Place) → IfOk (role_of new body) (IsMadeFor kind.Role new)
unfolding role_of
role_row_in new body =
    let Q : Made → Type 0 = IsMadeFor kind.Role new in
    step Q (IsMadeName new None) (needed_if new name_text (names (codes "role.name")) body) _ (row_name_in new _ body) (λ name is_name.
    step Q (If IsDescription) (optional description_text (names (codes "role.description")) body) _ (described _ body) (λ description is_description.
    step Q (IsIdFor new) (id_at new (names (codes "role.id")) body) _ (row_id_in new _ body) (λ id is_id.
    (refl, (made_name new id name is_name is_id, is_description)))))

row_in : (kind : MadeKind) (new : Bool) (body : Place) → IfOk (made_of kind new body) (IsMadeFor kind new)
row_in kind.Domain new body = domain_row_in new body
row_in kind.Project new body = project_row_in new body
row_in kind.User new body = user_row_in new body
row_in kind.Group new body = group_row_in new body
row_in kind.Role new body = role_row_in new body

-- passwords

passwords_in : (body : Place) → IfOk (password_of body) (IsBodyFor form.Password)
unfolding password_of
passwords_in body =
    let Q : BodyIn → Type 0 = IsBodyFor form.Password in
    step Q IsPassword (needed password_text (names (codes "user.original_password")) body) _ (needed_in IsPassword password_text password_in _ body) (λ original is_original.
    step Q IsPassword (needed password_text (names (codes "user.password")) body) _ (needed_in IsPassword password_text password_in _ body) (λ password is_password.
    (is_original, is_password)))

-- trusts

-- rows that are named, one for each of so many values
abbrev AreNamed : ℕ → List Named → Type 0
AreNamed = AreEach IsNamed

all_named_in : (path : List ℕ) (items : Items) → IfOk (all_named path items) (AreNamed (count_of items))
all_named_in path items = each_in IsNamed (λ value. named_at (record { path = path; value = Some value })) (λ value. named_in _) items

abbrev AreRoles : List Named → Type 0
AreRoles roles = AllByRecursion IsNamed roles × (length roles ≤ TRUST_ROLES)

abbrev AreFew : Items → Type 0
AreFew items = count_of items ≤ TRUST_ROLES

roles_in : (names : List (List ℕ)) (body : Place) → IfOk (roles_at names body) AreRoles
unfolding roles_at
roles_in names body =
    step AreRoles AreFew (needed (list_of TRUST_ROLES) names body) _ (needed_in AreFew (list_of TRUST_ROLES) (list_in TRUST_ROLES) names body) (λ items few.
    weaken AreRoles (AreNamed (count_of items)) (all_named (path_at names body) items) (all_named_in (path_at names body) items) (λ rows are.
    (are.0, omega (arith, are.1, few))))

whole_by : (least most number : ℕ) (fits : Bool) → is_in_range least most number ≡ fits
    → IfOk (need fits misfit.Range >>= (λ _. Ok number)) (IsInRange least most)
whole_by least most number true is = in_range_from least most number is
whole_by least most number false is = tt

pub whole_in : (least most : ℕ) (value : Data) → IfOk (whole least most value) (IsInRange least most)
unfolding whole
whole_in least most value =
    skip (IsInRange least most) (found (option_and_then as_u64 (as_number value)) misfit.Kind) _ (λ number. whole_by least most number _ refl)

uses_in : (value : Data) → IfOk (whole 1 USES value) AreUses
uses_in value = whole_in 1 USES value

moment_in : (text : List ℕ) (moment : Option ℕ) → time_of text ≡ moment → IfOk (found moment misfit.Kind) IsExpiry
moment_in text (Some moment) is = last_moment text moment (time_is text moment is)
moment_in text None is = tt

expiry_in : (value : Data) → IfOk (time_text value) IsExpiry
unfolding time_text
expiry_in value = skip IsExpiry (any_text value) _ (λ text. moment_in text _ refl)

abbrev AreAsked : Limits → Type 0
AreAsked limits = IfSome limits.expires IsExpiry × IfSome limits.remaining AreUses

asked_in : (body : Place) → IfOk (limits_asked body) AreAsked
unfolding limits_asked
asked_in body =
    step AreAsked (If IsExpiry) (optional time_text (names (codes "trust.expires_at")) body) _ (optional_in IsExpiry time_text expiry_in _ body) (λ expires is_expiry.
    step AreAsked (If AreUses) (optional (whole 1 USES) (names (codes "trust.remaining_uses")) body) _ (optional_in AreUses (whole 1 USES) uses_in _ body) (λ remaining are_uses.
    skip AreAsked (optional truth (names (codes "trust.allow_redelegation")) body) _ (λ redelegate.
    skip AreAsked (optional (whole 0 (2 ^ 32 - 1)) (names (codes "trust.redelegation_count")) body) _ (λ count.
    skip AreAsked (optional id_text (names (codes "trust.redelegated_trust_id")) body) _ (λ parent. (is_expiry, are_uses))))))

abbrev AreLimits : Limits → Type 0
AreLimits limits = IfSome limits.expires IsExpiry × IfSome limits.remaining AreUses × IsPassable limits.redelegate limits.remaining

where_passable : (limits : Limits) (why : ShapeFault) (remaining : Option ℕ) (redelegate : Bool) → (IsPassable redelegate remaining → AreLimits limits)
    → IfOk (need (not (is_some remaining && redelegate)) why >>= (λ _. Ok limits)) AreLimits
where_passable limits why None true on = on refl
where_passable limits why None false on = on tt
where_passable limits why (Some uses) true on = tt
where_passable limits why (Some uses) false on = on tt

limits_in : (body : Place) → IfOk (limits_of body) AreLimits
unfolding limits_of
limits_in body =
    step AreLimits AreAsked (limits_asked body) _ (asked_in body) (λ limits are.
    where_passable limits _ limits.remaining limits.redelegate (λ passable. (are.0, are.1, passable)))

trust_in : (body : Place) → IfOk (trust_of body) IsTrustBody
unfolding trust_of
trust_in body =
    skip IsTrustBody (needed id_text (names (codes "trust.trustor_user_id")) body) _ (λ trustor.
    skip IsTrustBody (needed id_text (names (codes "trust.trustee_user_id")) body) _ (λ trustee.
    skip IsTrustBody (needed id_text (names (codes "trust.project_id")) body) _ (λ project.
    skip IsTrustBody (needed truth (names (codes "trust.impersonation")) body) _ (λ impersonation.
    step IsTrustBody AreRoles (roles_at (names (codes "trust.roles")) body) _ (roles_in _ body) (λ roles are_roles.
    step IsTrustBody AreLimits (limits_of body) _ (limits_in body) (λ limits are_limits.
    (are_roles.0, are_roles.1, are_limits.0, are_limits.1, are_limits.2)))))))

-- application credentials

roles_from_in : (items : Option Items) (path : List ℕ) → If AreFew items → IfOk (roles_from items path) (If AreRoles)
roles_from_in None path few = tt
roles_from_in (Some items) path few =
    step (If AreRoles) (AreNamed (count_of items)) (all_named path items) _ (all_named_in path items) (λ rows are.
    (are.0, omega (arith, are.1, few)))

roles_given_in : (names : List (List ℕ)) (body : Place) → IfOk (roles_given names body) (If AreRoles)
unfolding roles_given
roles_given_in names body =
    step (If AreRoles) (If AreFew) (optional (list_of TRUST_ROLES) names body) _ (optional_in AreFew (list_of TRUST_ROLES) (list_in TRUST_ROLES) names body) (λ items few.
    roles_from_in items (path_at names body) few)

description_or_none : (description : Option Text) → If IsDescription description → IsDescription (unwrap_or description [])
description_or_none (Some description) is = is
description_or_none None is = omega arith

app_cred_in : (body : Place) → IfOk (app_cred_of body) IsAppCredBody
unfolding app_cred_of
app_cred_in body =
    let Q : AppCredBody → Type 0 = IsAppCredBody in
    step Q IsName (needed name_text (names (codes "application_credential.name")) body) _ (needed_in IsName name_text name_in _ body) (λ name is_name.
    step Q (If IsCredSecret) (optional cred_secret (names (codes "application_credential.secret")) body) _ (optional_in IsCredSecret cred_secret cred_secret_in _ body) (λ secret is_secret.
    step Q (If IsDescription) (optional description_text (names (codes "application_credential.description")) body) _ (described _ body) (λ description is_description.
    step Q (If IsExpiry) (optional time_text (names (codes "application_credential.expires_at")) body) _ (optional_in IsExpiry time_text expiry_in _ body) (λ expires is_expiry.
    step Q (If AreRoles) (roles_given (names (codes "application_credential.roles")) body) _ (roles_given_in _ body) (λ roles are_roles.
    skip Q (optional truth (names (codes "application_credential.unrestricted")) body) _ (λ unrestricted.
    skip Q (optional (list_of 0) (names (codes "application_credential.access_rules")) body) _ (λ no_rules.
    (is_name, is_secret, description_or_none description is_description, is_expiry, are_roles))))))))

-- bodies

form_in : (form : Form) (place : Place) → IfOk (form_of form place) (IsBodyFor form)
unfolding form_of
form_in form.Login place = step (IsBodyFor form.Login) IsLogin (login_of place) _ (login_in place) (λ login is. is)
form_in (form.Made kind new) place = step (IsBodyFor (form.Made kind new)) (IsMadeFor kind new) (made_of kind new place) _ (row_in kind new place) (λ made is. is)
form_in form.Password place = passwords_in place
form_in form.Trust place = step (IsBodyFor form.Trust) IsTrustBody (trust_of place) _ (trust_in place) (λ trust is. is)
form_in form.AppCred place = step (IsBodyFor form.AppCred) IsAppCredBody (app_cred_of place) _ (app_cred_in place) (λ cred is. is)
form_in form.Secret place =
    step (IsBodyFor form.Secret) (λ (secret : SecretBody). IsTotpSecret secret.secret) (secret_of place) _ (secret_is place) (λ secret is. is)

body_in : (form : Form) (bytes : List ℕ) → IfOk (body_of form bytes) (IsBodyFor form)
unfolding body_of
body_in form bytes = skip (IsBodyFor form) (found (document bytes) fault.NotJson) _ (λ value. form_in form (whole_document value))

pub bodies_in_range : BodiesAreInRange
bodies_in_range form bytes body is = rw is at (body_in form bytes)
