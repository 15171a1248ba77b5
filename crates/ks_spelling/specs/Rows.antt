-- The spellings of the rows of a state: their fields in order.
use Rattle.std.specs.Prelude.{List, [], ◌∷◌, refl}
use Rattle.ks_base.specs.declared.app_creds.AppCredRow.{AppCredRow}
use Rattle.ks_base.specs.declared.catalog.EndpointRow.{EndpointRow}
use Rattle.ks_base.specs.declared.catalog.Interface.{Interface}
use Rattle.ks_base.specs.declared.catalog.Interface.TheVariants as interfaces
use Rattle.ks_base.specs.declared.catalog.RegionRow.{RegionRow}
use Rattle.ks_base.specs.declared.catalog.ServiceRow.{ServiceRow}
use Rattle.ks_base.specs.declared.factors.MfaRow.{MfaRow}
use Rattle.ks_base.specs.declared.factors.SecretRow.{SecretRow}
use Rattle.ks_base.specs.declared.rows.DomainRow.{DomainRow}
use Rattle.ks_base.specs.declared.rows.ProjectRow.{ProjectRow}
use Rattle.ks_base.specs.declared.rows.GroupRow.{GroupRow}
use Rattle.ks_base.specs.declared.rows.RoleRow.{RoleRow}
use Rattle.ks_base.specs.declared.users.PasswordRow.{PasswordRow}
use Rattle.ks_base.specs.declared.users.UserRow.{UserRow}
use Rattle.ks_base.specs.declared.users.MemberRow.{MemberRow}
use Rattle.ks_base.specs.declared.grants.Actor.{Actor}
use Rattle.ks_base.specs.declared.grants.Actor.TheVariants as actors
use Rattle.ks_base.specs.declared.grants.Target.{Target}
use Rattle.ks_base.specs.declared.grants.Target.TheVariants as targets
use Rattle.ks_base.specs.declared.grants.GrantRow.{GrantRow}
use Rattle.ks_base.specs.declared.grants.ImplyRow.{ImplyRow}
use Rattle.ks_base.specs.declared.trusts.TrustRow.{TrustRow}
use Rattle.ks_base.specs.declared.key.Key.{Key}
use Rattle.ks_spelling.specs.Codes.{Code}
use Rattle.ks_spelling.specs.Leaves.{fixed, number32, number64}
use Rattle.ks_spelling.specs.Wholes.{nothing, both, made, listed}
use Rattle.ks_spelling.specs.Variants.{Variant, Part, variant, part, there, InPlace, IsThere, one_of, truth, optional}
use Rattle.ks_spelling.specs.Values.{bytes_code, id_code, text_code}

-- | the rows of a state, what grants are to and at, an endpoint's interface, and keys: their fields in order
unfoldable pub domain_code : Code DomainRow
domain_code = made (both id_code (both text_code (both text_code truth))) (record {
  make = λ p. record { id = p.0; name = p.1.0; description = p.1.1.0; enabled = p.1.1.1 };
  of = λ row. (row.id, (row.name, (row.description, row.enabled)));
  of_made = λ p. refl;
  made_of = λ row. refl;
})

unfoldable pub project_code : Code ProjectRow
project_code = made (both id_code (both id_code (both id_code (both text_code (both text_code truth))))) (record {
  make = λ p. record { id = p.0; domain = p.1.0; parent = p.1.1.0; name = p.1.1.1.0; description = p.1.1.1.1.0; enabled = p.1.1.1.1.1 };
  of = λ row. (row.id, (row.domain, (row.parent, (row.name, (row.description, row.enabled)))));
  of_made = λ p. refl;
  made_of = λ row. refl;
})

unfoldable pub password_code : Code PasswordRow
password_code = made (both (fixed 16) (both number32 (fixed 32))) (record {
  make = λ p. record { salt = p.0; rounds = p.1.0; digest = p.1.1 };
  of = λ row. (row.salt, (row.rounds, row.digest));
  of_made = λ p. refl;
  made_of = λ row. refl;
})

unfoldable pub user_code : Code UserRow
user_code = made (both id_code (both id_code (both text_code (both truth (optional password_code))))) (record {
  make = λ p. record { id = p.0; domain = p.1.0; name = p.1.1.0; enabled = p.1.1.1.0; password = p.1.1.1.1 };
  of = λ row. (row.id, (row.domain, (row.name, (row.enabled, row.password))));
  of_made = λ p. refl;
  made_of = λ row. refl;
})

unfoldable pub group_code : Code GroupRow
group_code = made (both id_code (both id_code (both text_code text_code))) (record {
  make = λ p. record { id = p.0; domain = p.1.0; name = p.1.1.0; description = p.1.1.1 };
  of = λ row. (row.id, (row.domain, (row.name, row.description)));
  of_made = λ p. refl;
  made_of = λ row. refl;
})

unfoldable pub role_code : Code RoleRow
role_code = made (both id_code (both text_code text_code)) (record {
  make = λ p. record { id = p.0; name = p.1.0; description = p.1.1 };
  of = λ row. (row.id, (row.name, row.description));
  of_made = λ p. refl;
  made_of = λ row. refl;
})

unfoldable pub trust_code : Code TrustRow
trust_code =
    made (both id_code (both id_code (both id_code (both id_code (both (listed number32 id_code) (both truth (both (optional number64) (both (optional number64) (both number32 (optional id_code))))))))))
    (record {
      make = λ p. record {
        id = p.0;
        trustor = p.1.0;
        trustee = p.1.1.0;
        project = p.1.1.1.0;
        roles = p.1.1.1.1.0;
        impersonation = p.1.1.1.1.1.0;
        expires = p.1.1.1.1.1.1.0;
        remaining = p.1.1.1.1.1.1.1.0;
        count = p.1.1.1.1.1.1.1.1.0;
        parent = p.1.1.1.1.1.1.1.1.1;
      };
      of = λ row. (row.id, (row.trustor, (row.trustee, (row.project, (row.roles, (row.impersonation, (row.expires, (row.remaining, (row.count, row.parent)))))))));
      of_made = λ p. refl;
      made_of = λ row. refl;
    })

unfoldable pub member_code : Code MemberRow
member_code = made (both id_code id_code) (record {
  make = λ p. record { group = p.0; user = p.1 };
  of = λ row. (row.group, row.user);
  of_made = λ p. refl;
  made_of = λ row. refl;
})

unfoldable pub imply_code : Code ImplyRow
imply_code = made (both id_code id_code) (record {
  make = λ p. record { prior = p.0; implied = p.1 };
  of = λ row. (row.prior, row.implied);
  of_made = λ p. refl;
  made_of = λ row. refl;
})

-- a user at 0, a group at 1
abbrev pub actor_parts : Actor → Part Actor
actor_parts (actors.User x) = part 0 id_code actors.User x
actor_parts (actors.Group x) = part 1 id_code actors.Group x

abbrev pub actor_table : List (Variant Actor)
actor_table = variant id_code actors.User ∷ variant id_code actors.Group ∷ []

pub actor_in_place : InPlace actor_parts actor_table 0
actor_in_place = (λ x. refl, (λ x. refl, tt))

pub actor_there : (x : Actor) → IsThere actor_table x (actor_parts x)
actor_there (actors.User x) rest fits = there 0 id_code actors.User x rest fits
actor_there (actors.Group x) rest fits = there 1 id_code actors.Group x rest fits

unfoldable pub actor_code : Code Actor
actor_code = one_of actor_parts actor_table actor_in_place actor_there

-- a project at 0, a domain at 1, the system at 2
abbrev pub target_parts : Target → Part Target
target_parts (targets.Project x) = part 0 id_code targets.Project x
target_parts (targets.Domain x) = part 1 id_code targets.Domain x
target_parts targets.System = part 2 nothing (λ x. targets.System) tt

abbrev pub target_table : List (Variant Target)
target_table = variant id_code targets.Project ∷ variant id_code targets.Domain ∷ variant nothing (λ x. targets.System) ∷ []

pub target_in_place : InPlace target_parts target_table 0
target_in_place = (λ x. refl, (λ x. refl, (λ x. refl, tt)))

pub target_there : (x : Target) → IsThere target_table x (target_parts x)
target_there (targets.Project x) rest fits = there 0 id_code targets.Project x rest fits
target_there (targets.Domain x) rest fits = there 1 id_code targets.Domain x rest fits
target_there targets.System rest fits = refl

unfoldable pub target_code : Code Target
target_code = one_of target_parts target_table target_in_place target_there

unfoldable pub grant_code : Code GrantRow
grant_code = made (both actor_code (both target_code (both truth id_code))) (record {
  make = λ p. record { actor = p.0; target = p.1.0; inherited = p.1.1.0; role = p.1.1.1 };
  of = λ row. (row.actor, (row.target, (row.inherited, row.role)));
  of_made = λ p. refl;
  made_of = λ row. refl;
})

-- | the 16 bytes that sign, and the 16 that encipher
unfoldable pub key_code : Code Key
key_code = made (both (fixed 16) (fixed 16)) (record {
  make = λ p. record { signing = p.0; encryption = p.1 };
  of = λ key. (key.signing, key.encryption);
  of_made = λ p. refl;
  made_of = λ key. refl;
})

-- | these, by their fields
unfoldable pub region_code : Code RegionRow
region_code = made (both id_code (both (optional id_code) text_code)) (record {
  make = λ p. record { id = p.0; parent = p.1.0; description = p.1.1 };
  of = λ row. (row.id, (row.parent, row.description));
  of_made = λ p. refl;
  made_of = λ row. refl;
})

unfoldable pub service_code : Code ServiceRow
service_code = made (both id_code (both text_code (both text_code (both text_code truth)))) (record {
  make = λ p. record { id = p.0; kind = p.1.0; name = p.1.1.0; description = p.1.1.1.0; enabled = p.1.1.1.1 };
  of = λ row. (row.id, (row.kind, (row.name, (row.description, row.enabled))));
  of_made = λ p. refl;
  made_of = λ row. refl;
})

-- public at 0, internal at 1, admin at 2
abbrev pub interface_parts : Interface → Part Interface
interface_parts interfaces.Public = part 0 nothing (λ x. interfaces.Public) tt
interface_parts interfaces.Internal = part 1 nothing (λ x. interfaces.Internal) tt
interface_parts interfaces.Admin = part 2 nothing (λ x. interfaces.Admin) tt

abbrev pub interface_table : List (Variant Interface)
interface_table = variant nothing (λ x. interfaces.Public) ∷ variant nothing (λ x. interfaces.Internal) ∷ variant nothing (λ x. interfaces.Admin) ∷ []

pub interface_in_place : InPlace interface_parts interface_table 0
interface_in_place = (λ x. refl, (λ x. refl, (λ x. refl, tt)))

pub interface_there : (x : Interface) → IsThere interface_table x (interface_parts x)
interface_there interfaces.Public rest fits = refl
interface_there interfaces.Internal rest fits = refl
interface_there interfaces.Admin rest fits = refl

unfoldable pub interface_code : Code Interface
interface_code = one_of interface_parts interface_table interface_in_place interface_there

unfoldable pub endpoint_code : Code EndpointRow
endpoint_code = made (both id_code (both id_code (both (optional id_code) (both interface_code (both text_code truth))))) (record {
  make = λ p. record { id = p.0; service = p.1.0; region = p.1.1.0; interface = p.1.1.1.0; url = p.1.1.1.1.0; enabled = p.1.1.1.1.1 };
  of = λ row. (row.id, (row.service, (row.region, (row.interface, (row.url, row.enabled)))));
  of_made = λ p. refl;
  made_of = λ row. refl;
})

unfoldable pub app_cred_code : Code AppCredRow
app_cred_code =
    made (both id_code (both id_code (both id_code (both text_code (both text_code (both (listed number32 id_code) (both password_code (both (optional number64) truth))))))))
    (record {
      make = λ p. record {
        id = p.0;
        user = p.1.0;
        project = p.1.1.0;
        name = p.1.1.1.0;
        description = p.1.1.1.1.0;
        roles = p.1.1.1.1.1.0;
        secret = p.1.1.1.1.1.1.0;
        expires = p.1.1.1.1.1.1.1.0;
        unrestricted = p.1.1.1.1.1.1.1.1;
      };
      of = λ row. (row.id, (row.user, (row.project, (row.name, (row.description, (row.roles, (row.secret, (row.expires, row.unrestricted))))))));
      of_made = λ p. refl;
      made_of = λ row. refl;
    })

unfoldable pub secret_code : Code SecretRow
secret_code = made (both id_code (both id_code bytes_code)) (record {
  make = λ p. record { id = p.0; user = p.1.0; secret = p.1.1 };
  of = λ row. (row.id, (row.user, row.secret));
  of_made = λ p. refl;
  made_of = λ row. refl;
})

unfoldable pub mfa_code : Code MfaRow
mfa_code = made (both id_code (both truth bytes_code)) (record {
  make = λ p. record { user = p.0; enabled = p.1.0; rules = p.1.1 };
  of = λ row. (row.user, (row.enabled, row.rules));
  of_made = λ p. refl;
  made_of = λ row. refl;
})
