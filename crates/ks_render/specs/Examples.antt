-- A token, a catalog and credentials whose bodies are known byte for byte.
-- Source: own; RFC 4226, appendix D.
use Rattle.std.specs.Prelude.{ℕ, List, [], ◌∷◌, Some, None, true, false, codes}
use Rattle.ks_base.specs.declared.app_creds.AppCredRow.{AppCredRow}
use Rattle.ks_base.specs.declared.catalog.Interface.TheVariants as interface
use Rattle.ks_base.specs.declared.factors.SecretRow.{SecretRow}
use Rattle.ks_catalog.specs.declared.offers.EndpointOut.{EndpointOut}
use Rattle.ks_catalog.specs.declared.offers.ServiceOut.{ServiceOut}
use Rattle.ks_machine.specs.declared.body_out.Titled.{Titled}
use Rattle.ks_machine.specs.declared.body_out.TokenOut.{TokenOut}

abbrev pub titled : List ℕ → List ℕ → Titled
titled id name = record { id = id; name = name }

abbrev pub default_domain : Titled
default_domain = titled (codes "default") (codes "Default")

-- a login with a password on a project, in which the user has one role, whose body is known byte for byte, as of all these
abbrev pub plain_login : TokenOut
plain_login = record {
  text = [];
  made = true;
  audit = 0 ∷ 1 ∷ 2 ∷ 3 ∷ 4 ∷ 5 ∷ 6 ∷ 7 ∷ 8 ∷ 9 ∷ 10 ∷ 11 ∷ 12 ∷ 13 ∷ 14 ∷ 15 ∷ [];
  chain = None;
  methods = 1;
  issued = 499_162_800;
  expires = 499_166_400;
  user = record { id = codes "00112233445566778899aabbccddeeff"; name = codes "ann"; domain = default_domain };
  project = Some (record { id = codes "a0000000000000000000000000000001"; name = codes "demo"; domain = default_domain });
  domain = None;
  trust = None;
  roles = Some (titled (codes "b0000000000000000000000000000001") (codes "admin") ∷ []);
  system = false;
  catalog = Some [];
}

abbrev pub plain_endpoint : EndpointOut
plain_endpoint = record {
  id = codes "e0000000000000000000000000000001";
  interface = interface.Public;
  region = None;
  url = codes "http://c:8774/a0000000000000000000000000000001";
}

-- | a service with one endpoint, without a region
abbrev pub plain_catalog : List ServiceOut
plain_catalog = record { id = codes "50000000000000000000000000000001"; kind = codes "compute"; name = codes "nova"; endpoints = plain_endpoint ∷ [] } ∷ []

-- | an application credential with one role
abbrev pub plain_cred : AppCredRow
plain_cred = record {
  id = codes "c0000000000000000000000000000001";
  user = codes "00112233445566778899aabbccddeeff";
  project = codes "a0000000000000000000000000000001";
  name = codes "backup";
  description = codes "each night";
  roles = codes "b0000000000000000000000000000001" ∷ [];
  secret = record { salt = []; rounds = 0; digest = [] };
  expires = Some 499_166_400;
  unrestricted = false;
}

abbrev pub plain_roles : List Titled
plain_roles = titled (codes "b0000000000000000000000000000001") (codes "member") ∷ []

-- | the secret of RFC 4226, appendix D
abbrev pub plain_secret : SecretRow
plain_secret = record {
  id = codes "d0000000000000000000000000000001";
  user = codes "00112233445566778899aabbccddeeff";
  secret = codes "12345678901234567890";
}
